-- A run as a function: one step after another, and until it stops. Document 01: it "stops at the end of the then block or on reaching the else".
-- Assumes nothing: these are definitions.
use Rattle.std.specs.Prelude.{Some, None}
use Rattle.std.specs.Prelude.{ℕ, zero, suc, Bool, false, cond, List, [], ◌∷◌, ◌++◌, eqb}
use Rattle.mir.specs.declared.blocks.Terminator.{Terminator}
use Rattle.lower_spec.specs.Results.{OptBlock}
use Rattle.views.specs.Views.{Line, Mir}
use Rattle.views.specs.Growing.{terminator_at}
use Rattle.meaning.specs.Running.{Scene, Env, execute, switched}

-- where a run is: a block, the lines still to be looked at, what the locals hold, and the blocks entered so far
pub record Position : Type 0 where
  pub block : ℕ
  pub lines : List Line
  pub env : Env
  pub entered : List ℕ

-- how a run ends: at the end of then, on reaching the else, where no terminator leads on, or not within so many steps
pub data Ending : Type 0 where
  at_then : Position → Ending
  at_else : Position → Ending
  stuck : Position → Ending
  unfinished : Ending

abbrev pub is_else : OptBlock → ℕ → Bool
is_else None b = false
is_else (Some e) b = eqb b e.0

-- a line, in its block
abbrev pub line_done : Scene → Position → Line → List Line → Position
line_done scene at x lines =
    record {
      block = at.block;
      lines = lines;
      env = cond (eqb x.block at.block) (execute x.statement scene at.env) at.env;
      entered = at.entered;
    }

-- a block is entered
abbrev pub entering : Mir → Position → ℕ → Position
entering m at b = record { block = b; lines = m.lines; env = at.env; entered = at.entered ++ (b ∷ []) }

-- where a terminator leads
pub data Leap : Type 0 where
  to : ℕ → Leap
  nowhere : Leap

abbrev pub leap : Terminator → Env → Leap
leap Terminator.Open env = nowhere
leap (Terminator.Goto b) env = to b.0
leap (Terminator.Switch l low high then else) env = to (switched (env l.0) low high then.0 else.0)
leap Terminator.Unreachable env = nowhere
leap (Terminator.Drop l b) env = nowhere

-- one step: a line, or behind the last one the terminator; where it leads nowhere the run stays
abbrev pub leap_to : Mir → Position → Leap → Position
leap_to m at (to b) = entering m at b
leap_to m at nowhere = at

abbrev pub advanced : Scene → Mir → Position → List Line → Position
advanced scene m at [] = leap_to m at (leap (terminator_at m at.block) at.env)
advanced scene m at (x ∷ lines) = line_done scene at x lines

-- so many steps
unfoldable pub steps : Scene → Mir → ℕ → Position → Position
steps scene m zero at = at
steps scene m (suc n) at = steps scene m n (advanced scene m at at.lines)

module _ (scene : Scene) (m : Mir) (then : ℕ) (else : OptBlock) where
  -- a terminator is followed, and then `next` goes on
  abbrev pub leapt : (Position → Ending) → Position → Leap → Ending
  leapt next at (to b) = cond (is_else else b) (at_else (entering m at b)) (next (entering m at b))
  leapt next at nowhere = stuck at

  -- a line, or behind the last one the terminator
  abbrev pub onward : (Position → Ending) → Position → List Line → Ending
  onward next at [] = cond (eqb at.block then) (at_then at) (leapt next at (leap (terminator_at m at.block) at.env))
  onward next at (x ∷ lines) = next (line_done scene at x lines)

  -- at most so many steps
  unfoldable pub runs : ℕ → Position → Ending
  runs zero at = unfinished
  runs (suc n) at = onward (λ p. runs n p) at at.lines
