-- The walk over a pattern: what it carries along, what it gives, and its steps. Assumes nothing: these are definitions.
use Rattle.std.specs.Prelude.{Some, None}
use Rattle.std.specs.Prelude.{ℕ, zero, suc, ◌+◌, cond, List, [], ◌∷◌, ltb, get_or, set}
use Rattle.refusals.specs.declared.MirLowerError.{MirLowerError}
use Rattle.refusals.specs.Refusals.{Result}
use Rattle.refusals.specs.Refusals.{done, stopped}
use Rattle.place.specs.declared.LocalId.{LocalId}
use Rattle.place.specs.declared.Place.{Place}
use Rattle.place.specs.declared.elems.ProjectionElem.{ProjectionElem}
use Rattle.place.specs.Places.{onward}
use Rattle.mir.specs.declared.BasicBlockId.{BasicBlockId}
use Rattle.state.specs.State.{State}
use Rattle.state.specs.Steps.{next_block, try_block}
use Rattle.lower_spec.specs.Results.{OptBlock}
use Rattle.pattern_matching.specs.declared.MatchingMode.{MatchingMode}

-- what the walk carries along: the body and its scopes, and how often each pattern was visited, by its number
pub record Ctx : Type 0 where
  pub state : State
  pub visits : List ℕ

-- what the lowering of a pattern gives: the block where a match goes on, and the one where a mismatch does, if there is one
pub record Out : Type 0 where
  pub ctx : Ctx
  pub then : BasicBlockId
  pub else : OptBlock

-- what a walk gives, or the error that stops it and the pattern where it was met
pub data Walk (A : Type 0) : Type 0 where
  ok : A → Walk A
  refused : MirLowerError → ℕ → Walk A

-- the lowering of a pattern: by the mode, from a block, with an else or none, on a place
abbrev pub Lowering : Type 0
Lowering = MatchingMode → Ctx → BasicBlockId → OptBlock → Place → Walk Out

-- a walk, and then what follows it
abbrev pub next : {A B : Type 0} → Walk A → (A → Walk B) → Walk B
next (ok a) k = k a
next (refused e p) k = refused e p

-- a step while the pattern p is visited, and then what follows it
abbrev pub step : {A B : Type 0} → ℕ → Result A → (A → Walk B) → Walk B
step p (done a) k = k a
step p (stopped e) k = refused e p

abbrev pub out : Ctx → BasicBlockId → OptBlock → Walk Out
out ctx then else = ok (record { ctx = ctx; then = then; else = else })

abbrev pub with_state : Ctx → State → Ctx
with_state ctx st = record { state = st; visits = ctx.visits }

-- document 01's visit: "Every entry to `pattern_match_inner` raises its pattern's count in the state by one"
unfoldable pub visited : Ctx → ℕ → Ctx
visited ctx p = record { state = ctx.state; visits = set ctx.visits p (get_or ctx.visits p 0 + 1) }

-- the place one element on; a place has at most 16
unfoldable pub project : Place → ProjectionElem → Result Place
project place elem =
    cond (ltb place.len 16) (done (onward place elem)) (stopped MirLowerError.Limit)

-- a local as a place
unfoldable pub local_place : LocalId → Place
local_place l = record { local = l; len = 0; elems = 0 ∷ 0 ∷ 0 ∷ 0 ∷ 0 ∷ 0 ∷ 0 ∷ 0 ∷ 0 ∷ 0 ∷ 0 ∷ 0 ∷ 0 ∷ 0 ∷ 0 ∷ 0 ∷ [] }

-- the else that there is, or a new block
unfoldable pub else_state : State → OptBlock → Result State
else_state st (Some b) = done st
else_state st None = try_block st

-- its number
unfoldable pub else_block : State → OptBlock → BasicBlockId
else_block st (Some b) = b
else_block st None = next_block st

-- a pattern is entered: it is visited once more, and its derefs are appended to the place before its kind is looked at
unfoldable pub derefed : ℕ → Place → (Place → Walk Out) → ℕ → Walk Out
derefed p place k zero = k place
derefed p place k (suc n) = step p (project place ProjectionElem.Deref) (λ place'. derefed p place' k n)

unfoldable pub entered : ℕ → ℕ → Lowering → Lowering
entered p derefs lowering mode ctx current else place = derefed p place (lowering mode (visited ctx p) current else) derefs

-- what only a walk in Check does, and in the others leaves
abbrev pub in_check : MatchingMode → Walk Out → Walk Out → Walk Out
in_check MatchingMode.Check test skip = test
in_check MatchingMode.Bind test skip = skip
in_check MatchingMode.Assign test skip = skip
