-- The blocks of a test and its end, cut where the code is cut, and what the functions promise. Assumes nothing: these are definitions.
use Rattle.std.specs.Prelude.{Some, None}
use Rattle.std.specs.Prelude.{ℕ, List}
use Rattle.refusals.specs.Refusals.{Result, done, and_then}
use Rattle.place.specs.declared.LocalId.{LocalId}
use Rattle.place.specs.declared.Place.{Place}
use Rattle.mir.specs.declared.BasicBlockId.{BasicBlockId}
use Rattle.mir.specs.declared.Counts.{Counts}
use Rattle.mir.specs.Results.{NewBlock}
use Rattle.mir.specs.declared.blocks.Terminator.{Terminator}
use Rattle.mir.specs.declared.rvalues.BinOp.{BinOp}
use Rattle.mir.specs.declared.rvalues.Left.{Left}
use Rattle.mir.specs.Blocks.{new_block}
use Rattle.mir.specs.Rvalues.{binary_row}
use Rattle.state.specs.State.{Body, State, decode}
use Rattle.state.specs.Steps.{next_block, next_local, try_block, try_statement, set_terminator}
use Rattle.state.specs.Promises.{Ready, Answers, stepped_result, stepped_counts}
use Rattle.state.specs.Results.{Stepped}
use Rattle.lower_spec.specs.Results.{OptBlock}
use Rattle.lower_spec.specs.Temps.{temp}
use Rattle.pattern_matching.specs.Walking.{Ctx, Out, Walk, step, out, with_state, else_state, else_block}
use Rattle.pattern_matching.specs.Tests.{bool_word, if_true}

-- the else that there is, or a new block, with the counts
unfoldable pub else_made : Counts → OptBlock → NewBlock
else_made c (Some b) = Some (c, b)
else_made c None = new_block c

-- `compare`, its state alone
unfoldable pub compare_step : List ℕ → BinOp → Left → Place → State → BasicBlockId → BasicBlockId → BasicBlockId → Result State
compare_step image op left place st current then other =
    and_then (temp image st bool_word current) (λ st₁.
    and_then (try_statement st₁ (binary_row current (next_local st) op left place)) (λ st₂.
    done (if_true st₂ current (next_local st) then other)))

-- a block goes on by a local's value: `then` is made before an else
unfoldable pub then_switch : ℕ → LocalId → ℕ → ℕ → Ctx → BasicBlockId → OptBlock → Walk Out
then_switch p l low high ctx current els =
    step p (try_block ctx.state) (λ st₁.
    step p (else_state st₁ els) (λ st₂.
    out (with_state ctx (set_terminator st₂ current (Terminator.Switch l low high (next_block ctx.state) (else_block st₁ els)))) (next_block ctx.state) (Some (else_block st₁ els))))

-- what a step on a body promises: b₀ before, and b after
abbrev pub Steps : (State → Result State) → Counts → BasicBlockId → Body → Stepped → Body → Type 0
Steps defined c current b₀ r b = Ready b₀ c → Answers b₀ c current.0 b (stepped_counts r) (stepped_result r b) (defined (decode b₀ c))
