-- What a step on a body promises that adds rows. Assumes nothing: these are definitions.
use Rattle.std.specs.Prelude.{ℕ}
use Rattle.refusals.specs.Refusals.{Result}
use Rattle.mir.specs.declared.Counts.{Counts}
use Rattle.state.specs.Results.{Stepped}
use Rattle.state.specs.State.{Body, State, decode}
use Rattle.state.specs.Promises.{Ready, Answers, stepped_result, stepped_counts}

-- the body b₀ before, b after; whatever block a later step may terminate, this one terminates none
abbrev pub Adds : (State → Result State) → Counts → Body → Stepped → Body → Type 0
Adds defined c b₀ r b = (current : ℕ) → Ready b₀ c → Answers b₀ c current b (stepped_counts r) (stepped_result r b) (defined (decode b₀ c))
