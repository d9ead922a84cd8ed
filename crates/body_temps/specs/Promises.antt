-- What the functions promise: with the body at exit, their answers are what the definitions give. Assumes nothing: these are definitions.
use Rattle.std.specs.Prelude.{ℕ}
use Rattle.refusals.specs.Refusals.{Result}
use Rattle.mir.specs.declared.Counts.{Counts}
use Rattle.state.specs.State.{Body, State, decode}
use Rattle.state.specs.Promises.{Ready, Answers}
use Rattle.lower_spec.specs.Results.{NewTemp}
use Rattle.lower_spec.specs.Promises.{Numbered}
use Rattle.lower_spec.specs.Replies.{temp_result, temp_counts}

-- a temporary is made: the body b₀ before, b after; whatever block a later step may terminate, this one terminates none
pub record Makes (defined : State → Result State) (c : Counts) (b₀ : Body) (r : NewTemp) (b : Body) : Type 0 where
  pub answers : (current : ℕ) → Ready b₀ c → Answers b₀ c current b (temp_counts r) (temp_result r b) (defined (decode b₀ c))
  pub number : Numbered c r
