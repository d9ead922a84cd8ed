-- What the functions promise: with the body at exit, their answers are what the definitions give. Assumes nothing: these are definitions.
use Rattle.std.specs.Prelude.{◌≡◌}
use Rattle.refusals.specs.Refusals.{Result}
use Rattle.mir.specs.declared.BasicBlockId.{BasicBlockId}
use Rattle.mir.specs.declared.Counts.{Counts}
use Rattle.state.specs.State.{Body, State, decode}
use Rattle.state.specs.Promises.{Ready, Answers}
use Rattle.drop_scopes_spec.specs.Results.{AtBlock}
use Rattle.drop_scopes_spec.specs.Dropping.{At}
use Rattle.drop_scopes_spec.specs.Promises.{at_result, at_counts, LeftAt}

-- locals, scopes and entries are as they were
pub record Beside (b₀ b : Body) : Type 0 where
  pub locals : b.locals ≡ b₀.locals
  pub scopes : b.scopes ≡ b₀.scopes
  pub entries : b.entries ≡ b₀.entries

-- locals leave: the body b₀ before, b after
pub record Leaves (defined : State → Result At) (c : Counts) (block : BasicBlockId) (b₀ : Body) (r : AtBlock) (b : Body) : Type 0 where
  pub answers : Ready b₀ c → Answers b₀ c block.0 b (at_counts r) (at_result r b) (defined (decode b₀ c))
  pub left : LeftAt c block r
  pub beside : Beside b₀ b
