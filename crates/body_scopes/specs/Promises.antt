-- What the functions promise: with the body at exit, their answers are what the definitions give. Assumes nothing: these are definitions.
use Rattle.std.specs.Prelude.{◌≡◌}
use Rattle.std.proofs.Math.Option.{none}
use Rattle.mir.specs.declared.Counts.{Counts}
use Rattle.state.specs.Results.{Stepped}
use Rattle.state.specs.State.{Body, decode}
use Rattle.state.specs.Steps.{try_scope, pop_scope}
use Rattle.state.specs.Promises.{Ready, stepped_result, stepped_counts}
use Rattle.body_tables.specs.Promises.{Adds}
use Rattle.drop_scopes_spec.specs.Dropping.{pop_assume_dropped}
use Rattle.drop_scopes_spec.specs.Promises.{ReadyAt}

-- a scope is opened: the body b₀ before, b after
pub record Opens (c : Counts) (b₀ : Body) (r : Stepped) (b : Body) : Type 0 where
  pub adds : Adds (λ st. try_scope st) c b₀ r b
  -- a refusal has written nothing
  pub untouched : stepped_counts r ≡ none → b ≡ b₀

-- the last scope is closed: the body b₀ before, b after
pub record Closed (c : Counts) (b₀ : Body) (c' : Counts) (b : Body) : Type 0 where
  pub says : Ready b₀ c → decode b c' ≡ pop_scope (decode b₀ c)
  pub goes : Ready b₀ c → Ready b c'

-- the same, where there is a scope
pub record Closes (c : Counts) (b₀ : Body) (r : Stepped) (b : Body) : Type 0 where
  pub says : Ready b₀ c → stepped_result r b ≡ pop_assume_dropped (decode b₀ c)
  pub goes : Ready b₀ c → ReadyAt (stepped_counts r) b
  -- a refusal has written nothing
  pub untouched : stepped_counts r ≡ none → b ≡ b₀
