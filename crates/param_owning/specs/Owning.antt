-- Whether the local of a parameter's binding is the parameter's own. Assumes nothing: these are definitions.
use Rattle.std.specs.Prelude.{ℕ, ◌≡◌, true, false, List, Ok, Err}
use Rattle.image.specs.Tree.{tree}
use Rattle.pattern_matching.specs.Walking.{Out, Walk, refused}
use Rattle.params_spec.specs.Params.{unless_bound, unless_own}
use Rattle.param_owning.specs.Results.{Owned}

-- what follows: nothing where it is its own, and otherwise the walk `other`; p is the pattern where a refusal is met
abbrev pub by_owned : Owned → ℕ → Walk Out → Walk Out → Walk Out
by_owned (Ok true) p bound other = bound
by_owned (Ok false) p bound other = other
by_owned (Err e) p bound other = refused e p

-- of the binding b and the local l
pub record TellsBinding (bindings : List ℕ) (b l : ℕ) (r : Owned) : Type 0 where
  pub tells : (p : ℕ) (bound other : Walk Out) → by_owned r p bound other ≡ unless_bound bindings p b l bound other

-- of the parameter p, whose local is l
pub record TellsParam (image bindings : List ℕ) (p l : ℕ) (r : Owned) : Type 0 where
  pub tells : (bound other : Walk Out) → by_owned r p bound other ≡ unless_own bindings (tree image p) l bound other
