-- The numbers of a call of the fit test, by the ways through the code. Assumes nothing.
use Prim.Native.Nat.{ℕ, ◌≤◌, ◌<◌}
use mathlib.Core.Path.{◌≡◌}
use mathlib.Core.Bool.{false}
use mathlib.Core.List.{List}
use borrow.Author.Tests.{eq-eqb, ne_eqb, lt-ltb, le-ltb}
use lib.Dec.{ltb}
use lib.ListN.{length}
use Rattle.fit_handed.specs.Handed.{handed}

-- `call_names`
module _ (n patterns types : ℕ) (bindings : List ℕ) (p t : ℕ) where
  pub other_length : (length bindings ≡ n → ⊥) → false ≡ handed n patterns types bindings p t
  unfolding handed
  other_length h = rw (ne_eqb (length bindings) n h)

  module _ (long : length bindings ≡ n) where
    pub no_pattern_lem : patterns ≤ p → false ≡ handed n patterns types bindings p t
    unfolding handed
    no_pattern_lem h = rw (eq-eqb (length bindings) n long, le-ltb p patterns h)

    pub type_there : p < patterns → ltb t types ≡ handed n patterns types bindings p t
    unfolding handed
    type_there h = rw (eq-eqb (length bindings) n long, lt-ltb p patterns h)
