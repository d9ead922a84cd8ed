-- The local of a binding, by the ways through the code. Assumes nothing.
use mathlib.Core.Path.{◌≡◌, refl}
use mathlib.Core.List.{List, [], ◌∷◌}
use Prim.Native.Nat.{ℕ, zero, suc, ◌<◌}
use native.Mathlib.Omega.{arith}
use borrow.Author.Tests.{eq-eqb, ne_eqb}
use lib.ListN.{length, get_or}
use Rattle.refusals.specs.declared.MirLowerError.{MirLowerError}
use Rattle.refusals.specs.Refusals.{done, stopped}
use Rattle.lower_spec.specs.Temps.{binding_local}

-- within a list it does not matter what there would be outside
get_d_within : (xs : List ℕ) (i d d' : ℕ) → i < length xs → get_or xs i d ≡ get_or xs i d'
get_d_within [] i d d' h = absurd (omega arith)
get_d_within (x ∷ xs) zero d d' h = refl
get_d_within (x ∷ xs) (suc i) d d' h = get_d_within xs i d d' (omega arith)

-- `binding_local`
module _ (bindings : List ℕ) (b : ℕ) (within : b < length bindings) where
  -- the binding has no local
  pub no_local : get_or bindings b 0 ≡ 65535 → stopped MirLowerError.InaccessibleLocal ≡ binding_local bindings b
  unfolding binding_local
  no_local h = rw (get_d_within bindings b 65535 0 within, eq-eqb (get_or bindings b 0) 65535 h) refl

  -- the binding has one
  pub bound_local : (get_or bindings b 0 ≡ 65535 → ⊥) → done (record { 0 = get_or bindings b 0 }) ≡ binding_local bindings b
  unfolding binding_local
  bound_local h = rw (get_d_within bindings b 65535 0 within, ne_eqb (get_or bindings b 0) 65535 h) refl
