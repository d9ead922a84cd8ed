-- Words that are no type of a local. Assumes nothing.
use Prim.Native.Nat.{ℕ, ◌-◌, ◌≤◌}
use mathlib.Core.Path.{◌≡◌}
use native.Mathlib.Omega.{arith}
use borrow.Author.Tests.{le-ltb}
use lib.ListN.{get_or-eq_default}
use Rattle.place.specs.declared.place_ty.PlaceTy.{PlaceTy}
use Rattle.mir.specs.Locals.{test_types, local_ty}

pub no_type_lem : (word : ℕ) → 256 ≤ word → (word ≡ 256 → ⊥) → (word ≡ 257 → ⊥) → (word ≡ 258 → ⊥) → PlaceTy.Inapplicable ≡ local_ty word
unfolding local_ty
no_type_lem word h a b c = rw (le-ltb word 256 h, get_or-eq_default test_types PlaceTy.Inapplicable {n = word - 256} (omega arith))
