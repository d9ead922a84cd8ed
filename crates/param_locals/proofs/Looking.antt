-- What a call on parameters is handed, by the ways through the code. Assumes nothing.
use Rattle.std.specs.Prelude.{Some}
use Prim.Native.Nat.{ℕ, ◌≤◌, ◌<◌}
use mathlib.Core.Path.{◌≡◌}
use mathlib.Core.Bool.{false}
use mathlib.Core.List.{List}
use native.Mathlib.Omega.{arith}
use borrow.Author.Tests.{lt-ltb, le-ltb}
use lib.Dec.{ltb}
use Rattle.image.specs.declared.BindingId.{BindingId}
use Rattle.image.specs.declared.Tables.{Tables}
use Rattle.image.specs.Tables.{Whole, binding_count}
use Rattle.params_spec.specs.Calls.{self_named}

-- `self_named`
module _ {image : List ℕ} {tables : Tables} (W : Whole image tables) (b : BindingId) (ty : ℕ) where
  pub self_unbound : tables.bindings.count ≤ b.0 → false ≡ self_named image (Some (b, ty))
  unfolding self_named
  self_unbound h = rw (le-ltb b.0 (binding_count image) (omega (arith, W.binding_count_lem)))

  pub self_bound_lem : b.0 < tables.bindings.count → ltb ty tables.types.count ≡ self_named image (Some (b, ty))
  unfolding self_named
  self_bound_lem h = rw (W.type_count_lem, lt-ltb b.0 (binding_count image) (omega (arith, W.binding_count_lem)))
