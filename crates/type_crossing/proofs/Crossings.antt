-- The ways through the crossing of references. Assumes nothing.
use Prim.Native.Nat.{ℕ, suc, ◌+◌, ◌-◌, ◌≤◌, ◌<◌}
use mathlib.Core.Path.{◌≡◌, refl}
use mathlib.Core.List.{List}
use native.Mathlib.Numerals.{add-one}
use native.Mathlib.Omega.{arith}
use borrow.Author.Tests.{eq-eqb, ne_eqb}
use Rattle.image.specs.declared.rows.TypeRow.{TypeRow}
use Rattle.image.specs.Types.{is_set}
use Rattle.image.specs.Rows.{type_at}
use Rattle.pattern_typing.specs.Crossing.{Crossed, behind_reference, cross_one, cross_up_to, crossed}

-- a type behind so many references, under a default mode
abbrev pub at : ℕ → ℕ → ℕ → Crossed
at t derefs mode = record { ty = t; derefs = derefs; mode = mode }

module _ (sheet : List ℕ) (t mode : ℕ) where
  -- what is left to cross leads where the whole does
  pub record Crossings (ty behind derefs : ℕ) : Type 0 where
    pub within : derefs ≤ 257
    pub left : cross_up_to (257 - derefs) sheet (at ty derefs behind) ≡ crossed sheet t mode

  pub none_crossed : Crossings t mode 0
  unfolding crossed
  none_crossed = record { within = omega arith; left = refl }

  module _ {ty behind derefs : ℕ} (C : Crossings ty behind derefs) where
    pub no_reference : {row : TypeRow} → derefs < 257 → row ≡ type_at sheet ty → (row.kind ≡ 7 → ⊥) → at ty derefs behind ≡ crossed sheet t mode
    unfolding cross_up_to
    no_reference {row} h e ne =
        let more : 257 - derefs ≡ suc (257 - (derefs + 1)) = omega arith in
        rw (more, ← e, ne_eqb row.kind 7 ne) at C.left

    pub reference_crossed : {row : TypeRow} {mode' : ℕ} → derefs < 257 → row ≡ type_at sheet ty → row.kind ≡ 7 → mode' ≡ behind_reference (is_set row.copy) behind → Crossings row.a mode' (derefs + 1)
    unfolding cross_up_to cross_one
    reference_crossed {row} {mode'} h e k m =
        let more : 257 - derefs ≡ suc (257 - suc derefs) = omega arith in
        let next = rw (more, ← e, eq-eqb row.kind 7 k, ← m) at C.left in
        record { within = omega arith; left = rw (add-one derefs) next }

    pub all_crossed : 257 ≤ derefs → at ty derefs behind ≡ crossed sheet t mode
    unfolding cross_up_to
    all_crossed h = let none : 257 - derefs ≡ 0 = omega arith in rw none at C.left
