-- The ways through a rest that is bound to a name. Assumes nothing.
use Prim.Native.Nat.{ℕ, ◌-◌, ◌≤◌, ◌<◌}
use mathlib.Core.Path.{◌≡◌, refl, sym, ap, ◌∙◌}
use mathlib.Core.Bool.{true, false, cond}
use mathlib.Core.Option.{Option, none, some}
use mathlib.Core.List.{List}
use native.Mathlib.Omega.{arith}
use borrow.Author.Tests.{ne_eqb, le-leb, lt-leb}
use lib.Dec.{eqb}
use Rattle.image.specs.declared.rows.TypeRow.{TypeRow}
use Rattle.image.specs.Tables.{type_count}
use Rattle.image.specs.Rows.{type_at}
use Rattle.image.specs.Types.{is_set}
use Rattle.type_sheets.specs.Sheets.{sheet_holds}
use Rattle.type_sheets.proofs.Known.{array_element, few_types}
use Rattle.name_tables.specs.Names.{row_for, as_value}
use Rattle.pattern_typing.specs.Resolving.{refused_here, Marked, rest_bound_at, rest_holds, resolved_bound_rest, resolved_rest}
use Rattle.name_resolving.specs.Gives.{bound_at_of}
use Rattle.part_resolving.specs.Parts.{rest_bound_to}

-- a rest that is bound at what the definition says
bound : (sheet : List ℕ) (o : Option ℕ) (m : Marked) (t others mode : ℕ) → resolved_bound_rest sheet o m t others mode ≡ rest_bound_to o m t mode (rest_bound_at sheet t others)
unfolding resolved_bound_rest rest_bound_to
bound sheet none m t others mode = refl
bound sheet (some row) m t others mode = refl

module _ (sheet names : List ℕ) (at : ℕ) (m : Marked) (t others mode : ℕ) where
  -- a rest of a slice
  pub slice_rest : {row : TypeRow} → row ≡ type_at sheet t → row.kind ≡ 9 → resolved_rest sheet names at (some m) t others mode ≡ rest_bound_to (row_for names as_value m.called.bytes) m t mode (bound_at_of t 65535 0 0)
  unfolding resolved_rest rest_holds rest_bound_at
  slice_rest {row} e k = rw (← e, k) (bound sheet (row_for names as_value m.called.bytes) m t others mode ∙ rw (← e, k))

  -- what is no slice and no array has no rest
  pub no_rest_lem : {row : TypeRow} → row ≡ type_at sheet t → (row.kind ≡ 9 → ⊥) → (row.kind ≡ 8 → ⊥) → resolved_rest sheet names at (some m) t others mode ≡ refused_here at
  unfolding resolved_rest rest_holds
  no_rest_lem {row} e s a = rw (← e, ne_eqb row.kind 9 s, ne_eqb row.kind 8 a)

  -- an array that is shorter than its other items
  pub short_rest : {row : TypeRow} → row ≡ type_at sheet t → (row.kind ≡ 9 → ⊥) → row.kind ≡ 8 → row.b < others → resolved_rest sheet names at (some m) t others mode ≡ refused_here at
  unfolding resolved_rest rest_holds
  short_rest {row} e s a h = rw (← e, a, lt-leb others row.b h)

  -- a rest of an array
  pub array_rest : {row element : TypeRow} {copy : ℕ} → sheet_holds sheet ≡ true → t < type_count sheet → row ≡ type_at sheet t → element ≡ type_at sheet row.a → copy ≡ cond (is_set element.copy) 1 0 → (row.kind ≡ 9 → ⊥) → row.kind ≡ 8 → others ≤ row.b → resolved_rest sheet names at (some m) t others mode ≡ rest_bound_to (row_for names as_value m.called.bytes) m t mode (bound_at_of t row.a (row.b - others) copy)
  unfolding resolved_rest rest_holds rest_bound_at
  array_rest {row} {element} {copy} held h e f c s a l =
      let inside = rw (← e) at (array_element sheet t held h (ap (λ (r : TypeRow). r.kind) (sym e) ∙ a)) in
      let few = few_types sheet held in
      let present : eqb row.a 65535 ≡ false = ne_eqb row.a 65535 (λ q. omega arith) in
      let holds : rest_holds sheet t others ≡ true = rw (← e, a, le-leb others row.b l) in
      rw (holds, present, c) (bound sheet (row_for names as_value m.called.bytes) m t others mode ∙ rw (← e, a, ← f))
