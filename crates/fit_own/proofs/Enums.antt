-- What a type's row says of an enum, and of its kind by its number; the ends of a Range. Assumes nothing.
use Prim.Native.Nat.{ℕ, ◌<◌, ◌≤◌}
use mathlib.Core.Path.{◌≡◌, refl, sym, ap, ◌∙◌}
use mathlib.Core.Bool.{Bool, true, false, not, ◌&&◌, ◌||◌}
use mathlib.Core.Option.{some}
use mathlib.Core.List.{List}
use native.Mathlib.Omega.{arith}
use borrow.Author.Tests.{eq-eqb, ne_eqb, lt-leb, le-leb}
use lib.Dec.{eqb, leb}
use Rattle.image.specs.declared.kinds.AdtKind.{AdtKind}
use Rattle.image.specs.declared.rows.TypeRow.{TypeRow}
use Rattle.image.specs.Tables.{type_count}
use Rattle.image.specs.Kinds.{adt_kind}
use Rattle.image.specs.Rows.{type_at}
use Rattle.image.specs.Types.{Shape, integer, bool, char, str, tuple, adt, reference, array, slice, unknown, ty_of}
use Rattle.image.specs.Valid.{valid}
use Rattle.counting.specs.Reaching.{is_enum, is_enum_kind, is_slice_shape}
use Rattle.cases_spec.specs.Cases.{kind_number}
use Rattle.fit_literals.proofs.Shapes.{kind_of_lem}
use Rattle.fit_shapes.proofs.Shaped.{adt_of}

enum_none : (s : Shape) → (kind_number s ≡ 6 → ⊥) → false ≡ is_enum (some s)
unfolding kind_number is_enum
enum_none (integer size signed) h = refl
enum_none bool h = refl
enum_none char h = refl
enum_none str h = refl
enum_none (tuple fields) h = refl
enum_none (adt kind variants) h = absurd (h refl)
enum_none (reference t) h = refl
enum_none (array t n) h = refl
enum_none (slice t) h = refl
enum_none unknown h = refl

-- a slice, by the number of its kind
slice_kind : (s : Shape) → eqb (kind_number s) 9 ≡ is_slice_shape s
unfolding kind_number is_slice_shape
slice_kind (integer size signed) = refl
slice_kind bool = refl
slice_kind char = refl
slice_kind str = refl
slice_kind (tuple fields) = refl
slice_kind (adt kind variants) = refl
slice_kind (reference t) = refl
slice_kind (array t n) = refl
slice_kind (slice t) = refl
slice_kind unknown = refl

-- `own_test`, of a Slice
pub slice_tested : (s : Shape) {k : ℕ} → k ≡ kind_number s → eqb k 9 ≡ is_slice_shape s
slice_tested s e = ap (λ (n : ℕ). eqb n 9) e ∙ slice_kind s

-- a type's kind, by its number: `own_taken`, `tuple_taken` and `slice_taken`
module _ (n : ℕ) {k m : ℕ} (is : k ≡ m) where
  pub is_kind_lem : eqb k n ≡ eqb m n
  is_kind_lem = ap (λ (x : ℕ). eqb x n) is

  pub kind_other : (b : Bool) → (k ≡ n → ⊥) → false ≡ eqb m n && b
  kind_other b h = rw (ne_eqb m n (λ e. h (is ∙ e)))

  pub kind_same : (b : Bool) → k ≡ n → {r : Bool} → r ≡ b → r ≡ eqb m n && b
  kind_same b e h = h ∙ rw (eq-eqb m n (sym is ∙ e))

  pub kind_below : (b : Bool) → k < n → false ≡ leb n m && b
  kind_below b h = rw (lt-leb n m (omega arith))

  pub kind_above : (b : Bool) → n ≤ k → {r : Bool} → r ≡ b → r ≡ leb n m && b
  kind_above b h e = e ∙ rw (le-leb n m (omega arith))

-- `is_enum`
module _ (image : List ℕ) (t : ℕ) {row : TypeRow} (at : row ≡ type_at image t) where
  pub no_adt : valid image ≡ true → t < type_count image → (row.kind ≡ 6 → ⊥) → false ≡ is_enum (some (ty_of image t).shape)
  no_adt holds inside h = enum_none (ty_of image t).shape (λ e. h (sym (kind_of_lem image t at holds inside) ∙ e))

  pub enum_by : row.kind ≡ 6 → {kind : AdtKind} → kind ≡ adt_kind row.c → {r : Bool} → r ≡ is_enum_kind kind → r ≡ is_enum (some (ty_of image t).shape)
  unfolding is_enum
  enum_by is told e = e ∙ rw (adt_of image t at is, told)

-- `has_end`
pub start_there : (a b : ℕ) → (a ≡ 65535 → ⊥) → true ≡ not (eqb a 65535) || not (eqb b 65535)
start_there a b h = rw (ne_eqb a 65535 h)

pub no_start : (a b : ℕ) → a ≡ 65535 → not (eqb b 65535) ≡ not (eqb a 65535) || not (eqb b 65535)
no_start a b e = rw (eq-eqb a 65535 e)
