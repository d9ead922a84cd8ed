-- What a type is, by its row: the number of its kind, and what the row of a kind stands for. Assumes nothing.
use Prim.Native.Nat.{ℕ, zero, suc, ◌<◌}
use mathlib.Core.Path.{◌≡◌, refl, sym, ap, ◌∙◌}
use mathlib.Core.Bool.{Bool, true, false, false≢true}
use mathlib.Core.List.{List, [], ◌∷◌}
use types.Run.{OneOf, miss}
use denote.Enum.Declared as Declared
use borrow.Author.Tests.{ltb-true}
use lib.Dec.{eqb}
use Rattle.image.specs.declared.kinds.TypeKind.{TypeKind}
use Rattle.image.specs.declared.rows.TypeRow.{TypeRow}
use Rattle.image.specs.Tables.{type_count}
use Rattle.image.specs.Kinds.{type_kind}
use Rattle.image.specs.Rows.{type_at}
use Rattle.image.specs.Rules.{is_flag, is_integer_size, type_shape_holds}
use Rattle.image.specs.Types.{Shape, integer, bool, char, str, tuple, adt, reference, array, slice, unknown, shape_by, ty_of}
use Rattle.image.specs.Valid.{valid}
use Rattle.image.proofs.Bools.{and_left}
use Rattle.image.proofs.Known.{shape_holds}
use Rattle.image.specs.contracts.kinds.TypeKind as type-kind
use Rattle.cases_spec.specs.Cases.{kind_number, referent}
use Rattle.meaning.specs.Fit.{integer_fits, refers_to_str}
use Rattle.meaning.specs.Values.{int_fits}

-- the number of the kind of a row that holds
row_kind_lem : (image : List ℕ) (k : ℕ) (row : TypeRow) → type_shape_holds (type_kind k) image row ≡ true → kind_number (shape_by (type_kind k) image row) ≡ k
unfolding type_shape_holds kind_number shape_by
row_kind_lem image zero row e = absurd (false≢true e)
row_kind_lem image (suc zero) row e = refl
row_kind_lem image (suc (suc zero)) row e = refl
row_kind_lem image (suc (suc (suc zero))) row e = refl
row_kind_lem image (suc (suc (suc (suc zero)))) row e = refl
row_kind_lem image (suc (suc (suc (suc (suc zero))))) row e = refl
row_kind_lem image (suc (suc (suc (suc (suc (suc zero)))))) row e = refl
row_kind_lem image (suc (suc (suc (suc (suc (suc (suc zero))))))) row e = refl
row_kind_lem image (suc (suc (suc (suc (suc (suc (suc (suc zero)))))))) row e = refl
row_kind_lem image (suc (suc (suc (suc (suc (suc (suc (suc (suc zero))))))))) row e = refl
row_kind_lem image (suc (suc (suc (suc (suc (suc (suc (suc (suc (suc k)))))))))) row e = absurd (false≢true e)

-- the row of the type t
module _ (image : List ℕ) (t : ℕ) {row : TypeRow} (at : row ≡ type_at image t) where
  -- what the type is, by its row
  pub shape_of_lem : {kind : TypeKind} → kind ≡ type_kind row.kind → shape_by kind image row ≡ (ty_of image t).shape
  unfolding ty_of
  shape_of_lem told = rw (told, at)

  module _ (holds : valid image ≡ true) (inside : t < type_count image) where
    -- what the kind asks of the row
    pub holds_of : {kind : TypeKind} → kind ≡ type_kind row.kind → type_shape_holds kind image row ≡ true
    holds_of told = rw (told, at) (shape_holds image t holds inside)

    -- the kind's number is the row's
    pub kind_of_lem : kind_number (ty_of image t).shape ≡ row.kind
    unfolding ty_of
    kind_of_lem = ap (λ (s : Shape). kind_number s) (sym (shape_of_lem refl)) ∙ row_kind_lem image row.kind row (holds_of refl)

    pub is_kind_lem : (k : ℕ) → eqb row.kind k ≡ eqb (kind_number (ty_of image t).shape) k
    is_kind_lem k = ap (λ (n : ℕ). eqb n k) (sym kind_of_lem)

    -- what a reference refers to is a type
    pub refers_inside : row.kind ≡ 7 → row.a < type_count image
    unfolding type_shape_holds
    refers_inside e = ltb-true row.a (type_count image) (rw (ap type_kind e) at (holds_of refl))

  -- a reference
  pub reference_of : row.kind ≡ 7 → (ty_of image t).shape ≡ reference row.a
  unfolding shape_by
  reference_of e = sym (shape_of_lem (ap type_kind (sym e)))

-- an integer has one of the sizes
pub integer_sized : (image : List ℕ) {kind : TypeKind} (row : TypeRow) → kind ≡ TypeKind.Integer → type_shape_holds kind image row ≡ true → is_integer_size row.a ≡ true
unfolding type_shape_holds
integer_sized image row e h = and_left (is_integer_size row.a) (is_flag row.b) (rw e at h)

-- what is no reference refers to no str
pub refers_not : (image : List ℕ) (s : Shape) → (kind_number s ≡ 7 → ⊥) → refers_to_str image s ≡ false
unfolding kind_number refers_to_str referent
refers_not image (integer size signed) h = refl
refers_not image bool h = refl
refers_not image char h = refl
refers_not image str h = refl
refers_not image (tuple fields) h = refl
refers_not image (adt kind variants) h = refl
refers_not image (reference t) h = absurd (h refl)
refers_not image (array t n) h = refl
refers_not image (slice t) h = refl
refers_not image unknown h = refl

-- what is no integer type has no integers
pub not_integer : (image : List ℕ) (row : TypeRow) (kind : TypeKind) → OneOf (1 ∷ 2 ∷ 3 ∷ 4 ∷ 5 ∷ 6 ∷ 7 ∷ 8 ∷ 9 ∷ []) (Declared.tag_of type-kind.the_type kind)
    → (negative : Bool) (bytes : List ℕ) → false ≡ integer_fits (shape_by kind image row) negative bytes
unfolding shape_by integer_fits int_fits
not_integer image row TypeKind.Integer h negative bytes = absurd (miss (1 ∷ 2 ∷ 3 ∷ 4 ∷ 5 ∷ 6 ∷ 7 ∷ 8 ∷ 9 ∷ []) 0 tt h)
not_integer image row TypeKind.Bool h negative bytes = refl
not_integer image row TypeKind.Char h negative bytes = refl
not_integer image row TypeKind.Str h negative bytes = refl
not_integer image row TypeKind.Tuple h negative bytes = refl
not_integer image row TypeKind.Adt h negative bytes = refl
not_integer image row TypeKind.Reference h negative bytes = refl
not_integer image row TypeKind.Array h negative bytes = refl
not_integer image row TypeKind.Slice h negative bytes = refl
not_integer image row TypeKind.Unknown h negative bytes = refl
