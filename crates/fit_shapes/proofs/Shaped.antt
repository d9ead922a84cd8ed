-- What a type's shape gives, by the number of its kind: that of a row's kind, and of every other kind. Assumes nothing.
use Prim.Native.Nat.{ℕ, ◌+◌, ◌≤◌, ◌<◌}
use mathlib.Core.Path.{◌≡◌, refl, sym, ap, ◌∙◌}
use mathlib.Core.Bool.{true, not}
use mathlib.Core.Option.{none}
use mathlib.Core.List.{List, []}
use borrow.Author.Tests.{leb-true}
use lib.Dec.{eqb}
use Rattle.image.specs.declared.kinds.AdtKind.{AdtKind}
use Rattle.image.specs.declared.rows.TypeRow.{TypeRow}
use Rattle.image.specs.Tables.{type_count, variant_count}
use Rattle.image.specs.Kinds.{type_kind, adt_kind}
use Rattle.image.specs.Rows.{type_at}
use Rattle.image.specs.Lists.{up_from}
use Rattle.image.specs.Rules.{absent, in_table, names_type, listed, types_listed, adt_may_have, type_shape_holds}
use Rattle.image.specs.Types.{Shape, integer, bool, char, str, tuple, adt, reference, array, slice, unknown, shape_by, ty_of}
use Rattle.image.specs.Tree.{PatOpt}
use Rattle.image.specs.Valid.{valid}
use Rattle.image.proofs.Bools.{and_left}
use Rattle.cases_spec.specs.Cases.{kind_number, referent, tuple_fields}
use Rattle.meaning.specs.Typing.{adt_variants, element_type}
use Rattle.meaning.specs.Fit.{discriminants_differ, items_fit}
use Rattle.fit_literals.proofs.Shapes.{shape_of_lem, holds_of, kind_of_lem}

referent_none : (s : Shape) → (kind_number s ≡ 7 → ⊥) → referent s ≡ none
unfolding kind_number referent
referent_none (integer size signed) h = refl
referent_none bool h = refl
referent_none char h = refl
referent_none str h = refl
referent_none (tuple fields) h = refl
referent_none (adt kind variants) h = refl
referent_none (reference t) h = absurd (h refl)
referent_none (array t n) h = refl
referent_none (slice t) h = refl
referent_none unknown h = refl

element_none : (s : Shape) → (kind_number s ≡ 8 → ⊥) → (kind_number s ≡ 9 → ⊥) → element_type s ≡ none
unfolding kind_number element_type
element_none (integer size signed) h k = refl
element_none bool h k = refl
element_none char h k = refl
element_none str h k = refl
element_none (tuple fields) h k = refl
element_none (adt kind variants) h k = refl
element_none (reference t) h k = refl
element_none (array t n) h k = absurd (h refl)
element_none (slice t) h k = absurd (k refl)
element_none unknown h k = refl

fields_none : (s : Shape) → (kind_number s ≡ 5 → ⊥) → tuple_fields s ≡ []
unfolding kind_number tuple_fields
fields_none (integer size signed) h = refl
fields_none bool h = refl
fields_none char h = refl
fields_none str h = refl
fields_none (tuple fields) h = absurd (h refl)
fields_none (adt kind variants) h = refl
fields_none (reference t) h = refl
fields_none (array t n) h = refl
fields_none (slice t) h = refl
fields_none unknown h = refl

variants_none : (s : Shape) → (kind_number s ≡ 6 → ⊥) → adt_variants s ≡ []
unfolding kind_number adt_variants
variants_none (integer size signed) h = refl
variants_none bool h = refl
variants_none char h = refl
variants_none str h = refl
variants_none (tuple fields) h = refl
variants_none (adt kind variants) h = absurd (h refl)
variants_none (reference t) h = refl
variants_none (array t n) h = refl
variants_none (slice t) h = refl
variants_none unknown h = refl

differ_none : (image : List ℕ) (s : Shape) → (kind_number s ≡ 6 → ⊥) → discriminants_differ image s ≡ true
unfolding kind_number discriminants_differ
differ_none image (integer size signed) h = refl
differ_none image bool h = refl
differ_none image char h = refl
differ_none image str h = refl
differ_none image (tuple fields) h = refl
differ_none image (adt AdtKind.Struct variants) h = absurd (h refl)
differ_none image (adt AdtKind.Enum variants) h = absurd (h refl)
differ_none image (adt AdtKind.Union variants) h = absurd (h refl)
differ_none image (adt AdtKind.Unknown variants) h = absurd (h refl)
differ_none image (reference t) h = refl
differ_none image (array t n) h = refl
differ_none image (slice t) h = refl
differ_none image unknown h = refl

items_none : (s : Shape) (rest : PatOpt) (count : ℕ) → (kind_number s ≡ 8 → ⊥) → items_fit s rest count ≡ true
unfolding kind_number items_fit
items_none (integer size signed) rest count h = refl
items_none bool rest count h = refl
items_none char rest count h = refl
items_none str rest count h = refl
items_none (tuple fields) rest count h = refl
items_none (adt kind variants) rest count h = refl
items_none (reference t) rest count h = refl
items_none (array t n) rest count h = absurd (h refl)
items_none (slice t) rest count h = refl
items_none unknown rest count h = refl

-- the row of the type t
module _ (image : List ℕ) (t : ℕ) {row : TypeRow} (at : row ≡ type_at image t) where
  pub tuple_of : row.kind ≡ 5 → (ty_of image t).shape ≡ tuple (listed image 1 row.a row.b)
  unfolding shape_by
  tuple_of e = sym (shape_of_lem image t at (ap type_kind (sym e)))

  pub adt_of : row.kind ≡ 6 → (ty_of image t).shape ≡ adt (adt_kind row.c) (up_from row.a row.b)
  unfolding shape_by
  adt_of e = sym (shape_of_lem image t at (ap type_kind (sym e)))

  pub array_of_lem : row.kind ≡ 8 → (ty_of image t).shape ≡ array row.a row.b
  unfolding shape_by
  array_of_lem e = sym (shape_of_lem image t at (ap type_kind (sym e)))

  pub slice_of : row.kind ≡ 9 → (ty_of image t).shape ≡ slice row.a
  unfolding shape_by
  slice_of e = sym (shape_of_lem image t at (ap type_kind (sym e)))

  module _ (holds : valid image ≡ true) (inside : t < type_count image) where
    abbrev shape : Shape
    shape = (ty_of image t).shape

    -- a kind that the row has not, the type has not
    other : {k : ℕ} → (row.kind ≡ k → ⊥) → kind_number shape ≡ k → ⊥
    other h e = h (sym (kind_of_lem image t at holds inside) ∙ e)

    pub no_referent : (row.kind ≡ 7 → ⊥) → referent shape ≡ none
    no_referent h = referent_none shape (other h)

    pub no_element : (row.kind ≡ 8 → ⊥) → (row.kind ≡ 9 → ⊥) → element_type shape ≡ none
    no_element h k = element_none shape (other h) (other k)

    pub no_fields_lem : (row.kind ≡ 5 → ⊥) → tuple_fields shape ≡ []
    no_fields_lem h = fields_none shape (other h)

    pub no_variants : (row.kind ≡ 6 → ⊥) → adt_variants shape ≡ []
    no_variants h = variants_none shape (other h)

    pub no_enum : (row.kind ≡ 6 → ⊥) → discriminants_differ image shape ≡ true
    no_enum h = differ_none image shape (other h)

    pub no_array : (rest : PatOpt) (count : ℕ) → (row.kind ≡ 8 → ⊥) → items_fit shape rest count ≡ true
    no_array rest count h = items_none shape rest count (other h)

    -- what the rows of a tuple, an ADT, an array and a slice name
    pub tuple_listed : row.kind ≡ 5 → types_listed image row.a row.b ≡ true
    unfolding type_shape_holds
    tuple_listed e = rw (ap type_kind e) at (holds_of image t at holds inside refl)

    pub adt_inside : row.kind ≡ 6 → row.a + row.b ≤ variant_count image
    unfolding type_shape_holds
    adt_inside e =
        leb-true (row.a + row.b) (variant_count image)
        (and_left (in_table row.a row.b (variant_count image)) (adt_may_have (adt_kind row.c) row.b) (rw (ap type_kind e) at (holds_of image t at holds inside refl)))

    pub array_named : row.kind ≡ 8 → names_type image row.a ≡ true
    unfolding type_shape_holds
    array_named e = and_left (names_type image row.a) (not (eqb row.b absent)) (rw (ap type_kind e) at (holds_of image t at holds inside refl))

    pub slice_named : row.kind ≡ 9 → names_type image row.a ≡ true
    unfolding type_shape_holds
    slice_named e = rw (ap type_kind e) at (holds_of image t at holds inside refl)
