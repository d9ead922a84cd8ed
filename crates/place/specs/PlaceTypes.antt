-- The type of a place: document 01's "Place types follow the type table: Deref of a reference, Field, Downcast, an element, Subslice (slice, or array
-- of what is left, which has no number)". Where a projection does not apply there is none. Assumes nothing: these are definitions.
use Rattle.std.specs.Prelude.{ℕ, ◌<◌, Bool, cond, List, [], ◌∷◌, ltb, length, get_or}
use Rattle.image.specs.declared.kinds.AdtKind.{AdtKind}
use Rattle.image.specs.Tables.{type_count, variant_count}
use Rattle.image.specs.Lists.{member}
use Rattle.image.specs.Types.{Shape, ty_of, variant_of}
use Rattle.cases_spec.specs.Cases.{by_adt_kind, if_tuple, if_adt, if_reference, if_sequence}
use Rattle.place.specs.declared.elems.ProjectionElem.{ProjectionElem}
use Rattle.place.specs.declared.place_ty.PlaceTy.{PlaceTy}
use Rattle.place.specs.Elems.{by_elem}

-- the field i of fields with these types
unfoldable pub field_of : List ℕ → ℕ → PlaceTy
field_of fields i = cond (ltb i (length fields)) (PlaceTy.Ty (get_or fields i 0)) PlaceTy.Inapplicable

-- what a reference refers to
unfoldable pub deref_ty : Shape → PlaceTy
deref_ty shape = if_reference shape (λ t. PlaceTy.Ty t) PlaceTy.Inapplicable

-- a field of a struct or a union; an enum has fields only behind a Downcast
unfoldable pub adt_field_ty : AdtKind → List ℕ → List ℕ → ℕ → PlaceTy
adt_field_ty kind image variants i =
    let field = field_of (variant_of image (get_or variants 0 0)).fields i in
    by_adt_kind kind field PlaceTy.Inapplicable field PlaceTy.Inapplicable

-- a field of a tuple, a struct or a union
unfoldable pub field_ty : Shape → List ℕ → ℕ → PlaceTy
field_ty shape image i = if_tuple shape (λ fields. field_of fields i) (if_adt shape (λ kind variants. adt_field_ty kind image variants i) PlaceTy.Inapplicable)

-- an element of an array or a slice, whatever its number
unfoldable pub element_ty : Shape → PlaceTy
element_ty shape = if_sequence shape (λ t n. PlaceTy.Ty t) (λ t. PlaceTy.Ty t) PlaceTy.Inapplicable

-- a part of a slice has the slice's type s, and a part of an array has no number
unfoldable pub subslice_ty : ℕ → Shape → PlaceTy
subslice_ty s shape = if_sequence shape (λ t n. PlaceTy.Part t) (λ t. PlaceTy.Ty s) PlaceTy.Inapplicable

-- a variant v that the enum e has
unfoldable pub adt_downcast_ty : AdtKind → ℕ → ℕ → List ℕ → PlaceTy
adt_downcast_ty kind e v variants =
    by_adt_kind kind PlaceTy.Inapplicable (cond (member v variants) (PlaceTy.Variant e v) PlaceTy.Inapplicable) PlaceTy.Inapplicable PlaceTy.Inapplicable

-- a variant of a type: an enum has some
unfoldable pub downcast_ty : ℕ → ℕ → Shape → PlaceTy
downcast_ty e v shape = if_adt shape (λ kind variants. adt_downcast_ty kind e v variants) PlaceTy.Inapplicable

-- one element on from a type t of the table
unfoldable pub ty_projection : ProjectionElem → List ℕ → ℕ → PlaceTy
ty_projection elem image t =
    let shape = (ty_of image t).shape in
    by_elem elem (deref_ty shape) (λ i. field_ty shape image i) (element_ty shape) (subslice_ty t shape) (λ v. downcast_ty t v shape) PlaceTy.Inapplicable

-- one element on from a variant: only a field follows a Downcast
unfoldable pub variant_projection : ProjectionElem → List ℕ → ℕ → PlaceTy
variant_projection elem image v =
    let no = PlaceTy.Inapplicable in
    by_elem elem no (λ i. field_of (variant_of image v).fields i) no no (λ w. no) no

-- one element on from a part of an array of t
unfoldable pub part_projection : ProjectionElem → ℕ → PlaceTy
part_projection elem t =
    let no = PlaceTy.Inapplicable in
    by_elem elem no (λ i. no) (PlaceTy.Ty t) (PlaceTy.Part t) (λ v. no) no

-- the type one element on; the locals that the lowering makes for a test, and what has no type, lead nowhere
unfoldable pub projection_ty : PlaceTy → List ℕ → ProjectionElem → PlaceTy
projection_ty (PlaceTy.Ty t) image elem = ty_projection elem image t
projection_ty (PlaceTy.Variant e v) image elem = variant_projection elem image v
projection_ty (PlaceTy.Part t) image elem = part_projection elem t
projection_ty PlaceTy.Bool image elem = PlaceTy.Inapplicable
projection_ty PlaceTy.Usize image elem = PlaceTy.Inapplicable
projection_ty PlaceTy.I128 image elem = PlaceTy.Inapplicable
projection_ty PlaceTy.Inapplicable image elem = PlaceTy.Inapplicable

-- the type at the end of a projection
unfoldable pub multi_projection_ty : List ℕ → PlaceTy → List ProjectionElem → PlaceTy
multi_projection_ty image ty [] = ty
multi_projection_ty image ty (elem ∷ elems) = multi_projection_ty image (projection_ty ty image elem) elems

-- the numbers of a place's type name entries
abbrev pub Named : List ℕ → PlaceTy → Type 0
Named image (PlaceTy.Ty t) = t < type_count image
Named image (PlaceTy.Variant e v) = (e < type_count image) × (v < variant_count image)
Named image (PlaceTy.Part t) = t < type_count image
Named image PlaceTy.Bool = Unit
Named image PlaceTy.Usize = Unit
Named image PlaceTy.I128 = Unit
Named image PlaceTy.Inapplicable = Unit
