-- Structs, enums and tuples: the type of the place is looked at, an enum is tested, and the fields are walked. Assumes nothing: these are definitions.
use Rattle.std.specs.Prelude.{Some}
use Rattle.std.specs.Prelude.{ℕ, ◌%◌, ◌/◌, Bool, cond, List, [], ◌∷◌, map, reverse, ltb, leb, length, take, drop, get_or}
use Rattle.std.proofs.Math.Option.{Option, none, some}
use Rattle.image.specs.declared.kinds.AdtKind.{AdtKind}
use Rattle.image.specs.Lists.{member, up_from}
use Rattle.image.specs.Types.{Shape, integer, bool, unknown, ty_of, variant_of}
use Rattle.cases_spec.specs.Cases.{if_tuple, if_adt, if_reference}
use Rattle.refusals.specs.declared.MirLowerError.{MirLowerError}
use Rattle.place.specs.declared.LocalId.{LocalId}
use Rattle.place.specs.declared.Place.{Place}
use Rattle.place.specs.declared.elems.ProjectionElem.{ProjectionElem}
use Rattle.place.specs.declared.place_ty.PlaceTy.{PlaceTy}
use Rattle.place.specs.Places.{projection_of}
use Rattle.place.specs.PlaceTypes.{multi_projection_ty}
use Rattle.mir.specs.declared.BasicBlockId.{BasicBlockId}
use Rattle.mir.specs.declared.blocks.Terminator.{Terminator}
use Rattle.mir.specs.declared.rvalues.PlaceRvalue.{PlaceRvalue}
use Rattle.mir.specs.Locals.{local_ty}
use Rattle.mir.specs.Rvalues.{place_rvalue_row}
use Rattle.state.specs.State.{State}
use Rattle.state.specs.Steps.{next_block, next_local, try_block, try_statement, set_terminator}
use Rattle.lower_spec.specs.Results.{OptBlock}
use Rattle.lower_spec.specs.Temps.{discr_temp_place}
use Rattle.pattern_matching.specs.Walking.{Ctx, Out, Walk, refused, Lowering, next, step, out, with_state, project, else_state, else_block, in_check}

-- the type of a place in a body
unfoldable pub place_ty : List ℕ → State → Place → PlaceTy
place_ty image st place = multi_projection_ty image (local_ty (get_or st.locals place.local.0 0)) (projection_of place)

-- what the type at a place is, if each projection applies. A place that ends in a Downcast has the enum's type; a part of an array is no tuple, no ADT and
-- no reference, which is all that is asked of it
unfoldable pub shape_of : List ℕ → PlaceTy → Option Shape
shape_of image (PlaceTy.Ty t) = some (ty_of image t).shape
shape_of image (PlaceTy.Variant e v) = some (ty_of image e).shape
shape_of image (PlaceTy.Part t) = some unknown
shape_of image PlaceTy.Bool = some bool
shape_of image PlaceTy.Usize = some (integer 8 Bool.false)
shape_of image PlaceTy.I128 = some (integer 16 Bool.true)
shape_of image PlaceTy.Inapplicable = none

-- a place's type is needed: document 01's number 12 where a projection does not apply
abbrev pub needed : ℕ → Option Shape → (Shape → Walk Out) → Walk Out
needed p none k = refused MirLowerError.PlaceType p
needed p (some shape) k = k shape

-- `pattern_match_adt`: each argument in turn, on the place one element on
unfoldable pub pattern_match_adt : ℕ → List ProjectionElem → List Lowering → Lowering
pattern_match_adt p [] args mode ctx current else place = out ctx current else
pattern_match_adt p (elem ∷ elems) [] mode ctx current else place = out ctx current else
pattern_match_adt p (elem ∷ elems) (arg ∷ args) mode ctx current else place =
    step p (project place elem) (λ place'.
    next (arg mode ctx current else place') (λ r. pattern_match_adt p elems args mode r.ctx r.then r.else place))

-- the fields from 0 on, so many
abbrev pub fields_up_to : ℕ → List ProjectionElem
fields_up_to n = map (λ i. ProjectionElem.Field i) (up_from 0 n)

-- `pattern_match_tuple_like`: the arguments before the ellipsis on the first fields, then those behind it on the last ones, from the last on; a surplus of
-- arguments is dropped, and "ellipsis beyond the arguments" is refused
unfoldable pub pattern_match_tuple_like : ℕ → List Lowering → ℕ → ℕ → Lowering
pattern_match_tuple_like p args at fields mode ctx current else place =
    cond (leb at (length args))
    (next (pattern_match_adt p (fields_up_to fields) (take at args) mode ctx current else place) (λ r.
    pattern_match_adt p (reverse (fields_up_to fields)) (reverse (drop at args)) mode r.ctx r.then r.else place))
    (refused MirLowerError.Ellipsis p)

-- an ellipsis that is absent stands behind all arguments
unfoldable pub ellipsis_at : Option ℕ → List Lowering → ℕ
ellipsis_at none args = length args
ellipsis_at (some n) args = n

-- a Tuple pattern, by what the place's type is
unfoldable pub tuple_on : Shape → ℕ → List Lowering → Option ℕ → Lowering
tuple_on shape p args ellipsis mode ctx current else place =
    if_tuple shape (λ fields. pattern_match_tuple_like p args (ellipsis_at ellipsis args) (length fields) mode ctx current else place) (refused (MirLowerError.TypeError 1) p)

unfoldable pub tuple_pattern : List ℕ → ℕ → List Lowering → Option ℕ → Lowering
tuple_pattern image p args ellipsis mode ctx current else place =
    needed p (shape_of image (place_ty image ctx.state place)) (λ shape. tuple_on shape p args ellipsis mode ctx current else place)

-- a Ref pattern, by what the place's type is
unfoldable pub ref_on : Shape → ℕ → Lowering → Lowering
ref_on shape p sub mode ctx current else place =
    if_reference shape (λ t. step p (project place ProjectionElem.Deref) (λ place'. sub mode ctx current else place')) (refused (MirLowerError.TypeError 3) p)

unfoldable pub ref_pattern : List ℕ → ℕ → Lowering → Lowering
ref_pattern image p sub mode ctx current else place =
    needed p (shape_of image (place_ty image ctx.state place)) (λ shape. ref_on shape p sub mode ctx current else place)

-- the arguments of a pattern that names a variant: in a row, by fields, or none
pub data AdtPatternShape : Type 0 where
  Tuple : List Lowering → Option ℕ → AdtPatternShape
  Record : List (Option ℕ) → List Lowering → AdtPatternShape
  Unit : AdtPatternShape

-- the numbers of a Record's fields, if each is there
unfoldable pub resolved : ℕ → List (Option ℕ) → Option (List ProjectionElem)
resolved count [] = some []
resolved count (none ∷ fields) = none
resolved count (some i ∷ fields) = cond (ltb i count) (and_field i (resolved count fields)) none
  where
    and_field : ℕ → Option (List ProjectionElem) → Option (List ProjectionElem)
    and_field i none = none
    and_field i (some elems) = some (ProjectionElem.Field i ∷ elems)

unfoldable pub record_fields : Option (List ProjectionElem) → ℕ → List Lowering → Lowering
record_fields none p args mode ctx current else place = refused MirLowerError.UnresolvedField p
record_fields (some elems) p args mode ctx current else place = pattern_match_adt p elems args mode ctx current else place

-- the fields of a variant with so many
unfoldable pub variant_fields : AdtPatternShape → ℕ → ℕ → Lowering
variant_fields (AdtPatternShape.Tuple args ellipsis) p count mode ctx current else place =
    pattern_match_tuple_like p args (ellipsis_at ellipsis args) count mode ctx current else place
variant_fields (AdtPatternShape.Record fields args) p count mode ctx current else place =
    record_fields (resolved count fields) p args mode ctx current else place
variant_fields AdtPatternShape.Unit p count mode ctx current else place = out ctx current else

-- it goes on by whether the local is the variant's discriminant
abbrev pub discriminant_switch : List ℕ → ℕ → LocalId → BasicBlockId → BasicBlockId → Terminator
discriminant_switch image v l then else =
    Terminator.Switch l ((variant_of image v).discriminant % 18446744073709551616) ((variant_of image v).discriminant / 18446744073709551616) then else

-- the test of an enum: a new local is the discriminant of what lies at the place; the block that goes on is made before an else
unfoldable pub discriminant_test : List ℕ → ℕ → ℕ → Ctx → BasicBlockId → OptBlock → Place → Walk Out
discriminant_test image p v ctx current else place =
    step p (discr_temp_place image ctx.state current) (λ st₁.
    step p (try_statement st₁ (place_rvalue_row current (next_local ctx.state) PlaceRvalue.Discr place)) (λ st₂.
    step p (try_block st₂) (λ st₃.
    step p (else_state st₃ else) (λ st₄.
    out (with_state ctx (set_terminator st₄ current (discriminant_switch image v (next_local ctx.state) (next_block st₂) (else_block st₃ else)))) (next_block st₂) (Some (else_block st₃ else))))))

-- a variant of a struct, an enum or a union
unfoldable pub variant_on : AdtKind → List ℕ → ℕ → ℕ → AdtPatternShape → Lowering
variant_on AdtKind.Struct image p v shape mode ctx current else place =
    variant_fields shape p (length (variant_of image v).fields) mode ctx current else place
variant_on AdtKind.Enum image p v shape mode ctx current else place =
    next (in_check mode (discriminant_test image p v ctx current else place) (out ctx current else)) (λ r.
    step p (project place (ProjectionElem.Downcast v)) (λ place'.
    variant_fields shape p (length (variant_of image v).fields) mode r.ctx r.then r.else place'))
variant_on AdtKind.Union image p v shape mode ctx current else place = refused (MirLowerError.TypeError 6) p
variant_on AdtKind.Unknown image p v shape mode ctx current else place = refused (MirLowerError.TypeError 6) p

-- a pattern that names a variant, by what the place's type is: an ADT that has it
unfoldable pub adt_on : Shape → List ℕ → ℕ → ℕ → AdtPatternShape → Lowering
adt_on shape image p v args mode ctx current else place =
    if_adt shape (λ kind variants.
    cond (member v variants) (variant_on kind image p v args mode ctx current else place) (refused (MirLowerError.TypeError 5) p))
    (refused (MirLowerError.TypeError 4) p)

-- `pattern_matching_variant`
unfoldable pub pattern_matching_variant : List ℕ → ℕ → ℕ → AdtPatternShape → Lowering
pattern_matching_variant image p v args mode ctx current else place =
    needed p (shape_of image (place_ty image ctx.state place)) (λ shape. adt_on shape image p v args mode ctx current else place)

-- "variant absent" is refused
unfoldable pub variant_pattern : List ℕ → ℕ → Option ℕ → AdtPatternShape → Lowering
variant_pattern image p none args mode ctx current else place = refused MirLowerError.NotSupported p
variant_pattern image p (some v) args mode ctx current else place = pattern_matching_variant image p v args mode ctx current else place
