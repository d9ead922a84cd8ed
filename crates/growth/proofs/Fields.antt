-- Tuples, variants and slices grow a body well, if their arguments do. Assumes nothing.
use Prim.Native.Nat.{ℕ, ◌+◌}
use mathlib.Core.Option.{Option, none, some}
use mathlib.Core.List.{List, [], ◌∷◌, map, reverse}
use lib.Dec.{leb}
use lib.ListN.{length, take, drop}
use Rattle.image.specs.declared.kinds.AdtKind.{AdtKind}
use Rattle.image.specs.Lists.{member, up_from}
use Rattle.image.specs.Types.{Shape, integer, bool, char, str, tuple, adt, reference, array, slice, unknown, variant_of}
use Rattle.refusals.specs.declared.MirLowerError.{MirLowerError}
use Rattle.place.specs.declared.elems.ProjectionElem.{ProjectionElem}
use Rattle.pattern_matching.specs.Walking.{Lowering, out, project, in_check}
use Rattle.pattern_matching.specs.Variants.{place_ty, shape_of, pattern_match_adt, fields_up_to, pattern_match_tuple_like, ellipsis_at, tuple_on, tuple_pattern, ref_on, ref_pattern, AdtPatternShape, resolved, record_fields, variant_fields, discriminant_test, variant_on, adt_on, pattern_matching_variant, variant_pattern}
use Rattle.pattern_matching.specs.Slices.{RestOf, length_test, rest_bound, slice_items, slice_on, suffix_items}
use Rattle.growth.proofs.Walks.{good_refused, good_next, good_step, good_needed, good_cond, good_out, good_check, Grows, refuses, AllGrow, all_take, all_drop, all_reverse}
use Rattle.growth.proofs.Testing.{good_length, good_discriminant, good_binding}

-- arguments in turn, each on the place one element on
pub grows_adt : (p : ℕ) (elems : List ProjectionElem) (args : List Lowering) → AllGrow args → Grows (pattern_match_adt p elems args)
unfolding pattern_match_adt
grows_adt p [] args g mode ctx c els place = good_out ctx c els
grows_adt p (elem ∷ elems) [] g mode ctx c els place = good_out ctx c els
grows_adt p (elem ∷ elems) (arg ∷ args) g mode ctx c els place =
    good_step p (project place elem) _ (λ place' e.
    good_next (arg mode ctx c els place') _ (g.0 mode ctx c els place') (λ r. grows_adt p elems args g.1 mode r.ctx r.then r.else place))

-- arguments before an ellipsis, and behind it
grows_tuple_like : (p : ℕ) (args : List Lowering) (at fields : ℕ) → AllGrow args → Grows (pattern_match_tuple_like p args at fields)
unfolding pattern_match_tuple_like
grows_tuple_like p args at fields g mode ctx c els place =
    good_cond (leb at (length args)) _ _
    (good_next (pattern_match_adt p (fields_up_to fields) (take at args) mode ctx c els place) _
    (grows_adt p (fields_up_to fields) (take at args) (all_take at args g) mode ctx c els place) (λ r.
    grows_adt p (reverse (fields_up_to fields)) (reverse (drop at args)) (all_reverse (drop at args) (all_drop at args g)) mode r.ctx r.then r.else place))
    (good_refused MirLowerError.Ellipsis p)

-- a Tuple by what the type of its place is
grows_tuple_on : (shape : Shape) (p : ℕ) (args : List Lowering) (ellipsis : Option ℕ) → AllGrow args → Grows (tuple_on shape p args ellipsis)
unfolding tuple_on
grows_tuple_on (integer size signed) p args ellipsis g = refuses (MirLowerError.TypeError 1) p
grows_tuple_on bool p args ellipsis g = refuses (MirLowerError.TypeError 1) p
grows_tuple_on char p args ellipsis g = refuses (MirLowerError.TypeError 1) p
grows_tuple_on str p args ellipsis g = refuses (MirLowerError.TypeError 1) p
grows_tuple_on (tuple fields) p args ellipsis g = grows_tuple_like p args (ellipsis_at ellipsis args) (length fields) g
grows_tuple_on (adt kind variants) p args ellipsis g = refuses (MirLowerError.TypeError 1) p
grows_tuple_on (reference t) p args ellipsis g = refuses (MirLowerError.TypeError 1) p
grows_tuple_on (array t n) p args ellipsis g = refuses (MirLowerError.TypeError 1) p
grows_tuple_on (slice t) p args ellipsis g = refuses (MirLowerError.TypeError 1) p
grows_tuple_on unknown p args ellipsis g = refuses (MirLowerError.TypeError 1) p

-- a Tuple
pub grows_tuple : (image : List ℕ) (p : ℕ) (args : List Lowering) (ellipsis : Option ℕ) → AllGrow args → Grows (tuple_pattern image p args ellipsis)
unfolding tuple_pattern
grows_tuple image p args ellipsis g mode ctx c els place =
    good_needed p (shape_of image (place_ty image ctx.state place)) _ (λ shape. grows_tuple_on shape p args ellipsis g mode ctx c els place)

-- a Ref by what the type of its place is
grows_ref_on : (shape : Shape) (p : ℕ) (sub : Lowering) → Grows sub → Grows (ref_on shape p sub)
unfolding ref_on
grows_ref_on (integer size signed) p sub g = refuses (MirLowerError.TypeError 3) p
grows_ref_on bool p sub g = refuses (MirLowerError.TypeError 3) p
grows_ref_on char p sub g = refuses (MirLowerError.TypeError 3) p
grows_ref_on str p sub g = refuses (MirLowerError.TypeError 3) p
grows_ref_on (tuple fields) p sub g = refuses (MirLowerError.TypeError 3) p
grows_ref_on (adt kind variants) p sub g = refuses (MirLowerError.TypeError 3) p
grows_ref_on (reference t) p sub g = λ mode ctx c els place. good_step p (project place ProjectionElem.Deref) _ (λ place' e. g mode ctx c els place')
grows_ref_on (array t n) p sub g = refuses (MirLowerError.TypeError 3) p
grows_ref_on (slice t) p sub g = refuses (MirLowerError.TypeError 3) p
grows_ref_on unknown p sub g = refuses (MirLowerError.TypeError 3) p

-- a Ref
pub grows_ref : (image : List ℕ) (p : ℕ) (sub : Lowering) → Grows sub → Grows (ref_pattern image p sub)
unfolding ref_pattern
grows_ref image p sub g mode ctx c els place = good_needed p (shape_of image (place_ty image ctx.state place)) _ (λ shape. grows_ref_on shape p sub g mode ctx c els place)

-- the arguments of a pattern that names a variant all grow a body well
abbrev pub ShapeGrows : AdtPatternShape → Type 0
ShapeGrows (AdtPatternShape.Tuple args ellipsis) = AllGrow args
ShapeGrows (AdtPatternShape.Record fields args) = AllGrow args
ShapeGrows AdtPatternShape.Unit = Unit {0}

-- the fields of a Record, if each is there
grows_record : (elems : Option (List ProjectionElem)) (p : ℕ) (args : List Lowering) → AllGrow args → Grows (record_fields elems p args)
unfolding record_fields
grows_record none p args g = refuses MirLowerError.UnresolvedField p
grows_record (some elems) p args g = grows_adt p elems args g

-- the fields of a variant
pub grows_fields : (shape : AdtPatternShape) (p n : ℕ) → ShapeGrows shape → Grows (variant_fields shape p n)
unfolding variant_fields
grows_fields (AdtPatternShape.Tuple args ellipsis) p n g = grows_tuple_like p args (ellipsis_at ellipsis args) n g
grows_fields (AdtPatternShape.Record fields args) p n g = grows_record (resolved n fields) p args g
grows_fields AdtPatternShape.Unit p n g = λ mode ctx c els place. good_out ctx c els

-- a variant of a struct, an enum or a union
grows_variant_on : (kind : AdtKind) (image : List ℕ) (p v : ℕ) (shape : AdtPatternShape) → ShapeGrows shape → Grows (variant_on kind image p v shape)
unfolding variant_on
grows_variant_on AdtKind.Struct image p v shape g = grows_fields shape p (length (variant_of image v).fields) g
grows_variant_on AdtKind.Enum image p v shape g = λ mode ctx c els place.
    good_next (in_check mode (discriminant_test image p v ctx c els place) (out ctx c els)) _
    (good_check mode _ _ (good_discriminant image p v ctx c els place) (λ b. good_out ctx c els)) (λ r.
    good_step p (project place (ProjectionElem.Downcast v)) _ (λ place' e.
    grows_fields shape p (length (variant_of image v).fields) g mode r.ctx r.then r.else place'))
grows_variant_on AdtKind.Union image p v shape g = refuses (MirLowerError.TypeError 6) p
grows_variant_on AdtKind.Unknown image p v shape g = refuses (MirLowerError.TypeError 6) p

-- a pattern that names a variant, by what the type of its place is
grows_adt_on : (s : Shape) (image : List ℕ) (p v : ℕ) (shape : AdtPatternShape) → ShapeGrows shape → Grows (adt_on s image p v shape)
unfolding adt_on
grows_adt_on (integer size signed) image p v shape g = refuses (MirLowerError.TypeError 4) p
grows_adt_on bool image p v shape g = refuses (MirLowerError.TypeError 4) p
grows_adt_on char image p v shape g = refuses (MirLowerError.TypeError 4) p
grows_adt_on str image p v shape g = refuses (MirLowerError.TypeError 4) p
grows_adt_on (tuple fields) image p v shape g = refuses (MirLowerError.TypeError 4) p
grows_adt_on (adt kind variants) image p v shape g = λ mode ctx c els place.
    good_cond (member v variants) _ _ (grows_variant_on kind image p v shape g mode ctx c els place) (good_refused (MirLowerError.TypeError 5) p)
grows_adt_on (reference t) image p v shape g = refuses (MirLowerError.TypeError 4) p
grows_adt_on (array t n) image p v shape g = refuses (MirLowerError.TypeError 4) p
grows_adt_on (slice t) image p v shape g = refuses (MirLowerError.TypeError 4) p
grows_adt_on unknown image p v shape g = refuses (MirLowerError.TypeError 4) p

-- a pattern that names a variant
pub grows_variant : (image : List ℕ) (p v : ℕ) (shape : AdtPatternShape) → ShapeGrows shape → Grows (pattern_matching_variant image p v shape)
unfolding pattern_matching_variant
grows_variant image p v shape g mode ctx c els place =
    good_needed p (shape_of image (place_ty image ctx.state place)) _ (λ s. grows_adt_on s image p v shape g mode ctx c els place)

-- a variant that may be absent
pub grows_variant? : (image : List ℕ) (p : ℕ) (v : Option ℕ) (shape : AdtPatternShape) → ShapeGrows shape → Grows (variant_pattern image p v shape)
unfolding variant_pattern
grows_variant? image p none shape g = refuses MirLowerError.NotSupported p
grows_variant? image p (some v) shape g = grows_variant image p v shape g

-- a rest
grows_rest : (rest : RestOf) (bindings : List ℕ) (p front end : ℕ) → Grows (rest_bound rest bindings p front end)
unfolding rest_bound
grows_rest RestOf.none bindings p front end = λ mode ctx c els place. good_out ctx c els
grows_rest RestOf.ignores bindings p front end = λ mode ctx c els place. good_out ctx c els
grows_rest (RestOf.binds q b how) bindings p front end = λ mode ctx c els place.
    good_check mode _ _ (good_out ctx c els) (λ m.
    good_step p (project place (ProjectionElem.Subslice front end)) _ (λ place' e. good_binding bindings p q b how ctx c els place'))

-- the items of a slice
pub grows_items : (bindings : List ℕ) (p : ℕ) (prefix : List Lowering) (rest : RestOf) (suffix : List Lowering) → AllGrow prefix → AllGrow suffix →
    Grows (slice_items bindings p prefix rest suffix)
unfolding slice_items
grows_items bindings p prefix rest suffix g h mode ctx c els place =
    let front = map (λ i. ProjectionElem.Index i) (up_from 0 (length prefix)) in
    let back = suffix_items (length suffix) in
    good_next (pattern_match_adt p front prefix mode ctx c els place) _ (grows_adt p front prefix g mode ctx c els place) (λ r.
    good_next (rest_bound rest bindings p (length prefix) (length suffix) mode r.ctx r.then r.else place) _
    (grows_rest rest bindings p (length prefix) (length suffix) mode r.ctx r.then r.else place) (λ s.
    grows_adt p back suffix h mode s.ctx s.then s.else place))

-- a Slice
pub grows_slice : (shape : Shape) (image bindings : List ℕ) (p : ℕ) (prefix : List Lowering) (rest : RestOf) (suffix : List Lowering) → AllGrow prefix → AllGrow suffix →
    Grows (slice_on shape image bindings p prefix rest suffix)
unfolding slice_on
grows_slice (integer size signed) image bindings p prefix rest suffix g h = refuses (MirLowerError.TypeError 2) p
grows_slice bool image bindings p prefix rest suffix g h = refuses (MirLowerError.TypeError 2) p
grows_slice char image bindings p prefix rest suffix g h = refuses (MirLowerError.TypeError 2) p
grows_slice str image bindings p prefix rest suffix g h = refuses (MirLowerError.TypeError 2) p
grows_slice (tuple fields) image bindings p prefix rest suffix g h = refuses (MirLowerError.TypeError 2) p
grows_slice (adt kind variants) image bindings p prefix rest suffix g h = refuses (MirLowerError.TypeError 2) p
grows_slice (reference t) image bindings p prefix rest suffix g h = refuses (MirLowerError.TypeError 2) p
grows_slice (array t n) image bindings p prefix rest suffix g h = grows_items bindings p prefix rest suffix g h
grows_slice (slice t) image bindings p prefix rest suffix g h = λ mode ctx c els place.
    good_next (in_check mode (length_test rest image p (length prefix + length suffix) ctx c els place) (out ctx c els)) _
    (good_check mode _ _ (good_length rest image p (length prefix + length suffix) ctx c els place) (λ b. good_out ctx c els)) (λ r.
    grows_items bindings p prefix rest suffix g h mode r.ctx r.then r.else place)
grows_slice unknown image bindings p prefix rest suffix g h = refuses (MirLowerError.TypeError 2) p
