-- The type of a pattern's place: that of its head behind its derefs, and of the parts that its children stand on. Assumes nothing.
use Prim.Native.Nat.{ℕ, zero, suc, ◌+◌, ◌<◌}
use mathlib.Core.Path.{◌≡◌, refl, sym, ap, ◌∙◌}
use mathlib.Core.Bool.{Bool, true, false, cond, ◌&&◌, ◌||◌, false≢true}
use mathlib.Core.Option.{Option, none, some}
use mathlib.Core.List.{List}
use native.Mathlib.Omega.{arith}
use borrow.Author.Tests.{eqb-true, lt-ltb}
use lib.Dec.{eqb}
use lib.ListN.{length, get_or}
use Rattle.image.specs.declared.kinds.AdtKind.{AdtKind}
use Rattle.image.specs.declared.kinds.BindingMode.{BindingMode}
use Rattle.image.specs.declared.kinds.BindingAnnotation.{BindingAnnotation}
use Rattle.image.specs.declared.kinds.TypeKind.{TypeKind}
use Rattle.image.specs.declared.rows.TypeRow.{TypeRow}
use Rattle.image.specs.Tables.{type_count, variant_count}
use Rattle.image.specs.Kinds.{type_kind, adt_kind}
use Rattle.image.specs.Rows.{type_at}
use Rattle.image.specs.Rules.{in_table, adt_may_have, type_shape_holds}
use Rattle.image.specs.Valid.{valid}
use Rattle.image.specs.Lists.{member, up_from}
use Rattle.image.specs.Types.{Shape, integer, bool, char, str, tuple, adt, reference, array, slice, unknown, shape_by, ty_of, variant_of, Operand}
use Rattle.image.specs.Tree.{Head, Target, Pat, Pats, PatOpt}
use Rattle.image.proofs.Bools.{and_left, and_right}
use Rattle.image.proofs.Known.{shape_holds}
use Rattle.place.specs.declared.elems.ProjectionElem.{ProjectionElem}
use Rattle.place.specs.declared.place_ty.PlaceTy.{PlaceTy}
use Rattle.place.specs.PlaceTypes.{field_of, deref_ty, adt_field_ty, field_ty, element_ty, adt_downcast_ty, downcast_ty, ty_projection, variant_projection, projection_ty}
use Rattle.counting.specs.Reaching.{behind_derefs}
use Rattle.cases_spec.specs.Cases.{referent, tuple_fields}
use Rattle.meaning.specs.Values.{Value, has_values, value_fits, has_variant}
use Rattle.meaning.specs.Matching.{crossed}
use Rattle.meaning.specs.Typing.{TypeNumber, adt_variants, variant_fields, element_type}
use Rattle.meaning.specs.Fit.{behind, is_type, type_is_the_places, record_fields_differ, discriminants_differ, items_fit, rest_fits, literal_fits, end_fits?, is_there, path_fits, row_fits, by_fields_fit, items_all_fit, types_fit, fitting, types_fit?}
use Rattle.meaning.proofs.Crossing.{none_some, behind_none, behind_first, fits_crossed}

-- what every pattern has
unfoldable pub head_of : Pat → Head
head_of (Pat.Missing h) = h
head_of (Pat.Rest h) = h
head_of (Pat.NotNull h) = h
head_of (Pat.Wild h) = h
head_of (Pat.Tuple h args ellipsis) = h
head_of (Pat.Or h alts) = h
head_of (Pat.Record h fields args v) = h
head_of (Pat.Range h start end halfOpen) = h
head_of (Pat.Slice h prefix rest suffix) = h
head_of (Pat.Path h target) = h
head_of (Pat.Lit h operand) = h
head_of (Pat.Bind h b s how annotation) = h
head_of (Pat.TupleStruct h args ellipsis v) = h
head_of (Pat.Ref h s) = h
head_of (Pat.Expr h) = h
head_of (Pat.Box h) = h
head_of (Pat.Deref h) = h

two : (a b : Bool) → a && b ≡ true → (a ≡ true) × (b ≡ true)
two a b e = (and_left a b e, and_right a b e)

three : (a b c : Bool) → a && b && c ≡ true → (a ≡ true) × (b ≡ true) × (c ≡ true)
three a b c e = let (x, z) = two (a && b) c e in (and_left a b x, and_right a b x, z)

four : (a b c d : Bool) → a && b && c && d ≡ true → (a ≡ true) × (b ≡ true) × (c ≡ true) × (d ≡ true)
four a b c d e = let (x, z) = two (a && b && c) d e in let (p, q, r) = three a b c x in (p, q, r, z)

five : (a b c d f : Bool) → a && b && c && d && f ≡ true → (a ≡ true) × (b ≡ true) × (c ≡ true) × (d ≡ true) × (f ≡ true)
five a b c d f e = let (x, z) = two (a && b && c && d) f e in let (p, q, r, s) = four a b c d x in (p, q, r, s, z)

module _ (image : List ℕ) where
  head_behind : (h : Head) (place : TypeNumber) → type_is_the_places image h place ≡ true → behind image h.derefs place ≡ some h.ty
  unfolding type_is_the_places
  head_behind h place e = by (behind image h.derefs place) e
    where
      by : (r : TypeNumber) → is_type r h.ty ≡ true → r ≡ some h.ty
      by none q = absurd (false≢true q)
      by (some u) q = ap some (eqb-true u h.ty q)

  -- behind so many references of a type
  behind_derefs_lem : (d t u : ℕ) → behind image d (some t) ≡ some u → behind_derefs image (PlaceTy.Ty t) d ≡ PlaceTy.Ty u
  unfolding behind behind_derefs projection_ty ty_projection deref_ty
  behind_derefs_lem zero t u b = ap PlaceTy.Ty (let q : t ≡ u = cc in q)
  behind_derefs_lem (suc d) t u b =
      let (w, e, rest) = behind_first image d t u b in
      ap (λ (s : Shape). behind_derefs image (deref_ty s) d) e ∙ behind_derefs_lem d w u rest

  module _ (h : Head) (place : TypeNumber) where
    -- a Tuple's arguments fit in a row
    pub tuple_fits : (args : Pats) (ellipsis : Option ℕ) → types_fit image (Pat.Tuple h args ellipsis) place ≡ true → (type_is_the_places image h place ≡ true) × (row_fits ellipsis (fitting image args) (tuple_fields (ty_of image h.ty).shape) ≡ true)
    unfolding types_fit
    tuple_fits args ellipsis e = two (type_is_the_places image h place) (row_fits ellipsis (fitting image args) (tuple_fields (ty_of image h.ty).shape)) e

    -- alternatives fit the same place
    pub or_fits : (alts : Pats) → types_fit image (Pat.Or h alts) place ≡ true → (type_is_the_places image h place ≡ true) × (items_all_fit (fitting image alts) (some h.ty) ≡ true)
    unfolding types_fit
    or_fits alts e = two (type_is_the_places image h place) (items_all_fit (fitting image alts) (some h.ty)) e

    -- a Record's arguments fit by their fields
    pub record_fits : (fields : List (Option ℕ)) (args : Pats) (v : Option ℕ) → types_fit image (Pat.Record h fields args v) place ≡ true → (type_is_the_places image h place ≡ true) × (record_fields_differ fields ≡ true) × (discriminants_differ image (ty_of image h.ty).shape ≡ true) × (by_fields_fit fields (fitting image args) (variant_fields image (ty_of image h.ty).shape v) ≡ true)
    unfolding types_fit
    record_fits fields args v e = four (type_is_the_places image h place) (record_fields_differ fields) (discriminants_differ image (ty_of image h.ty).shape) (by_fields_fit fields (fitting image args) (variant_fields image (ty_of image h.ty).shape v)) e

    -- the ends of a Range fit
    pub range_fits : (start end : Option Operand) (halfOpen : Bool) → types_fit image (Pat.Range h start end halfOpen) place ≡ true → (type_is_the_places image h place ≡ true) × (is_there start || is_there end ≡ true) × (end_fits? (ty_of image h.ty).shape start ≡ true) × (end_fits? (ty_of image h.ty).shape end ≡ true)
    unfolding types_fit
    range_fits start end halfOpen e = four (type_is_the_places image h place) (is_there start || is_there end) (end_fits? (ty_of image h.ty).shape start) (end_fits? (ty_of image h.ty).shape end) e

    -- the items of a Slice fit the elements' type
    pub slice_fits : (prefix : Pats) (rest : PatOpt) (suffix : Pats) → types_fit image (Pat.Slice h prefix rest suffix) place ≡ true → (type_is_the_places image h place ≡ true) × (items_fit (ty_of image h.ty).shape rest (length (fitting image prefix) + length (fitting image suffix)) ≡ true) × (rest_fits rest ≡ true) × (items_all_fit (fitting image prefix) (element_type (ty_of image h.ty).shape) ≡ true) × (items_all_fit (fitting image suffix) (element_type (ty_of image h.ty).shape) ≡ true)
    unfolding types_fit
    slice_fits prefix rest suffix e = five (type_is_the_places image h place) (items_fit (ty_of image h.ty).shape rest (length (fitting image prefix) + length (fitting image suffix))) (rest_fits rest) (items_all_fit (fitting image prefix) (element_type (ty_of image h.ty).shape)) (items_all_fit (fitting image suffix) (element_type (ty_of image h.ty).shape)) e

    -- what a Path names
    pub path_fits_lem : (target : Target) → types_fit image (Pat.Path h target) place ≡ true → (type_is_the_places image h place ≡ true) × (path_fits image (ty_of image h.ty).shape target ≡ true)
    unfolding types_fit
    path_fits_lem target e = two (type_is_the_places image h place) (path_fits image (ty_of image h.ty).shape target) e

    -- a literal
    pub lit_fits : (operand : Operand) → types_fit image (Pat.Lit h operand) place ≡ true → (type_is_the_places image h place ≡ true) × (literal_fits operand.kind image (ty_of image h.ty).shape operand.bytes ≡ true)
    unfolding types_fit
    lit_fits operand e = two (type_is_the_places image h place) (literal_fits operand.kind image (ty_of image h.ty).shape operand.bytes) e

    -- what stands below a Bind fits the same place
    pub bind_fits : (b : ℕ) (s : PatOpt) (how : BindingMode) (annotation : BindingAnnotation) → types_fit image (Pat.Bind h b s how annotation) place ≡ true → (type_is_the_places image h place ≡ true) × (types_fit? image s (some h.ty) ≡ true)
    unfolding types_fit
    bind_fits b s how annotation e = two (type_is_the_places image h place) (types_fit? image s (some h.ty)) e

    -- a TupleStruct's arguments fit in a row
    pub tuple_struct_fits : (args : Pats) (ellipsis v : Option ℕ) → types_fit image (Pat.TupleStruct h args ellipsis v) place ≡ true → (type_is_the_places image h place ≡ true) × (discriminants_differ image (ty_of image h.ty).shape ≡ true) × (row_fits ellipsis (fitting image args) (variant_fields image (ty_of image h.ty).shape v) ≡ true)
    unfolding types_fit
    tuple_struct_fits args ellipsis v e = three (type_is_the_places image h place) (discriminants_differ image (ty_of image h.ty).shape) (row_fits ellipsis (fitting image args) (variant_fields image (ty_of image h.ty).shape v)) e

    -- what stands below a Ref fits what the reference refers to
    pub ref_fits : (s : Pat) → types_fit image (Pat.Ref h s) place ≡ true → (type_is_the_places image h place ≡ true) × (types_fit image s (referent (ty_of image h.ty).shape) ≡ true)
    unfolding types_fit
    ref_fits s e = two (type_is_the_places image h place) (types_fit image s (referent (ty_of image h.ty).shape)) e

  -- a pattern that fits has a head that does
  pub head_fits_lem : (pat : Pat) (place : TypeNumber) → types_fit image pat place ≡ true → type_is_the_places image (head_of pat) place ≡ true
  unfolding types_fit head_of
  head_fits_lem (Pat.Missing h) place e = e
  head_fits_lem (Pat.Rest h) place e = e
  head_fits_lem (Pat.NotNull h) place e = e
  head_fits_lem (Pat.Wild h) place e = e
  head_fits_lem (Pat.Tuple h args ellipsis) place e = (tuple_fits h place args ellipsis e).0
  head_fits_lem (Pat.Or h alts) place e = (or_fits h place alts e).0
  head_fits_lem (Pat.Record h fields args v) place e = (record_fits h place fields args v e).0
  head_fits_lem (Pat.Range h start end halfOpen) place e = (range_fits h place start end halfOpen e).0
  head_fits_lem (Pat.Slice h prefix rest suffix) place e = (slice_fits h place prefix rest suffix e).0
  head_fits_lem (Pat.Path h target) place e = (path_fits_lem h place target e).0
  head_fits_lem (Pat.Lit h operand) place e = (lit_fits h place operand e).0
  head_fits_lem (Pat.Bind h b s how annotation) place e = (bind_fits h place b s how annotation e).0
  head_fits_lem (Pat.TupleStruct h args ellipsis v) place e = (tuple_struct_fits h place args ellipsis v e).0
  head_fits_lem (Pat.Ref h s) place e = (ref_fits h place s e).0
  head_fits_lem (Pat.Expr h) place e = e
  head_fits_lem (Pat.Box h) place e = e
  head_fits_lem (Pat.Deref h) place e = e

  -- the type behind its derefs is the head's
  pub type_behind : (pat : Pat) (place : TypeNumber) → types_fit image pat place ≡ true → behind image (head_of pat).derefs place ≡ some (head_of pat).ty
  type_behind pat place e = head_behind (head_of pat) place (head_fits_lem pat place e)

  pub type_here : (pat : Pat) (t : ℕ) → types_fit image pat (some t) ≡ true → behind_derefs image (PlaceTy.Ty t) (head_of pat).derefs ≡ PlaceTy.Ty (head_of pat).ty
  type_here pat t e = behind_derefs_lem (head_of pat).derefs t (head_of pat).ty (type_behind pat (some t) e)

  -- a value that fits the place's type fits the head's, behind its derefs
  pub value_here : (pat : Pat) (v : Value) (t : ℕ) → types_fit image pat (some t) ≡ true → value_fits image v t ≡ true → value_fits image (crossed (head_of pat).derefs v) (head_of pat).ty ≡ true
  value_here pat v t e fits = fits_crossed image (head_of pat).derefs v t (head_of pat).ty (type_behind pat (some t) e) fits

  -- nothing fits a place with no type
  pub no_type_lem : (pat : Pat) → types_fit image pat none ≡ true → ⊥
  no_type_lem pat e = none_some (sym (behind_none image (head_of pat).derefs) ∙ type_behind pat none e)

  -- the field i of fields with these types
  field_there : (ts : List ℕ) (i : ℕ) → i < length ts → field_of ts i ≡ PlaceTy.Ty (get_or ts i 0)
  unfolding field_of
  field_there ts i h = rw (lt-ltb i (length ts) h)

  -- the type of a tuple's field
  pub tuple_field : (t : ℕ) (ts : List ℕ) (i : ℕ) → (ty_of image t).shape ≡ tuple ts → i < length ts → projection_ty (PlaceTy.Ty t) image (ProjectionElem.Field i) ≡ PlaceTy.Ty (get_or ts i 0)
  unfolding projection_ty ty_projection field_ty
  tuple_field t ts i e h = ap (λ (s : Shape). field_ty s image i) e ∙ field_there ts i h

  -- of a struct's, which has one variant
  pub struct_field : (t v : ℕ) (variants : List ℕ) (i : ℕ) → (ty_of image t).shape ≡ adt AdtKind.Struct variants → get_or variants 0 0 ≡ v → i < length (variant_of image v).fields
      → projection_ty (PlaceTy.Ty t) image (ProjectionElem.Field i) ≡ PlaceTy.Ty (get_or (variant_of image v).fields i 0)
  unfolding projection_ty ty_projection field_ty adt_field_ty
  struct_field t v variants i e one h =
      ap (λ (s : Shape). field_ty s image i) e ∙ ap (λ (w : ℕ). field_of (variant_of image w).fields i) one ∙ field_there (variant_of image v).fields i h

  -- of an enum's, behind the choice of a variant
  pub enum_choice : (t v : ℕ) (variants : List ℕ) → (ty_of image t).shape ≡ adt AdtKind.Enum variants → member v variants ≡ true
      → projection_ty (PlaceTy.Ty t) image (ProjectionElem.Downcast v) ≡ PlaceTy.Variant t v
  unfolding projection_ty ty_projection downcast_ty adt_downcast_ty
  enum_choice t v variants e m = ap (λ (s : Shape). downcast_ty t v s) e ∙ ap (λ (b : Bool). cond b (PlaceTy.Variant t v) PlaceTy.Inapplicable) m

  pub enum_field : (t v i : ℕ) → i < length (variant_of image v).fields → projection_ty (PlaceTy.Variant t v) image (ProjectionElem.Field i) ≡ PlaceTy.Ty (get_or (variant_of image v).fields i 0)
  unfolding projection_ty variant_projection
  enum_field t v i h = field_there (variant_of image v).fields i h

  -- of what a reference refers to
  pub deref_type : (t u : ℕ) → (ty_of image t).shape ≡ reference u → projection_ty (PlaceTy.Ty t) image ProjectionElem.Deref ≡ PlaceTy.Ty u
  unfolding projection_ty ty_projection deref_ty
  deref_type t u e = ap deref_ty e

  -- of an element of an array or a slice
  element_there : (s : Shape) {u : ℕ} → element_type s ≡ some u → element_ty s ≡ PlaceTy.Ty u
  unfolding element_type element_ty
  element_there (integer size signed) e = absurd (none_some e)
  element_there bool e = absurd (none_some e)
  element_there char e = absurd (none_some e)
  element_there str e = absurd (none_some e)
  element_there (tuple fields) e = absurd (none_some e)
  element_there (adt kind variants) e = absurd (none_some e)
  element_there (reference t) e = absurd (none_some e)
  element_there (array t n) {u} e = ap PlaceTy.Ty (let q : t ≡ u = cc in q)
  element_there (slice t) {u} e = ap PlaceTy.Ty (let q : t ≡ u = cc in q)
  element_there unknown e = absurd (none_some e)

  pub index_type : (t i : ℕ) {u : ℕ} → element_type (ty_of image t).shape ≡ some u → projection_ty (PlaceTy.Ty t) image (ProjectionElem.Index i) ≡ PlaceTy.Ty u
  unfolding projection_ty ty_projection
  index_type t i e = element_there (ty_of image t).shape e

  pub end_index_type : (t i : ℕ) {u : ℕ} → element_type (ty_of image t).shape ≡ some u → projection_ty (PlaceTy.Ty t) image (ProjectionElem.IndexFromEnd i) ≡ PlaceTy.Ty u
  unfolding projection_ty ty_projection
  end_index_type t i e = element_there (ty_of image t).shape e

  -- the fields of a variant that an ADT has
  pub variant_fields_lem : (v : ℕ) (kind : AdtKind) (variants : List ℕ) (s : Shape) → s ≡ adt kind variants → member v variants ≡ true → variant_fields image s (some v) ≡ (variant_of image v).fields
  unfolding variant_fields adt_variants
  variant_fields_lem v kind variants s e m = rw (e, m)

-- a struct or an enum that has the variant
pub has_variant_lem : (s : Shape) (v : Option ℕ) → has_variant s v ≡ true
    → (w : ℕ) × (kind : AdtKind) × (variants : List ℕ) × (v ≡ some w) × (s ≡ adt kind variants) × (has_values kind ≡ true) × (member w variants ≡ true)
unfolding has_variant
has_variant_lem (integer size signed) v e = absurd (false≢true e)
has_variant_lem bool v e = absurd (false≢true e)
has_variant_lem char v e = absurd (false≢true e)
has_variant_lem str v e = absurd (false≢true e)
has_variant_lem (tuple fields) v e = absurd (false≢true e)
has_variant_lem (adt kind variants) none e = absurd (false≢true e)
has_variant_lem (adt kind variants) (some v) e = let (b, m) = two (has_values kind) (member v variants) e in (v, kind, variants, refl, refl, b, m)
has_variant_lem (reference t) v e = absurd (false≢true e)
has_variant_lem (array t n) v e = absurd (false≢true e)
has_variant_lem (slice t) v e = absurd (false≢true e)
has_variant_lem unknown v e = absurd (false≢true e)

one_of_lem : (a n v : ℕ) → n ≡ 1 → member v (up_from a n) ≡ true → get_or (up_from a n) 0 0 ≡ v
unfolding up_from member
one_of_lem a zero v e m = absurd (omega arith)
one_of_lem a (suc zero) v e m = by (eqb v a) refl m
  where
    by : (b : Bool) → eqb v a ≡ b → b || false ≡ true → a ≡ v
    by true q r = sym (eqb-true v a q)
    by false q r = absurd (false≢true r)
one_of_lem a (suc (suc n)) v e m = absurd (omega arith)

struct_by : (image : List ℕ) (kind : TypeKind) (row : TypeRow) (variants : List ℕ) (v : ℕ) → shape_by kind image row ≡ adt AdtKind.Struct variants → type_shape_holds kind image row ≡ true
    → member v variants ≡ true → get_or variants 0 0 ≡ v
unfolding shape_by type_shape_holds adt_may_have
struct_by image TypeKind.Adt row variants v e h m =
    let kind : adt_kind row.c ≡ AdtKind.Struct = cc in
    let same : up_from row.a row.b ≡ variants = cc in
    let one : eqb row.b 1 ≡ true = rw kind at (and_right (in_table row.a row.b (variant_count image)) (adt_may_have (adt_kind row.c) row.b) h) in
    rw same at (one_of_lem row.a row.b v (eqb-true row.b 1 one) (rw same m))
struct_by image TypeKind.Integer row variants v e h m = absurd (let z : ◌≡◌ {A = ℕ} 0 1 = cc in omega arith)
struct_by image TypeKind.Bool row variants v e h m = absurd (let z : ◌≡◌ {A = ℕ} 0 1 = cc in omega arith)
struct_by image TypeKind.Char row variants v e h m = absurd (let z : ◌≡◌ {A = ℕ} 0 1 = cc in omega arith)
struct_by image TypeKind.Str row variants v e h m = absurd (let z : ◌≡◌ {A = ℕ} 0 1 = cc in omega arith)
struct_by image TypeKind.Tuple row variants v e h m = absurd (let z : ◌≡◌ {A = ℕ} 0 1 = cc in omega arith)
struct_by image TypeKind.Reference row variants v e h m = absurd (let z : ◌≡◌ {A = ℕ} 0 1 = cc in omega arith)
struct_by image TypeKind.Array row variants v e h m = absurd (let z : ◌≡◌ {A = ℕ} 0 1 = cc in omega arith)
struct_by image TypeKind.Slice row variants v e h m = absurd (let z : ◌≡◌ {A = ℕ} 0 1 = cc in omega arith)
struct_by image TypeKind.Unknown row variants v e h m = absurd (false≢true h)

-- a struct of a valid image has one variant
pub struct_one : (image : List ℕ) (t : ℕ) (variants : List ℕ) (v : ℕ) → valid image ≡ true → t < type_count image → (ty_of image t).shape ≡ adt AdtKind.Struct variants
    → member v variants ≡ true → get_or variants 0 0 ≡ v
unfolding ty_of
struct_one image t variants v ok here e m = struct_by image (type_kind (type_at image t).kind) (type_at image t) variants v e (shape_holds image t ok here) m
