-- Document 01's "A pattern fits when: ..", its clauses in the document's order, whose words stand in quotation marks. First those that look at one pattern and
-- the type of its place, and these down the whole tree, alternatives behind one that cannot fail included; then the clause on bindings, the one on what is
-- reached, and the one on locals. Last stands `fits`, which has them all. Assumes nothing: these are definitions.
use Rattle.std.specs.Prelude.{ℕ, zero, suc, ◌+◌, ◌-◌, Bool, true, false, cond, ◌&&◌, ◌||◌, not, List, [], ◌∷◌, ◌++◌, map, eqb, ltb, leb, length, get_or, take, drop}
use Rattle.std.proofs.Math.Option.{Option, none, some}
use Rattle.image.specs.declared.kinds.OperandKind.{OperandKind}
use Rattle.image.specs.Bytes.{little_endian}
use Rattle.image.specs.Integers.{integer_value}
use Rattle.image.specs.Lists.{all_true, distinct}
use Rattle.image.specs.Operands.{is_scalar_value}
use Rattle.image.specs.Types.{Shape, ty_of, variant_of, Operand}
use Rattle.image.specs.Tree.{Head, Target, unresolved, variant, local, constant, other, Pat, Pats, nil, cons, PatOpt, no, sub}
use Rattle.place.specs.declared.place_ty.PlaceTy.{PlaceTy}
use Rattle.cases_spec.specs.Cases.{if_there, kind_number, if_scalar, tuple_fields, if_adt, referent, if_array, by_operand, by_rest, if_bind}
use Rattle.counting.specs.Reaching.{is_enum_kind, can_fail}
use Rattle.meaning.specs.Values.{int_fits, has_variant}
use Rattle.meaning.specs.Matching.{long_enough}
use Rattle.meaning.specs.Typing.{TypeNumber, variant_fields, field_type, element_type}

-- the type behind so many references: "derefs cross references"
unfoldable pub behind : List ℕ → ℕ → TypeNumber → TypeNumber
behind image zero t = t
behind image (suc d) none = none
behind image (suc d) (some t) = behind image d (referent (ty_of image t).shape)

abbrev pub is_type : TypeNumber → ℕ → Bool
is_type none t = false
is_type (some u) t = eqb u t

-- "its type is, by number, the place's after its derefs"
unfoldable pub type_is_the_places : List ℕ → Head → TypeNumber → Bool
type_is_the_places image h place = is_type (behind image h.derefs place) h.ty

-- "arguments equal fields, or do not exceed them with an ellipsis"
unfoldable pub arguments_fit : Option ℕ → ℕ → ℕ → Bool
arguments_fit none args fields = eqb args fields
arguments_fit (some at) args fields = leb args fields

-- "record fields differ"
unfoldable pub field_numbers : List (Option ℕ) → List ℕ
field_numbers [] = []
field_numbers (none ∷ fields) = field_numbers fields
field_numbers (some i ∷ fields) = i ∷ field_numbers fields

abbrev pub record_fields_differ : List (Option ℕ) → Bool
record_fields_differ fields = distinct (field_numbers fields)

-- "discriminants differ": those of the enum that a variant pattern names
unfoldable pub discriminants_differ : List ℕ → Shape → Bool
discriminants_differ image shape = if_adt shape (λ kind variants. not (is_enum_kind kind) || distinct (map (λ v. (variant_of image v).discriminant) variants)) true

-- "an array's prefix and suffix equal its length, or do not exceed it with a rest"
unfoldable pub items_fit : Shape → PatOpt → ℕ → Bool
items_fit shape rest count = if_array shape (λ t n. long_enough rest count n) true

-- "a rest is Rest, Wild or Bind over Rest, its type and derefs not looked at"
abbrev pub is_rest : Pat → Bool
is_rest pat = by_rest pat true false (λ h b s how. false) false

abbrev pub is_rest? : PatOpt → Bool
is_rest? no = false
is_rest? (sub s) = is_rest s

unfoldable pub rest_fits : PatOpt → Bool
rest_fits no = true
rest_fits (sub rest) = by_rest rest true true (λ h b s how. is_rest? s) false

-- "literals are integer, bool, char or String on a reference to str; .. a literal or constant has its type's kind and holds a value in its range": an integer
unfoldable pub integer_fits : Shape → Bool → List ℕ → Bool
integer_fits shape as_signed bytes = int_fits shape (integer_value as_signed bytes)

-- a String
unfoldable pub refers_to_str : List ℕ → Shape → Bool
refers_to_str image shape = if_there (referent shape) (λ t. eqb (kind_number (ty_of image t).shape) 4) false

-- any literal
unfoldable pub literal_fits : OperandKind → List ℕ → Shape → List ℕ → Bool
literal_fits kind image shape bytes =
    by_operand kind (integer_fits shape true bytes) (integer_fits shape false bytes) (eqb (kind_number shape) 3) (eqb (kind_number shape) 2)
    (refers_to_str image shape) false false

-- "a constant in exactly its size": integer, bool or char, with as many bytes as its type has, that hold a value of it
unfoldable pub constant_fits : Shape → List ℕ → Bool
constant_fits shape bytes =
    if_scalar shape (λ size signed. eqb (length bytes) size)
    (eqb (length bytes) 1 && leb (little_endian bytes) 1)
    (eqb (length bytes) 4 && is_scalar_value (little_endian bytes))
    false

-- "constants and range ends are integer, char or (constants) bool"
unfoldable pub end_fits : OperandKind → Shape → List ℕ → Bool
end_fits kind shape bytes =
    by_operand kind (integer_fits shape true bytes) (integer_fits shape false bytes) (eqb (kind_number shape) 3) false false
    (constant_fits shape bytes && (eqb (kind_number shape) 1 || eqb (kind_number shape) 3)) false

abbrev pub end_fits? : Shape → Option Operand → Bool
end_fits? shape none = true
end_fits? shape (some operand) = end_fits operand.kind shape operand.bytes

abbrev pub is_there : {A : Type 0} → Option A → Bool
is_there none = false
is_there (some a) = true

-- a constant path's operand, or the enum that a path names
unfoldable pub path_fits : List ℕ → Shape → Target → Bool
path_fits image shape unresolved = true
path_fits image shape (variant v) = discriminants_differ image shape
path_fits image shape (local b) = true
path_fits image shape (constant operand) = constant_fits shape operand.bytes
path_fits image shape other = true

-- arguments in a row, each on a place of its field's type; one that has no field fits nothing
unfoldable pub each_fits : List (TypeNumber → Bool) → List ℕ → Bool
each_fits [] ts = true
each_fits (f ∷ fs) [] = f none && each_fits fs []
each_fits (f ∷ fs) (t ∷ ts) = f (some t) && each_fits fs ts

unfoldable pub row_fits : Option ℕ → List (TypeNumber → Bool) → List ℕ → Bool
row_fits none fs ts = arguments_fit none (length fs) (length ts) && each_fits fs ts
row_fits (some at) fs ts =
    arguments_fit (some at) (length fs) (length ts) && each_fits (take at fs) ts && each_fits (drop at fs) (drop (length ts - (length fs - at)) ts)

unfoldable pub by_fields_fit : List (Option ℕ) → List (TypeNumber → Bool) → List ℕ → Bool
by_fields_fit [] fs ts = true
by_fields_fit (i ∷ fields) [] ts = true
by_fields_fit (i ∷ fields) (f ∷ fs) ts = f (field_type ts i) && by_fields_fit fields fs ts

-- items, all on places of one type
unfoldable pub items_all_fit : List (TypeNumber → Bool) → TypeNumber → Bool
items_all_fit [] t = true
items_all_fit (f ∷ fs) t = f t && items_all_fit fs t

module _ (image : List ℕ) where
  unfoldable mutual
    -- the clauses on types, arguments, literals and constants, on a place of this type
    pub types_fit : Pat → TypeNumber → Bool
    types_fit (Pat.Missing h) place = type_is_the_places image h place
    types_fit (Pat.Rest h) place = type_is_the_places image h place
    types_fit (Pat.NotNull h) place = type_is_the_places image h place
    types_fit (Pat.Wild h) place = type_is_the_places image h place
    types_fit (Pat.Tuple h args ellipsis) place =
        type_is_the_places image h place && row_fits ellipsis (fitting args) (tuple_fields (ty_of image h.ty).shape)
    types_fit (Pat.Or h alts) place = type_is_the_places image h place && items_all_fit (fitting alts) (some h.ty)
    types_fit (Pat.Record h fields args v) place =
        let shape = (ty_of image h.ty).shape in
        type_is_the_places image h place && record_fields_differ fields && discriminants_differ image shape
        && by_fields_fit fields (fitting args) (variant_fields image shape v)
    -- "a range has a start or an end"
    types_fit (Pat.Range h start end halfOpen) place =
        let shape = (ty_of image h.ty).shape in
        type_is_the_places image h place && (is_there start || is_there end) && end_fits? shape start && end_fits? shape end
    types_fit (Pat.Slice h prefix rest suffix) place =
        let shape = (ty_of image h.ty).shape in
        type_is_the_places image h place && items_fit shape rest (length (fitting prefix) + length (fitting suffix)) && rest_fits rest
        && items_all_fit (fitting prefix) (element_type shape) && items_all_fit (fitting suffix) (element_type shape)
    types_fit (Pat.Path h target) place = type_is_the_places image h place && path_fits image (ty_of image h.ty).shape target
    types_fit (Pat.Lit h operand) place =
        type_is_the_places image h place && literal_fits operand.kind image (ty_of image h.ty).shape operand.bytes
    types_fit (Pat.Bind h b s how annotation) place = type_is_the_places image h place && types_fit? s (some h.ty)
    types_fit (Pat.TupleStruct h args ellipsis v) place =
        let shape = (ty_of image h.ty).shape in
        type_is_the_places image h place && discriminants_differ image shape && row_fits ellipsis (fitting args) (variant_fields image shape v)
    types_fit (Pat.Ref h s) place = type_is_the_places image h place && types_fit s (referent (ty_of image h.ty).shape)
    types_fit (Pat.Expr h) place = type_is_the_places image h place
    types_fit (Pat.Box h) place = type_is_the_places image h place
    types_fit (Pat.Deref h) place = type_is_the_places image h place

    pub fitting : Pats → List (TypeNumber → Bool)
    fitting nil = []
    fitting (cons q qs) = (λ t. types_fit q t) ∷ fitting qs

    pub types_fit? : PatOpt → TypeNumber → Bool
    types_fit? no place = true
    types_fit? (sub s) place = types_fit s place

-- a binding and its type: a Bind pattern's type number, or of a rest of an array the elements' type and how many are left, which is no number of the table
pub record BoundAt : Type 0 where
  pub binding : ℕ
  pub ty : ℕ
  pub length_left : Option ℕ

abbrev pub same_count : Option ℕ → Option ℕ → Bool
same_count none none = true
same_count none (some n) = false
same_count (some m) none = false
same_count (some m) (some n) = eqb m n

-- the same binding at the same type
unfoldable pub stands_in : BoundAt → List BoundAt → Bool
stands_in x [] = false
stands_in x (y ∷ ys) = (eqb x.binding y.binding && eqb x.ty y.ty && same_count x.length_left y.length_left) || stands_in x ys

unfoldable pub within : List BoundAt → List BoundAt → Bool
within [] ys = true
within (x ∷ xs) ys = stands_in x ys && within xs ys

abbrev pub same_bindings : List BoundAt → List BoundAt → Bool
same_bindings xs ys = within xs ys && within ys xs

-- a rest's binding has the slice's number, or, of an array, the elements' type and how many are left
unfoldable pub rest_ty : Shape → ℕ → ℕ → ℕ → BoundAt
rest_ty shape b t items = if_array shape (λ u n. record { binding = b; ty = u; length_left = some (n - items) }) (record { binding = b; ty = t; length_left = none })

unfoldable pub rest_bound? : PatOpt → Shape → ℕ → ℕ → List BoundAt
rest_bound? no shape t items = []
rest_bound? (sub rest) shape t items = if_bind rest (λ h b s how. rest_ty shape b t items ∷ []) []

unfoldable pub pat_count : Pats → ℕ
pat_count nil = 0
pat_count (cons q qs) = 1 + pat_count qs

module _ (image : List ℕ) where
  unfoldable mutual
    -- the bindings of a pattern, at their types; the alternatives of an Or bind the same, so the first tells
    pub bound_in : Pat → List BoundAt
    bound_in (Pat.Missing h) = []
    bound_in (Pat.Rest h) = []
    bound_in (Pat.NotNull h) = []
    bound_in (Pat.Wild h) = []
    bound_in (Pat.Tuple h args ellipsis) = bound_in_all args
    bound_in (Pat.Or h alts) = bound_in_first alts
    bound_in (Pat.Record h fields args v) = bound_in_all args
    bound_in (Pat.Range h start end halfOpen) = []
    bound_in (Pat.Slice h prefix rest suffix) =
        bound_in_all prefix ++ (rest_bound? rest (ty_of image h.ty).shape h.ty (pat_count prefix + pat_count suffix) ++ bound_in_all suffix)
    bound_in (Pat.Path h target) = []
    bound_in (Pat.Lit h operand) = []
    bound_in (Pat.Bind h b s how annotation) = record { binding = b; ty = h.ty; length_left = none } ∷ bound_in? s
    bound_in (Pat.TupleStruct h args ellipsis v) = bound_in_all args
    bound_in (Pat.Ref h s) = bound_in s
    bound_in (Pat.Expr h) = []
    bound_in (Pat.Box h) = []
    bound_in (Pat.Deref h) = []

    pub bound_in_all : Pats → List BoundAt
    bound_in_all nil = []
    bound_in_all (cons q qs) = bound_in q ++ bound_in_all qs

    pub bound_in_first : Pats → List BoundAt
    bound_in_first nil = []
    bound_in_first (cons q qs) = bound_in q

    pub bound_in? : PatOpt → List BoundAt
    bound_in? no = []
    bound_in? (sub s) = bound_in s

  -- no binding stands twice
  abbrev pub bind_once : List BoundAt → Bool
  bind_once xs = distinct (map (λ x. x.binding) xs)

  unfoldable mutual
    -- "a binding stands twice only in different alternatives of one Or, and these, one or more, bind the same bindings at the same types"
    pub bindings_fit : Pat → Bool
    bindings_fit (Pat.Missing h) = true
    bindings_fit (Pat.Rest h) = true
    bindings_fit (Pat.NotNull h) = true
    bindings_fit (Pat.Wild h) = true
    bindings_fit (Pat.Tuple h args ellipsis) = bind_once (bound_in_all args) && all_bindings_fit args
    bindings_fit (Pat.Or h alts) = alternatives_fit alts && all_bindings_fit alts
    bindings_fit (Pat.Record h fields args v) = bind_once (bound_in_all args) && all_bindings_fit args
    bindings_fit (Pat.Range h start end halfOpen) = true
    bindings_fit (Pat.Slice h prefix rest suffix) = bind_once (bound_in (Pat.Slice h prefix rest suffix)) && all_bindings_fit prefix && all_bindings_fit suffix
    bindings_fit (Pat.Path h target) = true
    bindings_fit (Pat.Lit h operand) = true
    bindings_fit (Pat.Bind h b s how annotation) = bind_once (bound_in (Pat.Bind h b s how annotation)) && bindings_fit? s
    bindings_fit (Pat.TupleStruct h args ellipsis v) = bind_once (bound_in_all args) && all_bindings_fit args
    bindings_fit (Pat.Ref h s) = bindings_fit s
    bindings_fit (Pat.Expr h) = true
    bindings_fit (Pat.Box h) = true
    bindings_fit (Pat.Deref h) = true

    pub all_bindings_fit : Pats → Bool
    all_bindings_fit nil = true
    all_bindings_fit (cons q qs) = bindings_fit q && all_bindings_fit qs

    pub bindings_fit? : PatOpt → Bool
    bindings_fit? no = true
    bindings_fit? (sub s) = bindings_fit s

    -- there is an alternative, and the others bind what it binds
    pub alternatives_fit : Pats → Bool
    alternatives_fit nil = false
    alternatives_fit (cons q qs) = all_bind (bound_in q) qs

    pub all_bind : List BoundAt → Pats → Bool
    all_bind xs nil = true
    all_bind xs (cons q qs) = same_bindings xs (bound_in q) && all_bind xs qs

-- a Record's fields are there: not refused as 5
unfoldable pub fields_there : List (Option ℕ) → ℕ → Bool
fields_there [] count = true
fields_there (none ∷ fields) count = false
fields_there (some i ∷ fields) count = ltb i count && fields_there fields count

-- the ellipsis is not beyond the arguments: not refused as 7
abbrev pub ellipsis_within : Option ℕ → ℕ → Bool
ellipsis_within none count = true
ellipsis_within (some at) count = leb at count

-- a binding has a local: not refused as 9
abbrev pub has_local : List ℕ → ℕ → Bool
has_local bindings b = not (eqb (get_or bindings b 65535) 65535)

-- a Path that is not refused as 6 or 13
unfoldable pub path_taken : Shape → Target → Bool
path_taken shape unresolved = false
path_taken shape (variant v) = has_variant shape (some v)
path_taken shape (local b) = false
path_taken shape (constant operand) = true
path_taken shape other = false

-- the binding of a rest has a local
abbrev pub rest_taken? : List ℕ → PatOpt → Bool
rest_taken? bindings no = true
rest_taken? bindings (sub rest) = if_bind rest (λ h b s how. has_local bindings b) true

module _ (image bindings : List ℕ) where
  unfoldable mutual
    -- "and nothing refused as 3 to 10 or 13 is reached"
    pub nothing_refused : Pat → Bool
    nothing_refused (Pat.Missing h) = false
    nothing_refused (Pat.Rest h) = false
    nothing_refused (Pat.NotNull h) = false
    nothing_refused (Pat.Wild h) = true
    nothing_refused (Pat.Tuple h args ellipsis) =
        eqb (kind_number (ty_of image h.ty).shape) 5 && ellipsis_within ellipsis (pat_count args) && none_refused args
    nothing_refused (Pat.Or h alts) = none_reached_refused alts (PlaceTy.Ty h.ty)
    nothing_refused (Pat.Record h fields args v) =
        has_variant (ty_of image h.ty).shape v && fields_there fields (length (variant_fields image (ty_of image h.ty).shape v)) && none_refused args
    nothing_refused (Pat.Range h start end halfOpen) = true
    nothing_refused (Pat.Slice h prefix rest suffix) =
        leb 8 (kind_number (ty_of image h.ty).shape) && rest_taken? bindings rest && none_refused prefix && none_refused suffix
    nothing_refused (Pat.Path h target) = path_taken (ty_of image h.ty).shape target
    nothing_refused (Pat.Lit h operand) = true
    nothing_refused (Pat.Bind h b s how annotation) = has_local bindings b && nothing_refused? s
    nothing_refused (Pat.TupleStruct h args ellipsis v) =
        has_variant (ty_of image h.ty).shape v && ellipsis_within ellipsis (pat_count args) && none_refused args
    nothing_refused (Pat.Ref h s) = eqb (kind_number (ty_of image h.ty).shape) 7 && nothing_refused s
    nothing_refused (Pat.Expr h) = false
    nothing_refused (Pat.Box h) = false
    nothing_refused (Pat.Deref h) = false

    pub none_refused : Pats → Bool
    none_refused nil = true
    none_refused (cons q qs) = nothing_refused q && none_refused qs

    -- alternatives up to the first that cannot fail are reached
    pub none_reached_refused : Pats → PlaceTy → Bool
    none_reached_refused nil ty = true
    none_reached_refused (cons q qs) ty = nothing_refused q && (not (can_fail image q ty) || none_reached_refused qs ty)

    pub nothing_refused? : PatOpt → Bool
    nothing_refused? no = true
    nothing_refused? (sub s) = nothing_refused s

-- the locals of those bindings that have one
unfoldable pub present : List ℕ → List ℕ
present [] = []
present (l ∷ ls) = cond (eqb l 65535) (present ls) (l ∷ present ls)

-- "The bindings' locals, the place's root .. all differ"
unfoldable pub locals_differ : List ℕ → ℕ → Bool
locals_differ bindings root = distinct (root ∷ present bindings)

-- "A pattern fits", on a place of the type t whose root is the local `root`
unfoldable pub fits : List ℕ → List ℕ → ℕ → ℕ → Pat → Bool
fits image bindings root t pat =
    all_true (types_fit image pat (some t) ∷ bindings_fit image pat ∷ nothing_refused image bindings pat ∷ locals_differ bindings root ∷ [])
