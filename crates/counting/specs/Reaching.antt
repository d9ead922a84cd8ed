-- Document 01's "reached" and "can fail", down the pattern tree from the type of its place. Assumes nothing: these are definitions.
use Rattle.std.specs.Prelude.{ℕ, zero, suc, ◌+◌, Bool, true, false, cond, ◌&&◌, ◌||◌, List, [], ◌∷◌, ◌++◌, map, reverse, length, take, drop}
use Rattle.std.proofs.Math.Option.{Option, none, some}
use Rattle.image.specs.declared.kinds.AdtKind.{AdtKind}
use Rattle.image.specs.Lists.{up_from}
use Rattle.image.specs.Types.{Shape, ty_of, variant_of, Operand}
use Rattle.image.specs.Tree.{Head, Target, unresolved, variant, local, constant, other, Pat, Pats, nil, cons, PatOpt, no, sub}
use Rattle.place.specs.declared.elems.ProjectionElem.{ProjectionElem}
use Rattle.place.specs.declared.place_ty.PlaceTy.{PlaceTy}
use Rattle.place.specs.PlaceTypes.{projection_ty, multi_projection_ty}
use Rattle.pattern_matching.specs.Variants.{shape_of, fields_up_to}
use Rattle.pattern_matching.specs.Slices.{suffix_items}
use Rattle.cases_spec.specs.Cases.{if_there, tuple_fields, by_adt_kind, if_adt, if_slice, if_bind}

-- the type of a place behind so many references
unfoldable pub behind_derefs : List ℕ → PlaceTy → ℕ → PlaceTy
behind_derefs image ty zero = ty
behind_derefs image ty (suc n) = behind_derefs image (projection_ty ty image ProjectionElem.Deref) n

-- arguments and the elements that lead to them, in pairs; surplus ones of either are dropped, as by `zip`
pub record Argument (A : Type 0) : Type 0 where
  pub elems : List ProjectionElem
  pub what : A

unfoldable pub zip : {A : Type 0} → List ProjectionElem → List A → List (Argument A)
zip [] xs = []
zip (elem ∷ elems) [] = []
zip (elem ∷ elems) (x ∷ xs) = record { elems = elem ∷ []; what = x } ∷ zip elems xs

-- arguments in a row on so many fields, of which those from `at` on stand behind an ellipsis
unfoldable pub in_a_row : {A : Type 0} → Option ℕ → ℕ → List A → List (Argument A)
in_a_row none fields xs = zip (fields_up_to fields) xs
in_a_row (some at) fields xs = zip (fields_up_to fields) (take at xs) ++ zip (reverse (fields_up_to fields)) (reverse (drop at xs))

-- arguments by the numbers of their fields, those of them that there are
unfoldable pub by_fields : {A : Type 0} → List (Option ℕ) → List A → List (Argument A)
by_fields [] xs = []
by_fields (none ∷ fields) [] = []
by_fields (none ∷ fields) (x ∷ xs) = by_fields fields xs
by_fields (some i ∷ fields) [] = []
by_fields (some i ∷ fields) (x ∷ xs) = record { elems = ProjectionElem.Field i ∷ []; what = x } ∷ by_fields fields xs

-- how many fields a tuple has
unfoldable pub field_count : Option Shape → ℕ
field_count shape = if_there shape (λ s. length (tuple_fields s)) 0

abbrev pub is_enum_kind : AdtKind → Bool
is_enum_kind kind = by_adt_kind kind false true false false

-- the type at the place is an enum
unfoldable pub is_enum : Option Shape → Bool
is_enum shape = if_there shape (λ s. if_adt s (λ kind variants. is_enum_kind kind) false) false

-- a pattern's own type is a slice
unfoldable pub is_slice_shape : Shape → Bool
is_slice_shape shape = if_slice shape (λ t. true) false

-- the fields of an enum's variant lie behind a Downcast
unfoldable pub downcast : {A : Type 0} → Bool → ℕ → List (Argument A) → List (Argument A)
downcast false v args = args
downcast true v args = map (λ arg. record { elems = ProjectionElem.Downcast v ∷ arg.elems; what = arg.what }) args

-- the arguments of a pattern that names a variant, on a place of this type
unfoldable pub of_variant : {A : Type 0} → List ℕ → PlaceTy → Option ℕ → (ℕ → List (Argument A)) → List (Argument A)
of_variant image ty none args = []
of_variant image ty (some v) args = downcast (is_enum (shape_of image ty)) v (args (length (variant_of image v).fields))

-- the items of a Slice pattern
unfoldable pub slice_arguments : {A : Type 0} → List A → List A → List (Argument A)
slice_arguments prefix suffix =
    zip (map (λ i. ProjectionElem.Index i) (up_from 0 (length prefix))) prefix
    ++ zip (suffix_items (length suffix)) suffix

-- what holds of one of the arguments, each at its type
unfoldable pub some_argument : List ℕ → PlaceTy → List (Argument (PlaceTy → Bool)) → Bool
some_argument image ty [] = false
some_argument image ty (arg ∷ args) = arg.what (multi_projection_ty image ty arg.elems) || some_argument image ty args

-- of all alternatives, which share the type of their place
unfoldable pub all_alternatives : PlaceTy → List (PlaceTy → Bool) → Bool
all_alternatives ty [] = true
all_alternatives ty (alt ∷ alts) = alt ty && all_alternatives ty alts

-- how many of the ends of a range there are
abbrev pub end_count : Option Operand → ℕ
end_count none = 0
end_count (some operand) = 1

-- "Tests: Lit, constant Path, Slice on a slice, enum variant, each end of a Range." Those of a Path:
unfoldable pub path_tests : List ℕ → PlaceTy → Target → ℕ
path_tests image ty unresolved = 0
path_tests image ty (variant v) = cond (is_enum (shape_of image ty)) 1 0
path_tests image ty (local b) = 0
path_tests image ty (constant operand) = 1
path_tests image ty other = 0

abbrev pub positive : ℕ → Bool
positive zero = false
positive (suc n) = true

-- "An Or can fail if all alternatives can, others if they have a test or, directly below, a reached pattern that can."
module _ (image : List ℕ) where
  unfoldable mutual
    pub can_fail : Pat → PlaceTy → Bool
    can_fail (Pat.Missing h) ty = false
    can_fail (Pat.Rest h) ty = false
    can_fail (Pat.NotNull h) ty = false
    can_fail (Pat.Wild h) ty = false
    can_fail (Pat.Tuple h args ellipsis) ty =
        let here = behind_derefs image ty h.derefs in
        some_argument image here (in_a_row ellipsis (field_count (shape_of image here)) (failing args))
    can_fail (Pat.Or h alts) ty = all_alternatives (behind_derefs image ty h.derefs) (failing alts)
    can_fail (Pat.Record h fields args v) ty =
        let here = behind_derefs image ty h.derefs in
        is_enum (shape_of image here) || some_argument image here (of_variant image here v (λ n. by_fields fields (failing args)))
    can_fail (Pat.Range h start end halfOpen) ty = positive (end_count start + end_count end)
    can_fail (Pat.Slice h prefix rest suffix) ty =
        is_slice_shape (ty_of image h.ty).shape || some_argument image (behind_derefs image ty h.derefs) (slice_arguments (failing prefix) (failing suffix))
    can_fail (Pat.Path h target) ty = positive (path_tests image (behind_derefs image ty h.derefs) target)
    can_fail (Pat.Lit h operand) ty = true
    can_fail (Pat.Bind h b s how annotation) ty = can_fail? s (behind_derefs image ty h.derefs)
    can_fail (Pat.TupleStruct h args ellipsis v) ty =
        let here = behind_derefs image ty h.derefs in
        is_enum (shape_of image here) || some_argument image here (of_variant image here v (λ n. in_a_row ellipsis n (failing args)))
    can_fail (Pat.Ref h s) ty = can_fail s (projection_ty (behind_derefs image ty h.derefs) image ProjectionElem.Deref)
    can_fail (Pat.Expr h) ty = false
    can_fail (Pat.Box h) ty = false
    can_fail (Pat.Deref h) ty = false

    pub failing : Pats → List (PlaceTy → Bool)
    failing nil = []
    failing (cons q qs) = (λ ty. can_fail q ty) ∷ failing qs

    pub can_fail? : PatOpt → PlaceTy → Bool
    can_fail? no ty = false
    can_fail? (sub s) ty = can_fail s ty

-- What is counted of a reached pattern: its number, how many Or patterns are above it, its tests and the statements that they make in a Check visit, whether
-- it is an alternative that can fail, whether it is an Or, and which binding a Bind visit makes live and sets
pub record Reached : Type 0 where
  pub number : ℕ
  pub ors : ℕ
  pub tests : ℕ
  pub test_statements : ℕ
  pub failing_alternative : Bool
  pub is_or : Bool
  pub bound : Option ℕ

-- a pattern with so many tests, which make so many statements; k Ors are above it, and f says whether it is an alternative that can fail
abbrev pub testing : Head → ℕ → Bool → ℕ → ℕ → Reached
testing h k f tests statements =
    record { number = h.number; ors = k; tests = tests; test_statements = statements; failing_alternative = f; is_or = false; bound = none }

-- one that names a variant: on an enum it has a test, which makes two statements
abbrev pub naming : Head → ℕ → Bool → Bool → Reached
naming h k f enum = testing h k f (cond enum 1 0) (cond enum 2 0)

-- one that may bind
abbrev pub binding : Head → ℕ → Bool → ℕ → ℕ → Option ℕ → Reached
binding h k f tests statements bound =
    record { number = h.number; ors = k; tests = tests; test_statements = statements; failing_alternative = f; is_or = false; bound = bound }

abbrev pub an_or : Head → ℕ → Bool → Reached
an_or h k f = record { number = h.number; ors = k; tests = 0; test_statements = 0; failing_alternative = f; is_or = true; bound = none }

-- "a test makes 2, but .. of a Slice with a rest 4"
unfoldable pub length_statements : PatOpt → ℕ
length_statements no = 2
length_statements (sub rest) = 4

-- the binding of a Slice's rest that is one
unfoldable pub rest_binding : PatOpt → Option ℕ
rest_binding no = none
rest_binding (sub rest) = if_bind rest (λ h b s how. some b) none

unfoldable pub path_reached : List ℕ → PlaceTy → Target → Head → ℕ → Bool → Reached
path_reached image ty unresolved h k f = testing h k f 0 0
path_reached image ty (variant v) h k f = naming h k f (is_enum (shape_of image ty))
path_reached image ty (local b) h k f = testing h k f 0 0
path_reached image ty (constant operand) h k f = testing h k f 1 4
path_reached image ty other h k f = testing h k f 0 0

-- the patterns reached from one: by the type of its place, how many Ors are above it, and whether it is an alternative that can fail
abbrev pub Reaching : Type 0
Reaching = PlaceTy → ℕ → Bool → List Reached

-- those of its arguments
unfoldable pub through_arguments : List ℕ → PlaceTy → ℕ → List (Argument Reaching) → List Reached
through_arguments image ty k [] = []
through_arguments image ty k (arg ∷ args) = arg.what (multi_projection_ty image ty arg.elems) k false ++ through_arguments image ty k args

-- those of the alternatives of an Or, up to the first that cannot fail
unfoldable pub through_alternatives : PlaceTy → ℕ → List (PlaceTy → Bool) → List Reaching → List Reached
through_alternatives ty k [] alts = []
through_alternatives ty k (fails ∷ fs) [] = []
through_alternatives ty k (fails ∷ fs) (alt ∷ alts) = alt ty (k + 1) (fails ty) ++ cond (fails ty) (through_alternatives ty k fs alts) []

-- "Reached: the root, and directly below a reached pattern all but rests, arguments `zip` drops, and alternatives behind one that cannot fail."
module _ (image : List ℕ) where
  unfoldable mutual
    pub reached : Pat → Reaching
    reached (Pat.Missing h) ty k f = testing h k f 0 0 ∷ []
    reached (Pat.Rest h) ty k f = testing h k f 0 0 ∷ []
    reached (Pat.NotNull h) ty k f = testing h k f 0 0 ∷ []
    reached (Pat.Wild h) ty k f = testing h k f 0 0 ∷ []
    reached (Pat.Tuple h args ellipsis) ty k f =
        let here = behind_derefs image ty h.derefs in
        testing h k f 0 0 ∷ through_arguments image here k (in_a_row ellipsis (field_count (shape_of image here)) (reachings args))
    reached (Pat.Or h alts) ty k f =
        an_or h k f ∷ through_alternatives (behind_derefs image ty h.derefs) k (failing image alts) (reachings alts)
    reached (Pat.Record h fields args v) ty k f =
        let here = behind_derefs image ty h.derefs in
        naming h k f (is_enum (shape_of image here)) ∷ through_arguments image here k (of_variant image here v (λ n. by_fields fields (reachings args)))
    reached (Pat.Range h start end halfOpen) ty k f =
        let ends = end_count start + end_count end in
        testing h k f ends (ends + ends) ∷ []
    reached (Pat.Slice h prefix rest suffix) ty k f =
        let tested = is_slice_shape (ty_of image h.ty).shape in
        binding h k f (cond tested 1 0) (cond tested (length_statements rest) 0) (rest_binding rest)
        ∷ through_arguments image (behind_derefs image ty h.derefs) k (slice_arguments (reachings prefix) (reachings suffix))
    reached (Pat.Path h target) ty k f = path_reached image (behind_derefs image ty h.derefs) target h k f ∷ []
    reached (Pat.Lit h operand) ty k f = testing h k f 1 2 ∷ []
    reached (Pat.Bind h b s how annotation) ty k f = binding h k f 0 0 (some b) ∷ reaching? s (behind_derefs image ty h.derefs) k false
    reached (Pat.TupleStruct h args ellipsis v) ty k f =
        let here = behind_derefs image ty h.derefs in
        naming h k f (is_enum (shape_of image here)) ∷ through_arguments image here k (of_variant image here v (λ n. in_a_row ellipsis n (reachings args)))
    reached (Pat.Ref h s) ty k f =
        testing h k f 0 0 ∷ reached s (projection_ty (behind_derefs image ty h.derefs) image ProjectionElem.Deref) k false
    reached (Pat.Expr h) ty k f = testing h k f 0 0 ∷ []
    reached (Pat.Box h) ty k f = testing h k f 0 0 ∷ []
    reached (Pat.Deref h) ty k f = testing h k f 0 0 ∷ []

    pub reachings : Pats → List Reaching
    reachings nil = []
    reachings (cons q qs) = (λ ty k f. reached q ty k f) ∷ reachings qs

    pub reaching? : PatOpt → Reaching
    reaching? no ty k f = []
    reaching? (sub s) ty k f = reached s ty k f
