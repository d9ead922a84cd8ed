-- How many elements a walk appends to the place of its root: down the patterns that are reached, as `reached` goes. Assumes nothing: these are definitions.
use Rattle.std.specs.Prelude.{ℕ, ◌+◌, max, Bool, cond, List, [], ◌∷◌, length}
use Rattle.image.specs.Tree.{Target, unresolved, variant, local, constant, other, Pat, Pats, nil, cons, PatOpt, no, sub}
use Rattle.place.specs.declared.elems.ProjectionElem.{ProjectionElem}
use Rattle.place.specs.declared.place_ty.PlaceTy.{PlaceTy}
use Rattle.place.specs.PlaceTypes.{projection_ty, multi_projection_ty}
use Rattle.pattern_matching.specs.Variants.{shape_of}
use Rattle.cases_spec.specs.Cases.{if_there}
use Rattle.counting.specs.Reaching.{Argument, behind_derefs, in_a_row, by_fields, field_count, is_enum, of_variant, slice_arguments, failing, rest_binding}
use Rattle.counting.specs.Counting.{one}

-- the most that leads to one of the arguments and goes on from there, each at its type
unfoldable pub most_of_arguments : List ℕ → PlaceTy → List (Argument (PlaceTy → ℕ)) → ℕ
most_of_arguments image ty [] = 0
most_of_arguments image ty (arg ∷ args) = max (length arg.elems + arg.what (multi_projection_ty image ty arg.elems)) (most_of_arguments image ty args)

-- the most of the alternatives up to the first that cannot fail
unfoldable pub most_of_alternatives : PlaceTy → List (PlaceTy → Bool) → List (PlaceTy → ℕ) → ℕ
most_of_alternatives ty [] alts = 0
most_of_alternatives ty (fails ∷ fs) [] = 0
most_of_alternatives ty (fails ∷ fs) (alt ∷ alts) = max (alt ty) (cond (fails ty) (most_of_alternatives ty fs alts) 0)

-- a rest that is bound lies behind a Subslice
unfoldable pub rest_elements : PatOpt → ℕ
rest_elements rest = if_there (rest_binding rest) (λ b. 1) 0

-- a variant of an enum lies behind a Downcast, one without fields too
unfoldable pub path_elements : List ℕ → PlaceTy → Target → ℕ
path_elements image ty unresolved = 0
path_elements image ty (variant v) = one (is_enum (shape_of image ty))
path_elements image ty (local b) = 0
path_elements image ty (constant operand) = 0
path_elements image ty other = 0

-- the most that the walk over a pattern appends to the pattern's place
module _ (image : List ℕ) where
  unfoldable mutual
    pub elements : Pat → PlaceTy → ℕ
    elements (Pat.Missing h) ty = h.derefs
    elements (Pat.Rest h) ty = h.derefs
    elements (Pat.NotNull h) ty = h.derefs
    elements (Pat.Wild h) ty = h.derefs
    elements (Pat.Tuple h args ellipsis) ty =
        let here = behind_derefs image ty h.derefs in
        h.derefs + most_of_arguments image here (in_a_row ellipsis (field_count (shape_of image here)) (elements_of args))
    elements (Pat.Or h alts) ty = h.derefs + most_of_alternatives (behind_derefs image ty h.derefs) (failing image alts) (elements_of alts)
    elements (Pat.Record h fields args v) ty =
        let here = behind_derefs image ty h.derefs in
        h.derefs + max (one (is_enum (shape_of image here))) (most_of_arguments image here (of_variant image here v (λ n. by_fields fields (elements_of args))))
    elements (Pat.Range h start end halfOpen) ty = h.derefs
    elements (Pat.Slice h prefix rest suffix) ty =
        h.derefs + max (rest_elements rest) (most_of_arguments image (behind_derefs image ty h.derefs) (slice_arguments (elements_of prefix) (elements_of suffix)))
    elements (Pat.Path h target) ty = h.derefs + path_elements image (behind_derefs image ty h.derefs) target
    elements (Pat.Lit h operand) ty = h.derefs
    elements (Pat.Bind h b s how annotation) ty = h.derefs + elements? s (behind_derefs image ty h.derefs)
    elements (Pat.TupleStruct h args ellipsis v) ty =
        let here = behind_derefs image ty h.derefs in
        h.derefs + max (one (is_enum (shape_of image here))) (most_of_arguments image here (of_variant image here v (λ n. in_a_row ellipsis n (elements_of args))))
    elements (Pat.Ref h s) ty = h.derefs + (1 + elements s (projection_ty (behind_derefs image ty h.derefs) image ProjectionElem.Deref))
    elements (Pat.Expr h) ty = h.derefs
    elements (Pat.Box h) ty = h.derefs
    elements (Pat.Deref h) ty = h.derefs

    pub elements_of : Pats → List (PlaceTy → ℕ)
    elements_of nil = []
    elements_of (cons q qs) = (λ ty. elements q ty) ∷ elements_of qs

    pub elements? : PatOpt → PlaceTy → ℕ
    elements? no ty = 0
    elements? (sub s) ty = elements s ty
