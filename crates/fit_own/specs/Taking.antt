-- Nothing refused is reached, where alternatives that can fail are told by their own types. Assumes nothing: these are definitions.
use Rattle.std.specs.Prelude.{ℕ, ◌<◌, ◌≡◌, Bool, true, false, ◌&&◌, ◌||◌, not, List, [], ◌∷◌, eqb, leb, length}
use Rattle.std.proofs.Math.Option.{Option, some}
use Rattle.image.specs.Tables.{type_count}
use Rattle.image.specs.Types.{ty_of}
use Rattle.image.specs.Tree.{Pat, Pats, nil, cons, PatOpt, no, sub, tree}
use Rattle.cases_spec.specs.Cases.{kind_number}
use Rattle.meaning.specs.Values.{has_variant}
use Rattle.meaning.specs.Typing.{variant_fields}
use Rattle.meaning.specs.Fit.{types_fit, pat_count, fields_there, ellipsis_within, has_local, path_taken, rest_taken?, nothing_refused}
use Rattle.fit_own.specs.Failing.{fails_by}

module _ (image bindings : List ℕ) where
  unfoldable mutual
    -- a pattern, and those below it that are reached
    pub taken_by : Pat → Bool
    taken_by (Pat.Missing h) = false
    taken_by (Pat.Rest h) = false
    taken_by (Pat.NotNull h) = false
    taken_by (Pat.Wild h) = true
    taken_by (Pat.Tuple h args ellipsis) =
        eqb (kind_number (ty_of image h.ty).shape) 5 && ellipsis_within ellipsis (pat_count args) && all_taken args
    taken_by (Pat.Or h alts) = reached_taken alts
    taken_by (Pat.Record h fields args v) =
        has_variant (ty_of image h.ty).shape v && fields_there fields (length (variant_fields image (ty_of image h.ty).shape v)) && fields_taken args fields
    taken_by (Pat.Range h start end halfOpen) = true
    taken_by (Pat.Slice h prefix rest suffix) =
        leb 8 (kind_number (ty_of image h.ty).shape) && rest_taken? bindings rest && all_taken prefix && all_taken suffix
    taken_by (Pat.Path h target) = path_taken (ty_of image h.ty).shape target
    taken_by (Pat.Lit h operand) = true
    taken_by (Pat.Bind h b s how annotation) = has_local bindings b && taken_by? s
    taken_by (Pat.TupleStruct h args ellipsis v) =
        has_variant (ty_of image h.ty).shape v && ellipsis_within ellipsis (pat_count args) && all_taken args
    taken_by (Pat.Ref h s) = eqb (kind_number (ty_of image h.ty).shape) 7 && taken_by s
    taken_by (Pat.Expr h) = false
    taken_by (Pat.Box h) = false
    taken_by (Pat.Deref h) = false

    pub all_taken : Pats → Bool
    all_taken nil = true
    all_taken (cons q qs) = taken_by q && all_taken qs

    -- those that have a field; surplus ones are left to the definition
    pub fields_taken : Pats → List (Option ℕ) → Bool
    fields_taken nil fields = true
    fields_taken (cons q qs) [] = nothing_refused image bindings q && fields_taken qs []
    fields_taken (cons q qs) (f ∷ fields) = taken_by q && fields_taken qs fields

    -- alternatives up to the first that cannot fail
    pub reached_taken : Pats → Bool
    reached_taken nil = true
    reached_taken (cons q qs) = taken_by q && (not (fails_by image q) || reached_taken qs)

    pub taken_by? : PatOpt → Bool
    taken_by? no = true
    taken_by? (sub s) = taken_by s

-- the pattern p fits a place of some type of the table
pub record FitsSomewhere (image : List ℕ) (p : ℕ) : Type 0 where
  pub place : ℕ
  pub named : place < type_count image
  pub fits : types_fit image (tree image p) (some place) ≡ true
