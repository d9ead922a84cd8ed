-- Every pattern adds what is counted of the patterns reached from it: by induction over the tree. Assumes nothing.
use mathlib.Core.Bool.{Bool, false, cond, ◌||◌}
use mathlib.Core.Option.{some}
use mathlib.Core.Path.{sym}
use mathlib.Core.List.{List, [], ◌∷◌}
use Prim.Native.Nat.{ℕ}
use Rattle.image.specs.declared.kinds.BindingMode.{BindingMode}
use Rattle.image.specs.Types.{ty_of}
use Rattle.image.specs.Tree.{Head, Pat, Pats, nil, cons, PatOpt, no, sub}
use Rattle.refusals.specs.declared.MirLowerError.{MirLowerError}
use Rattle.place.specs.declared.Place.{Place}
use Rattle.place.specs.declared.place_ty.PlaceTy.{PlaceTy}
use Rattle.mir.specs.declared.BasicBlockId.{BasicBlockId}
use Rattle.lower_spec.specs.Results.{OptBlock}
use Rattle.pattern_matching.specs.Walking.{Ctx, Lowering, visited}
use Rattle.pattern_matching.specs.Slices.{slice_on}
use Rattle.pattern_matching.specs.Patterns.{bind_pattern, or_pattern, rest_of, pattern_match_inner, lowerings, lowering?}
use Rattle.counting.specs.Reaching.{is_slice_shape, slice_arguments, some_argument, all_alternatives, can_fail, failing, can_fail?, Reaching, binding, an_or, length_statements, rest_binding, through_arguments, through_alternatives, reached, reachings, reaching?}
use Rattle.counting.proofs.Rests.{statements_of_lem, binding_of_lem}
use Rattle.counting.proofs.Holding.{Holds, holds}
use Rattle.counting.proofs.Passing.{Pass, mode_of, After, after_none}
use Rattle.counting.proofs.Typed.{On}
use Rattle.counting.proofs.Arguments.{Counts, Each, none_left, one_more_lem}
use Rattle.counting.proofs.Naming.{fielded_row, fielded_record}
use Rattle.counting.proofs.Binding.{holds_bind, holds_slice}
use Rattle.counting.proofs.Choosing.{holds_or}
use Rattle.counting.proofs.Inside.{Inside, counts_entered, inside_wild, inside_refused, inside_tuple, inside_ref}
use Rattle.counting.proofs.Leaves.{inside_range, inside_lit, inside_variant, inside_path}

-- a subpattern that may be absent
record Below (image : List ℕ) (l : Lowering) (fails : PlaceTy → Bool) (reach : Reaching) : Type 0 where
  pub goes : (pass : Pass) (c : Ctx) (current : BasicBlockId) (els : OptBlock) (place : Place) (ty : PlaceTy) (k : ℕ) → On image c place ty →
      Holds (After pass c els (fails ty) k false (reach ty k false)) (l (mode_of pass) c current els place)

-- a Bind
inside_bind : {image : List ℕ} {l : Lowering} {fails : PlaceTy → Bool} {reach : Reaching} (bindings : List ℕ) (h : Head) (b : ℕ) (how : BindingMode) → Below image l fails reach →
    Inside image h (bind_pattern bindings h.number b how l) fails (λ ty k f. binding h k f 0 0 (some b) ∷ reach ty k false)
unfolding visited
inside_bind {l = l} {fails = fails} {reach = reach} bindings h b how below =
    record {
      goes = λ pass c current els place ty k f o.
          holds_bind bindings h b how l pass c current els place (fails ty) k f (reach ty k false) (below.goes pass (visited c h.number) current els place ty k o);
    }

-- a Slice
inside_slice : {image : List ℕ} {ls ls' : List Lowering} {fs fs' : List (PlaceTy → Bool)} {rs rs' : List Reaching} (bindings : List ℕ) (h : Head) (rest : PatOpt) → Each image ls fs rs → Each image ls' fs' rs' →
    Inside image h (slice_on (ty_of image h.ty).shape image bindings h.number ls (rest_of rest) ls') (λ ty. is_slice_shape (ty_of image h.ty).shape || some_argument image ty (slice_arguments fs fs'))
    (λ ty k f. binding h k f (cond (is_slice_shape (ty_of image h.ty).shape) 1 0) (cond (is_slice_shape (ty_of image h.ty).shape) (length_statements rest) 0) (rest_binding rest) ∷ through_arguments image ty k (slice_arguments rs rs'))
inside_slice {image = image} bindings h rest front back =
    record {
      goes = λ pass c current els place ty k f o.
          rw (sym (statements_of_lem rest), sym (binding_of_lem rest)) (holds_slice front back bindings h (rest_of rest) pass c els place ty k f (ty_of image h.ty).shape current o);
    }

-- an Or
inside_or : {image : List ℕ} {ls : List Lowering} {fs : List (PlaceTy → Bool)} {rs : List Reaching} (h : Head) → Each image ls fs rs →
    Inside image h (or_pattern h.number ls) (λ ty. all_alternatives ty fs) (λ ty k f. an_or h k f ∷ through_alternatives ty k fs rs)
inside_or h each = record { goes = λ pass c current els place ty k f o. holds_or each h pass c current els place ty k f o }

module _ (image bindings : List ℕ) where
  mutual
    unfolding pattern_match_inner can_fail reached lowerings failing reachings lowering? can_fail? reaching?

    -- every pattern
    pub counts : (p : Pat) → Counts image (pattern_match_inner image bindings p) (can_fail image p) (reached image p)
    counts (Pat.Missing h) = counts_entered (inside_refused image h MirLowerError.IncompletePattern (λ ty. can_fail image (Pat.Missing h) ty) (λ ty k f. reached image (Pat.Missing h) ty k f))
    counts (Pat.Rest h) = counts_entered (inside_refused image h MirLowerError.IncompletePattern (λ ty. can_fail image (Pat.Rest h) ty) (λ ty k f. reached image (Pat.Rest h) ty k f))
    counts (Pat.NotNull h) = counts_entered (inside_refused image h MirLowerError.IncompletePattern (λ ty. can_fail image (Pat.NotNull h) ty) (λ ty k f. reached image (Pat.NotNull h) ty k f))
    counts (Pat.Wild h) = counts_entered (inside_wild image h)
    counts (Pat.Tuple h args ellipsis) = counts_entered (inside_tuple h ellipsis (each args))
    counts (Pat.Or h alts) = counts_entered (inside_or h (each alts))
    counts (Pat.Record h fields args v) = counts_entered (inside_variant h v (fielded_record fields (each args)))
    counts (Pat.Range h start end halfOpen) = counts_entered (inside_range image h start end halfOpen)
    counts (Pat.Slice h prefix rest suffix) = counts_entered (inside_slice bindings h rest (each prefix) (each suffix))
    counts (Pat.Path h target) = counts_entered (inside_path image bindings h target)
    counts (Pat.Lit h operand) = counts_entered (inside_lit image h operand)
    counts (Pat.Bind h b s how annotation) = counts_entered (inside_bind bindings h b how (below s))
    counts (Pat.TupleStruct h args ellipsis v) = counts_entered (inside_variant h v (fielded_row ellipsis (each args)))
    counts (Pat.Ref h s) = counts_entered (inside_ref h (counts s))
    counts (Pat.Expr h) = counts_entered (inside_refused image h MirLowerError.Expr (λ ty. can_fail image (Pat.Expr h) ty) (λ ty k f. reached image (Pat.Expr h) ty k f))
    counts (Pat.Box h) = counts_entered (inside_refused image h MirLowerError.NotSupported (λ ty. can_fail image (Pat.Box h) ty) (λ ty k f. reached image (Pat.Box h) ty k f))
    counts (Pat.Deref h) = counts_entered (inside_refused image h MirLowerError.NotSupported (λ ty. can_fail image (Pat.Deref h) ty) (λ ty k f. reached image (Pat.Deref h) ty k f))

    -- patterns in a row
    each : (ps : Pats) → Each image (lowerings image bindings ps) (failing image ps) (reachings image ps)
    each nil = none_left
    each (cons q qs) = one_more_lem (counts q) (each qs)

    -- a subpattern that may be absent
    below : (s : PatOpt) → Below image (lowering? image bindings s) (can_fail? image s) (reaching? image s)
    below no = record { goes = λ pass c current els place ty k o. holds (After pass c els false k false []) _ (after_none pass c current els k) }
    below (sub s) = record { goes = λ pass c current els place ty k o. (counts s).goes pass c current els place ty k false o }
