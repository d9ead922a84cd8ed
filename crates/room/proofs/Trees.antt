-- Every pattern takes what is counted of the patterns that are reached from it: by induction over the tree. Assumes nothing.
use Rattle.std.specs.Prelude.{Some, None}
use mathlib.Core.Path.{refl, ap}
use mathlib.Core.Bool.{Bool, true, false, cond, true≢false}
use mathlib.Core.Option.{some}
use mathlib.Core.List.{List, [], ◌∷◌}
use Prim.Native.Nat.{ℕ, ◌+◌}
use native.Mathlib.Nat.{le_refl}
use native.Mathlib.Omega.{arith}
use lib.ListN.{length}
use Rattle.image.specs.Types.{ty_of}
use Rattle.image.specs.Tree.{Head, unresolved, variant, local, constant, other, Pat, Pats, nil, cons, PatOpt, no, sub}
use Rattle.refusals.specs.declared.MirLowerError.{MirLowerError}
use Rattle.place.specs.declared.Place.{Place}
use Rattle.place.specs.declared.place_ty.PlaceTy.{PlaceTy}
use Rattle.mir.specs.declared.BasicBlockId.{BasicBlockId}
use Rattle.lower_spec.specs.Results.{OptBlock}
use Rattle.pattern_matching.specs.declared.MatchingMode.{MatchingMode}
use Rattle.pattern_matching.specs.Walking.{Ctx, Out, Lowering, entered}
use Rattle.pattern_matching.specs.Variants.{shape_of}
use Rattle.pattern_matching.specs.Patterns.{refusing, passing, rest_of, pattern_match_inner, lowerings, lowering?}
use Rattle.counting.specs.Reaching.{behind_derefs, can_fail, failing, can_fail?, end_count, is_enum, is_slice_shape, length_statements, rest_binding, Reached, testing, naming, binding, an_or, path_reached, reached, reachings, reaching?}
use Rattle.counting.specs.Counting.{else_made}
use Rattle.counting.specs.Demand3.{ElseIs}
use Rattle.counting.proofs.Rests.{statements_of_lem, binding_of_lem}
use Rattle.counting.proofs.Holding.{Holds, holds_as}
use Rattle.counting.proofs.Passing.{checks}
use Rattle.counting.proofs.Typed.{On}
use Rattle.counting.proofs.Trees.{counts}
use Rattle.room.specs.Elements.{elements, elements_of, elements?, rest_elements}
use Rattle.room.proofs.Telling.{Origin, Tells, sound_refused}
use Rattle.room.proofs.Spending.{free_testing, Spends, spends_none, spends_as, spends_under, spends_entered}
use Rattle.room.proofs.Rows.{Settled, Headed, Pays, Each, none_left, one_more_lem}
use Rattle.room.proofs.Shaping.{spends_tuple, spends_ref, fielded_row, fielded_record}
use Rattle.room.proofs.Leafing.{spends_lit, spends_range, spends_path, spends_variant}
use Rattle.room.proofs.Filling.{spends_bind, spends_slice_as}
use Rattle.room.proofs.Choosing.{spends_or}

-- a pattern is the first that is reached from itself
headed : (image : List ℕ) (pat : Pat) (ty : PlaceTy) (k : ℕ) → Headed k (λ f. reached image pat ty k f)
unfolding reached path_reached
headed image (Pat.Missing h) ty k = record { head = testing h k false 0 0; others = _; ors = refl; is = λ f. refl }
headed image (Pat.Rest h) ty k = record { head = testing h k false 0 0; others = _; ors = refl; is = λ f. refl }
headed image (Pat.NotNull h) ty k = record { head = testing h k false 0 0; others = _; ors = refl; is = λ f. refl }
headed image (Pat.Wild h) ty k = record { head = testing h k false 0 0; others = _; ors = refl; is = λ f. refl }
headed image (Pat.Tuple h args ellipsis) ty k = record { head = testing h k false 0 0; others = _; ors = refl; is = λ f. refl }
headed image (Pat.Or h alts) ty k = record { head = an_or h k false; others = _; ors = refl; is = λ f. refl }
headed image (Pat.Record h fields args v) ty k = record { head = naming h k false (is_enum (shape_of image (behind_derefs image ty h.derefs))); others = _; ors = refl; is = λ f. refl }
headed image (Pat.Range h start end halfOpen) ty k = record { head = testing h k false (end_count start + end_count end) (end_count start + end_count end + (end_count start + end_count end)); others = _; ors = refl; is = λ f. refl }
headed image (Pat.Slice h prefix rest suffix) ty k = record { head = binding h k false (cond (is_slice_shape (ty_of image h.ty).shape) 1 0) (cond (is_slice_shape (ty_of image h.ty).shape) (length_statements rest) 0) (rest_binding rest); others = _; ors = refl; is = λ f. refl }
headed image (Pat.Path h unresolved) ty k = record { head = testing h k false 0 0; others = _; ors = refl; is = λ f. refl }
headed image (Pat.Path h (variant v)) ty k = record { head = naming h k false (is_enum (shape_of image (behind_derefs image ty h.derefs))); others = _; ors = refl; is = λ f. refl }
headed image (Pat.Path h (local b)) ty k = record { head = testing h k false 0 0; others = _; ors = refl; is = λ f. refl }
headed image (Pat.Path h (constant operand)) ty k = record { head = testing h k false 1 4; others = _; ors = refl; is = λ f. refl }
headed image (Pat.Path h other) ty k = record { head = testing h k false 0 0; others = _; ors = refl; is = λ f. refl }
headed image (Pat.Lit h operand) ty k = record { head = testing h k false 1 2; others = _; ors = refl; is = λ f. refl }
headed image (Pat.Bind h b s how annotation) ty k = record { head = binding h k false 0 0 (some b); others = _; ors = refl; is = λ f. refl }
headed image (Pat.TupleStruct h args ellipsis v) ty k = record { head = naming h k false (is_enum (shape_of image (behind_derefs image ty h.derefs))); others = _; ors = refl; is = λ f. refl }
headed image (Pat.Ref h s) ty k = record { head = testing h k false 0 0; others = _; ors = refl; is = λ f. refl }
headed image (Pat.Expr h) ty k = record { head = testing h k false 0 0; others = _; ors = refl; is = λ f. refl }
headed image (Pat.Box h) ty k = record { head = testing h k false 0 0; others = _; ors = refl; is = λ f. refl }
headed image (Pat.Deref h) ty k = record { head = testing h k false 0 0; others = _; ors = refl; is = λ f. refl }

-- the else that is there behind a walk with none
settled : (fails : Bool) (els : OptBlock) (from to : ℕ) → ElseIs fails None els from to → Settled fails els
settled true None from to h = absurd h
settled true (Some b) from to h = (λ e. absurd (true≢false e), refl)
settled false els from to h = (λ e. h, ap (else_made false) h)

-- it is one if the pattern can fail
settles : (image bindings : List ℕ) (pat : Pat) (ty : PlaceTy) (c : Ctx) (current : BasicBlockId) (place : Place) → On image c place ty →
    Holds (λ (r : Out). Settled (can_fail image pat ty) r.else) (pattern_match_inner image bindings pat MatchingMode.Check c current None place)
settles image bindings pat ty c current place on =
    holds_as (λ r a. settled (can_fail image pat ty) r.else (length c.state.blocks) (length r.ctx.state.blocks) a.steps.else)
    ((counts image bindings pat).goes checks c current None place ty 0 false on)

-- a pattern that appends no more than its derefs
spends_leaf : {A : Type 0} {base : Origin} {image : List ℕ} {ty : PlaceTy} {l : Lowering} {fails : Bool} {rs : ℕ → List Reached} (p derefs : ℕ) →
    Spends A base image (behind_derefs image ty derefs) l fails 0 rs → Spends A base image ty (entered p derefs l) fails derefs rs
spends_leaf p derefs g = spends_as refl (omega arith) (λ k. refl) (spends_entered p derefs g)

-- one that is refused whenever it is reached
spends_refusing : {A : Type 0} {base : Origin} (image : List ℕ) (ty : PlaceTy) (h : Head) (e : MirLowerError) → Tells A base e →
    Spends A base image ty (refusing e h.number) false 0 (λ k. testing h k false 0 0 ∷ [])
spends_refusing {A = A} {base = base} image ty h e t =
    record { above = λ k. (le_refl _, tt); goes = λ pass k T F m c current els place at len f room. sound_refused _ e h.number t }

-- one that has nothing to test and nothing to bind
spends_passing : {A : Type 0} {base : Origin} (image : List ℕ) (ty : PlaceTy) (h : Head) → Spends A base image ty passing false 0 (λ k. testing h k false 0 0 ∷ [])
spends_passing image ty h = spends_under (λ k. testing h k false 0 0) (free_testing h) (spends_none image ty)

module _ (A : Type 0) (base : Origin) (image : List ℕ) where
  -- by the type of its place
  abbrev Spending : Pat → Type 0
  Spending pat = (ty : PlaceTy) → Spends A base image ty (pattern_match_inner image base.bindings pat) (can_fail image pat ty) (elements image pat ty) (λ k. reached image pat ty k false)

  -- with what holds of every pattern
  pays_by : (pat : Pat) → Spending pat → Pays A base image (pattern_match_inner image base.bindings pat) (can_fail image pat) (reached image pat) (elements image pat)
  pays_by pat g = record { spends = g; headed = headed image pat; settles = settles image base.bindings pat }

  mutual
    unfolding pattern_match_inner lowerings lowering? can_fail failing can_fail? reached reachings reaching? elements elements_of elements? rest_elements

    -- every pattern
    pub spends_pattern : (pat : Pat) → Spending pat
    spends_pattern (Pat.Missing h) ty = spends_leaf h.number h.derefs (spends_refusing image _ h MirLowerError.IncompletePattern tt)
    spends_pattern (Pat.Rest h) ty = spends_leaf h.number h.derefs (spends_refusing image _ h MirLowerError.IncompletePattern tt)
    spends_pattern (Pat.NotNull h) ty = spends_leaf h.number h.derefs (spends_refusing image _ h MirLowerError.IncompletePattern tt)
    spends_pattern (Pat.Wild h) ty = spends_leaf h.number h.derefs (spends_passing image _ h)
    spends_pattern (Pat.Tuple h args ellipsis) ty = spends_entered h.number h.derefs (spends_tuple _ h ellipsis (each args))
    spends_pattern (Pat.Or h alts) ty = spends_entered h.number h.derefs (spends_or _ h (each alts))
    spends_pattern (Pat.Record h fields args v) ty = spends_entered h.number h.derefs (spends_variant _ h v (fielded_record fields (each args)))
    spends_pattern (Pat.Range h start end halfOpen) ty = spends_leaf h.number h.derefs (spends_range _ h start end halfOpen)
    spends_pattern (Pat.Slice h prefix rest suffix) ty =
        spends_entered h.number h.derefs
        (spends_slice_as (each prefix) (each suffix) _ h (rest_of rest) (ty_of image h.ty).shape (length_statements rest) (rest_binding rest) (statements_of_lem rest) (binding_of_lem rest))
    spends_pattern (Pat.Path h target) ty = spends_entered h.number h.derefs (spends_path _ h base.bindings target)
    spends_pattern (Pat.Lit h operand) ty = spends_leaf h.number h.derefs (spends_lit _ h operand.kind operand)
    spends_pattern (Pat.Bind h b s how annotation) ty = spends_entered h.number h.derefs (spends_bind _ h b how (spends_pattern? s (behind_derefs image ty h.derefs)))
    spends_pattern (Pat.TupleStruct h args ellipsis v) ty = spends_entered h.number h.derefs (spends_variant _ h v (fielded_row ellipsis (each args)))
    spends_pattern (Pat.Ref h s) ty = spends_entered h.number h.derefs (spends_ref _ h (pays_by s (λ ty. spends_pattern s ty)))
    spends_pattern (Pat.Expr h) ty = spends_leaf h.number h.derefs (spends_refusing image _ h MirLowerError.Expr tt)
    spends_pattern (Pat.Box h) ty = spends_leaf h.number h.derefs (spends_refusing image _ h MirLowerError.NotSupported tt)
    spends_pattern (Pat.Deref h) ty = spends_leaf h.number h.derefs (spends_refusing image _ h MirLowerError.NotSupported tt)

    -- patterns in a row
    each : (args : Pats) → Each A base image (lowerings image base.bindings args) (failing image args) (reachings image args) (elements_of image args)
    each nil = none_left
    each (cons q qs) = one_more_lem (pays_by q (λ ty. spends_pattern q ty)) (each qs)

    -- a subpattern that may be absent
    spends_pattern? : (s : PatOpt) (ty : PlaceTy) → Spends A base image ty (lowering? image base.bindings s) (can_fail? image s ty) (elements? image s ty) (λ k. reaching? image s ty k false)
    spends_pattern? no ty = spends_none image ty
    spends_pattern? (sub s) ty = spends_pattern s ty
