-- Walks in Bind by kinds of patterns: slices. Assumes nothing.
use Prim.Native.Nat.{ℕ, ◌+◌, ◌-◌, ◌≤◌, ◌<◌}
use native.Mathlib.Omega.{arith}
use mathlib.Core.Path.{◌≡◌, refl, sym, ap, ◌∙◌, subst}
use mathlib.Core.Bool.{Bool, true}
use mathlib.Core.Option.{some}
use mathlib.Core.List.{List, [], ◌∷◌, ◌++◌, map}
use lib.ListN.{length, drop, length-drop}
use Rattle.image.specs.Valid.{valid}
use Rattle.image.specs.Lists.{up_from}
use Rattle.image.specs.Types.{Shape, integer, bool, char, str, tuple, adt, reference, array, slice, unknown, ty_of}
use Rattle.image.specs.Tree.{Pat, PatOpt, no, sub}
use Rattle.place.specs.declared.Place.{Place}
use Rattle.place.specs.declared.elems.ProjectionElem.{ProjectionElem}
use Rattle.place.specs.declared.place_ty.PlaceTy.{PlaceTy}
use Rattle.mir.specs.declared.BasicBlockId.{BasicBlockId}
use Rattle.lower_spec.specs.Results.{OptBlock}
use Rattle.views.specs.Views.{Path, Mir}
use Rattle.pattern_matching.specs.declared.MatchingMode.{MatchingMode}
use Rattle.pattern_matching.specs.Walking.{Ctx, Out, ok, Lowering, project}
use Rattle.pattern_matching.specs.Variants.{pattern_match_adt}
use Rattle.pattern_matching.specs.Slices.{RestOf, rest_bound, suffix_items, slice_items, slice_on}
use Rattle.pattern_matching.specs.Patterns.{rest_by, rest_of}
use Rattle.growth.proofs.Walks.{not_ok, ok_is, walked}
use Rattle.meaning.specs.Values.{Value, parts_of, part_at, value_fits}
use Rattle.meaning.specs.Running.{Scene}
use Rattle.meaning.specs.Matching.{bind_all, match_all, last_items, bound_as}
use Rattle.meaning.specs.Binding.{rest_binds?}
use Rattle.meaning.specs.Typing.{TypeNumber, element_type}
use Rattle.meaning.specs.Fit.{items_all_fit}
use Rattle.meaning.proofs.Children.{index_valued, end_valued}
use Rattle.correctness.proofs.Standing.{rooted_more, stands_onward, stepped}
use Rattle.correctness.proofs.Rows.{zip_match, zip_numbered, last_items_lem, zip_end}
use Rattle.correctness.proofs.Slicing.{index_is}
use Rattle.correctness.proofs.Permuting.{Binder}
use Rattle.correctness.proofs.BindSteps.{Fills, fills_seq, fills_binding}
use Rattle.correctness.proofs.BindingFields.{path_onward, FillsOn, AllCan, SameLength, can_length, fills_adt, Suited, suited_fill}
use Rattle.correctness.proofs.BindingRows.{match_length, suited_items}
use Rattle.correctness.proofs.BindingKinds.{fills_nothing}

-- a Slice that is not refused stands on an array or a slice
slice_taken_lem : (shape : Shape) (image bindings : List ℕ) (p : ℕ) (prefix : List Lowering) (rest : RestOf) (suffix : List Lowering) (ctx : Ctx) (c : BasicBlockId) (els : OptBlock) (place : Place)
    (r : Out) → slice_on shape image bindings p prefix rest suffix MatchingMode.Bind ctx c els place ≡ ok r →
    (u : ℕ) × (element_type shape ≡ some u) × (slice_items bindings p prefix rest suffix MatchingMode.Bind ctx c els place ≡ ok r)
unfolding slice_on element_type
slice_taken_lem (integer size signed) image bindings p prefix rest suffix ctx c els place r e = absurd (not_ok e)
slice_taken_lem bool image bindings p prefix rest suffix ctx c els place r e = absurd (not_ok e)
slice_taken_lem char image bindings p prefix rest suffix ctx c els place r e = absurd (not_ok e)
slice_taken_lem str image bindings p prefix rest suffix ctx c els place r e = absurd (not_ok e)
slice_taken_lem (tuple ts) image bindings p prefix rest suffix ctx c els place r e = absurd (not_ok e)
slice_taken_lem (adt kind variants) image bindings p prefix rest suffix ctx c els place r e = absurd (not_ok e)
slice_taken_lem (reference u) image bindings p prefix rest suffix ctx c els place r e = absurd (not_ok e)
slice_taken_lem (array u n) image bindings p prefix rest suffix ctx c els place r e = (u, refl, e)
slice_taken_lem (slice u) image bindings p prefix rest suffix ctx c els place r e = (u, refl, e)
slice_taken_lem unknown image bindings p prefix rest suffix ctx c els place r e = absurd (not_ok e)

-- if the last k of some elements are k at least, there are k
last_there : (n k m : ℕ) → m ≡ n - (n - k) → k ≤ m → k ≤ n
last_there n k m q h = omega arith

module _ (scene : Scene) (word : ℕ) (bindings : List ℕ) (M : Mir) (holds : valid scene.image ≡ true) where
  -- a rest binds the part between the items
  fills_rest_by : (rest : Pat) (p front end : ℕ) (ty : PlaceTy) (w : Value) → end < 8192 →
      FillsOn scene word bindings M (rest_bound (rest_by rest) bindings p front end) ty w (λ path v. rest_binds? (sub rest) front end path v)
  unfolding rest_by rest_binds? rest_bound
  fills_rest_by (Pat.Missing h) p front end ty w few = fills_nothing scene word bindings M (rest_bound RestOf.ignores bindings p front end) ty w (λ ctx c els place r e. ok_is e)
  fills_rest_by (Pat.Rest h) p front end ty w few = fills_nothing scene word bindings M (rest_bound RestOf.ignores bindings p front end) ty w (λ ctx c els place r e. ok_is e)
  fills_rest_by (Pat.NotNull h) p front end ty w few = fills_nothing scene word bindings M (rest_bound RestOf.ignores bindings p front end) ty w (λ ctx c els place r e. ok_is e)
  fills_rest_by (Pat.Wild h) p front end ty w few = fills_nothing scene word bindings M (rest_bound RestOf.ignores bindings p front end) ty w (λ ctx c els place r e. ok_is e)
  fills_rest_by (Pat.Tuple h args ellipsis) p front end ty w few = fills_nothing scene word bindings M (rest_bound RestOf.ignores bindings p front end) ty w (λ ctx c els place r e. ok_is e)
  fills_rest_by (Pat.Or h alts) p front end ty w few = fills_nothing scene word bindings M (rest_bound RestOf.ignores bindings p front end) ty w (λ ctx c els place r e. ok_is e)
  fills_rest_by (Pat.Record h fields args v) p front end ty w few = fills_nothing scene word bindings M (rest_bound RestOf.ignores bindings p front end) ty w (λ ctx c els place r e. ok_is e)
  fills_rest_by (Pat.Range h start e halfOpen) p front end ty w few = fills_nothing scene word bindings M (rest_bound RestOf.ignores bindings p front end) ty w (λ ctx c els place r e. ok_is e)
  fills_rest_by (Pat.Slice h prefix rest suffix) p front end ty w few = fills_nothing scene word bindings M (rest_bound RestOf.ignores bindings p front end) ty w (λ ctx c els place r e. ok_is e)
  fills_rest_by (Pat.Path h target) p front end ty w few = fills_nothing scene word bindings M (rest_bound RestOf.ignores bindings p front end) ty w (λ ctx c els place r e. ok_is e)
  fills_rest_by (Pat.Lit h operand) p front end ty w few = fills_nothing scene word bindings M (rest_bound RestOf.ignores bindings p front end) ty w (λ ctx c els place r e. ok_is e)
  fills_rest_by (Pat.Bind h b s how annotation) p front end ty w few =
      let elem = ProjectionElem.Subslice front end in
      record {
        fill = λ ctx c els place r root ready s e.
            stepped p (project place elem) _ e (λ place' e₁ e₂.
            subst (λ (path : Path). Fills scene bindings M ctx c els (record { binding = b; what = bound_as how path (part_at elem w) } ∷ []) r)
            (path_onward place elem place' few s.elements e₁)
            (fills_binding bindings M p h.number b how ctx c els r ready (stands_onward elem place' holds few s e₁) e₂));
      }
  fills_rest_by (Pat.TupleStruct h args ellipsis v) p front end ty w few = fills_nothing scene word bindings M (rest_bound RestOf.ignores bindings p front end) ty w (λ ctx c els place r e. ok_is e)
  fills_rest_by (Pat.Ref h s) p front end ty w few = fills_nothing scene word bindings M (rest_bound RestOf.ignores bindings p front end) ty w (λ ctx c els place r e. ok_is e)
  fills_rest_by (Pat.Expr h) p front end ty w few = fills_nothing scene word bindings M (rest_bound RestOf.ignores bindings p front end) ty w (λ ctx c els place r e. ok_is e)
  fills_rest_by (Pat.Box h) p front end ty w few = fills_nothing scene word bindings M (rest_bound RestOf.ignores bindings p front end) ty w (λ ctx c els place r e. ok_is e)
  fills_rest_by (Pat.Deref h) p front end ty w few = fills_nothing scene word bindings M (rest_bound RestOf.ignores bindings p front end) ty w (λ ctx c els place r e. ok_is e)

  -- a rest that may be absent
  fills_rest : (rest : PatOpt) (p front end : ℕ) (ty : PlaceTy) (w : Value) → end < 8192 →
      FillsOn scene word bindings M (rest_bound (rest_of rest) bindings p front end) ty w (λ path v. rest_binds? rest front end path v)
  unfolding rest_of rest_binds? rest_bound
  fills_rest no p front end ty w few = fills_nothing scene word bindings M (rest_bound RestOf.none bindings p front end) ty w (λ ctx c els place r e. ok_is e)
  fills_rest (sub rest) p front end ty w few = fills_rest_by rest p front end ty w few

  -- a Slice: the items in front, the rest, and the items at the end
  pub fills_slice : (p : ℕ) {ls ls' : List Lowering} {fs fs' : List (TypeNumber → Bool)} {ms ms' : List (Value → Bool)} {bs bs' : List Binder} →
      AllCan scene word bindings M ls fs ms bs → AllCan scene word bindings M ls' fs' ms' bs' → length ls' < 8192 →
      (rest : PatOpt) (t : ℕ) (w : Value) → value_fits scene.image w t ≡ true →
      items_all_fit fs (element_type (ty_of scene.image t).shape) ≡ true → items_all_fit fs' (element_type (ty_of scene.image t).shape) ≡ true →
      match_all ms (parts_of w) ≡ true → match_all ms' (drop (length (parts_of w) - length ms') (parts_of w)) ≡ true →
      FillsOn scene word bindings M (slice_on (ty_of scene.image t).shape scene.image bindings p ls (rest_of rest) ls') (PlaceTy.Ty t) w
      (λ path v. bind_all bs (map (λ i. ProjectionElem.Index i) (up_from 0 (length bs))) path v
      ++ (rest_binds? rest (length bs) (length bs') path v ++ bind_all bs' (last_items (length bs')) path v))
  unfolding slice_items
  fills_slice p {ls} {ls'} {fs} {fs'} {ms} {ms'} {bs} {bs'} cs cs' few rest t w value fits fits' match match' =
      record {
        fill = λ ctx c els place r root ready s e.
            let shape = (ty_of scene.image t).shape in
            let (u, is, e₁) = slice_taken_lem shape scene.image bindings p ls (rest_of rest) ls' ctx c els place r e in
            let front = map (λ i. ProjectionElem.Index i) (up_from 0 (length ls)) in
            let back = suffix_items (length ls') in
            walked (pattern_match_adt p front ls MatchingMode.Bind ctx c els place) _ e₁ (λ r₁ e₂ e₃.
            walked (rest_bound (rest_of rest) bindings p (length ls) (length ls') MatchingMode.Bind r₁.ctx r₁.then r₁.else place) _ e₃ (λ r₂ e₄ e₅.
            let f₁ = fills_adt scene word bindings M (PlaceTy.Ty t) w holds p front ls bs (suited_fill scene word bindings M (PlaceTy.Ty t) w front cs (first u is)) ctx c els place r₁ root ready s e₂ in
            let root₁ = rooted_more scene word ctx.state r₁.ctx.state f₁.leaves.worked.more_locals f₁.leaves.worked.locals root in
            let f₂ = (fills_rest rest p (length ls) (length ls') (PlaceTy.Ty t) w few).fill r₁.ctx r₁.then r₁.else place r₂ root₁ f₁.leaves.ready s e₄ in
            let root₂ = rooted_more scene word r₁.ctx.state r₂.ctx.state f₂.leaves.worked.more_locals f₂.leaves.worked.locals root₁ in
            let f₃ = fills_adt scene word bindings M (PlaceTy.Ty t) w holds p back ls' bs' (suited_fill scene word bindings M (PlaceTy.Ty t) w back cs' (last u is)) r₂.ctx r₂.then r₂.else place r root₂
            f₂.leaves.ready s e₅ in
            let whole = fills_seq r₁ r ready f₁ (fills_seq r₂ r f₁.leaves.ready f₂ f₃) in
            rw (← last_items_lem (length bs'), n.binders, n'.binders) whole));
      }
    where
      n : SameLength scene word bindings M ls fs ms bs
      n = can_length scene word bindings M cs

      n' : SameLength scene word bindings M ls' fs' ms' bs'
      n' = can_length scene word bindings M cs'

      many : length ms ≤ length (parts_of w)
      many = match_length ms (parts_of w) match

      many' : length ms' ≤ length (parts_of w)
      many' =
          let all = length (parts_of w) in
          let k = length ms' in
          last_there all k (length (drop (all - k) (parts_of w))) (length-drop (all - k) (parts_of w)) (match_length ms' (drop (all - k) (parts_of w)) match')

      first : (u : ℕ) → element_type (ty_of scene.image t).shape ≡ some u → Suited scene word bindings M (PlaceTy.Ty t) w (map (λ i. ProjectionElem.Index i) (up_from 0 (length ls))) fs ms
      first u is =
          suited_items scene word bindings M (PlaceTy.Ty t) w (λ i. ProjectionElem.Index i) (λ i. tt) 0 (length ls) fs ms u (n.fits ∙ sym n.matches)
          (λ i j. index_valued scene.image t w is value (0 + i) (omega (arith, many))) (ap (items_all_fit fs) (sym is) ∙ fits)
          (zip_numbered (λ i. ProjectionElem.Index i) 0 (length ls) ms w (index_is w) (omega (arith, n.matches)) (omega (arith, many)) ∙ match)

      last : (u : ℕ) → element_type (ty_of scene.image t).shape ≡ some u →
          Suited scene word bindings M (PlaceTy.Ty t) w (suffix_items (length ls')) fs' ms'
      last u is =
          suited_items scene word bindings M (PlaceTy.Ty t) w (λ i. ProjectionElem.IndexFromEnd (length ls' - 1 - i)) (λ i. tt) 0 (length ls') fs' ms' u (n'.fits ∙ sym n'.matches)
          (λ i j. end_valued scene.image t w is value (length ls' - 1 - (0 + i)) (omega (arith, many', n'.matches))) (ap (items_all_fit fs') (sym is) ∙ fits')
          (ap (λ (k : ℕ). zip_match (suffix_items k) ms' w) (sym n'.matches) ∙ zip_end ms' w many' ∙ match')
