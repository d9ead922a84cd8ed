-- Arguments in a row, before an ellipsis and behind it, and fields by their numbers: what a walk in Bind binds is what the Reference says. Assumes nothing.
use Prim.Native.Nat.{ℕ, zero, suc, ◌+◌, ◌-◌, ◌≤◌, ◌<◌, min}
use native.Mathlib.Nat.{add-zero, zero-add}
use native.Mathlib.Omega.{arith}
use mathlib.Core.Path.{◌≡◌, refl, sym, ap, ap₂, ◌∙◌, subst}
use mathlib.Core.Bool.{Bool, true, false, cond, ◌&&◌, false≢true}
use mathlib.Core.Option.{Option, none, some}
use mathlib.Core.List.{List, [], ◌∷◌, ◌++◌, map, map-append, append-nil, append_assoc, reverse, reverse_aux, reverse_aux-append}
use borrow.Author.Tests.{eqb-true, leb-true, ltb-true}
use lib.Dec.{eqb, leb, ltb}
use lib.ListN.{length, get_or, take, drop, length-take, length-drop, length-map, take-append-drop}
use lib.Seq.{get_or-drop, take-length, length-take-le}
use Rattle.image.specs.Valid.{valid}
use Rattle.image.specs.Lists.{up_from}
use Rattle.image.proofs.Bools.{and_left, and_right}
use Rattle.refusals.specs.declared.MirLowerError.{MirLowerError}
use Rattle.place.specs.declared.Place.{Place}
use Rattle.place.specs.declared.elems.ProjectionElem.{ProjectionElem}
use Rattle.place.specs.declared.place_ty.PlaceTy.{PlaceTy}
use Rattle.place.specs.Elems.{Fits}
use Rattle.mir.specs.declared.BasicBlockId.{BasicBlockId}
use Rattle.lower_spec.specs.Results.{OptBlock}
use Rattle.views.specs.Views.{Path, Mir}
use Rattle.pattern_matching.specs.declared.MatchingMode.{MatchingMode}
use Rattle.pattern_matching.specs.Walking.{Ctx, Out, ok, refused, Lowering, next}
use Rattle.pattern_matching.specs.Variants.{pattern_match_adt, fields_up_to, pattern_match_tuple_like, ellipsis_at}
use Rattle.growth.specs.Opened.{Ready}
use Rattle.growth.proofs.Walks.{not_ok, walked}
use Rattle.meaning.specs.Values.{Value, unit_value, parts_of, part_at}
use Rattle.meaning.specs.Running.{Scene}
use Rattle.meaning.specs.Matching.{onto, Bound, bind_all, match_all, match_row, match_fields, row_fields, record_fields}
use Rattle.meaning.specs.Typing.{TypeNumber, field_type}
use Rattle.meaning.specs.Fit.{arguments_fit, row_fits, by_fields_fit, items_all_fit, fields_there, each_fits}
use Rattle.meaning.proofs.Children.{Valued, from_append, length_from}
use Rattle.correctness.specs.Demand2.{place_path}
use Rattle.correctness.proofs.Standing.{Rooted, rooted_more, Stands}
use Rattle.correctness.proofs.Rows.{zip_match}
use Rattle.correctness.proofs.Permuting.{LocalsApart, Binder, Same, same_trans, same_is, same_behind, turned, Separate, separate_drop, pieces_apart}
use Rattle.correctness.proofs.BindSteps.{Fills, fills_seq, fills_as}
use Rattle.correctness.proofs.BindingFields.{AllCan, can_length, can_take, can_drop, AllFill, fill_none, fill_reverse, fills_adt, Suited, suited_fill}

-- binders and elements, and then more of both
bind_append : (bs cs : List Binder) (elems more : List ProjectionElem) (path : Path) (v : Value) → length bs ≡ length elems →
    bind_all (bs ++ cs) (elems ++ more) path v ≡ bind_all bs elems path v ++ bind_all cs more path v
unfolding bind_all
bind_append [] cs [] more path v e = refl
bind_append [] cs (elem ∷ elems) more path v e = absurd (omega arith)
bind_append (b ∷ bs) cs [] more path v e = absurd (omega arith)
bind_append (b ∷ bs) cs (elem ∷ elems) more path v e =
    let first = b (onto path elem) (part_at elem v) in
    ap (λ (xs : List Bound). first ++ xs) (bind_append bs cs elems more path v (omega arith))
    ∙ sym (append_assoc first (bind_all bs elems path v) (bind_all cs more path v))

-- elements beyond the binders are left out
bind_surplus : (bs : List Binder) (elems more : List ProjectionElem) (path : Path) (v : Value) → length bs ≤ length elems → bind_all bs (elems ++ more) path v ≡ bind_all bs elems path v
unfolding bind_all
bind_surplus [] elems more path v e = refl
bind_surplus (b ∷ bs) [] more path v e = absurd (omega arith)
bind_surplus (b ∷ bs) (elem ∷ elems) more path v e = ap (λ (xs : List Bound). b (onto path elem) (part_at elem v) ++ xs) (bind_surplus bs elems more path v (omega arith))

-- the fields from a on, so many
abbrev pub fields_from : ℕ → ℕ → List ProjectionElem
fields_from a n = map (λ i. ProjectionElem.Field i) (up_from a n)

-- so many fields
fields_length : (a n : ℕ) → length (fields_from a n) ≡ n
fields_length a n = length-map (up_from a n) (λ i. ProjectionElem.Field i) ∙ length_from a n

-- the fields before a, and those from a on
fields_append : (a n : ℕ) → fields_up_to (a + n) ≡ fields_up_to a ++ fields_from a n
fields_append a n =
    ap (map (λ i. ProjectionElem.Field i)) (from_append 0 a n ∙ ap (λ (b : ℕ). up_from 0 a ++ up_from b n) (zero-add a))
    ∙ map-append (λ i. ProjectionElem.Field i) (up_from 0 a) (up_from a n)

-- from the last on
fields_reverse : (a m n : ℕ) → n ≡ a + m → reverse (fields_up_to n) ≡ reverse_aux (fields_from a m) (reverse (fields_up_to a))
fields_reverse a m n e = ap (λ (k : ℕ). reverse (fields_up_to k)) e ∙ ap reverse (fields_append a m) ∙ reverse_aux-append (fields_up_to a) (fields_from a m) []

-- the order of the lowering, the last arguments from the last on, and the order of the arguments: the same
pub row_order : (bindings : List ℕ) → LocalsApart bindings → (at n : ℕ) (bs : List Binder) (path : Path) (v : Value) → at ≤ length bs → length bs ≤ n → Separate bindings bs →
    Same bindings (bind_all (take at bs) (fields_up_to n) path v ++ bind_all (reverse (drop at bs)) (reverse (fields_up_to n)) path v) (bind_all bs (row_fields (some at) (length bs) n) path v)
unfolding bind_all row_fields
row_order bindings apart at n bs path v within few sep =
    let m = length bs - at in
    let a = n - m in
    let last = fields_from a m in
    let A = bind_all (take at bs) (fields_up_to at) path v in
    let B = bind_all (drop at bs) last path v in
    let front : bind_all (take at bs) (fields_up_to n) path v ≡ A =
    ap (λ (elems : List ProjectionElem). bind_all (take at bs) elems path v) (let e : n ≡ at + (n - at) = omega arith in ap fields_up_to e ∙ fields_append at (n - at))
    ∙ bind_surplus (take at bs) (fields_up_to at) (fields_from at (n - at)) path v (omega (arith, length-take-le at bs within, fields_length 0 at)) in
    let end : bind_all (reverse (drop at bs)) (reverse (fields_up_to n)) path v ≡ bind_all (reverse_aux (drop at bs) []) (reverse_aux last (reverse (fields_up_to a))) path v =
    ap (λ (elems : List ProjectionElem). bind_all (reverse (drop at bs)) elems path v) (fields_reverse a m n (omega arith)) in
    let whole : bind_all bs (map (λ i. ProjectionElem.Field i) (up_from 0 at ++ up_from a m)) path v ≡ A ++ B =
    ap₂ (λ (xs : List Binder) (elems : List ProjectionElem). bind_all xs elems path v) (sym (take-append-drop at bs)) (map-append (λ i. ProjectionElem.Field i) (up_from 0 at) (up_from a m))
    ∙ bind_append (take at bs) (drop at bs) (fields_up_to at) last path v (length-take-le at bs within ∙ sym (fields_length 0 at)) in
    let size : length (drop at bs) ≡ length last = length-drop at bs ∙ sym (fields_length a m) in
    same_trans bindings (same_is bindings (ap₂ (λ (xs ys : List Bound). xs ++ ys) front end))
    (same_trans bindings
    (same_behind bindings A
    (same_trans bindings (turned bindings path v (drop at bs) [] last (reverse (fields_up_to a)) size (pieces_apart bindings apart path v (drop at bs) last (separate_drop bindings at bs sep)))
    (same_is bindings (append-nil B))))
    (same_is bindings (sym whole)))

-- of n fields the last m are as many as m
last_few : (m n x y : ℕ) → m ≤ n → x ≡ m → y ≡ n - (n - m) → x ≤ y
last_few m n x y h e q = omega arith

-- less some
left_few : (l k n : ℕ) → l ≤ n → l - k ≤ n
left_few l k n h = omega arith

-- the first k
first_few : (x k l n : ℕ) → x ≡ min k l → l ≤ n → x ≤ n
first_few x k l n e h = omega arith

-- the last fields are fields
last_inside : (a n i y : ℕ) → y ≡ n - a → i < y → a + i < n
last_inside a n i y e h = omega arith

-- as many values as patterns, if these all match
pub match_length : (ms : List (Value → Bool)) (vs : List Value) → match_all ms vs ≡ true → length ms ≤ length vs
unfolding match_all
match_length [] vs e = omega arith
match_length (m ∷ ms) [] e = absurd (false≢true e)
match_length (m ∷ ms) (v ∷ vs) e = let h = match_length ms vs (and_right (m v) (match_all ms vs) e) in omega arith

module _ (scene : Scene) (word : ℕ) (bindings : List ℕ) (M : Mir) (ty : PlaceTy) (w : Value) where
  -- children in a row, on the elements from a on
  pub suited_row : (elem : ℕ → ProjectionElem) → ((i : ℕ) → Fits (elem i)) → (a n : ℕ) (fs : List (TypeNumber → Bool)) (ms : List (Value → Bool)) (ts : List ℕ) (vs : List Value) →
      length fs ≡ length ms → length fs ≤ length ts → ((i : ℕ) → i < length ts → Valued scene.image ty w (elem (a + i)) (get_or ts i 0)) →
      ((i : ℕ) → i < length fs → part_at (elem (a + i)) w ≡ get_or vs i unit_value) → each_fits fs ts ≡ true → match_all ms vs ≡ true → Suited scene word bindings M ty w (map elem (up_from a n)) fs ms
  unfolding up_from each_fits match_all
  suited_row elem fit a zero fs ms ts vs same few at part e h = tt
  suited_row elem fit a (suc n) [] [] ts vs same few at part e h = tt
  suited_row elem fit a (suc n) [] (m ∷ ms) ts vs same few at part e h = absurd (omega arith)
  suited_row elem fit a (suc n) (f ∷ fs) [] ts vs same few at part e h = absurd (omega arith)
  suited_row elem fit a (suc n) (f ∷ fs) (m ∷ ms) [] vs same few at part e h = absurd (omega arith)
  suited_row elem fit a (suc n) (f ∷ fs) (m ∷ ms) (t ∷ ts) [] same few at part e h = absurd (false≢true h)
  suited_row elem fit a (suc n) (f ∷ fs) (m ∷ ms) (t ∷ ts) (v ∷ vs) same few at part e h =
      let here : part_at (elem a) w ≡ v = ap (λ (k : ℕ). part_at (elem k) w) (sym (add-zero a)) ∙ part 0 (omega arith) in
      let next : (i : ℕ) → a + suc i ≡ a + 1 + i = λ i. omega arith in (
        record {
          fit = fit a;
          number = t;
          valued = subst (λ (k : ℕ). Valued scene.image ty w (elem k) t) (add-zero a) (at 0 (omega arith));
          fits = and_left (f (some t)) (each_fits fs ts) e;
          matches = ap m here ∙ and_left (m v) (match_all ms vs) h;
        },
        suited_row elem fit (a + 1) n fs ms ts vs (omega arith) (omega arith)
            (λ i j. subst (λ (k : ℕ). Valued scene.image ty w (elem k) (get_or ts i 0)) (next i) (at (suc i) (omega arith)))
            (λ i j. ap (λ (k : ℕ). part_at (elem k) w) (sym (next i)) ∙ part (suc i) (omega arith))
            (and_right (f (some t)) (each_fits fs ts) e) (and_right (m v) (match_all ms vs) h),
      )

  -- items of one type that match, on the elements from a on
  pub suited_items : (elem : ℕ → ProjectionElem) → ((i : ℕ) → Fits (elem i)) → (a n : ℕ) (fs : List (TypeNumber → Bool)) (ms : List (Value → Bool)) (u : ℕ) → length fs ≡ length ms →
      ((i : ℕ) → i < length ms → Valued scene.image ty w (elem (a + i)) u) → items_all_fit fs (some u) ≡ true → zip_match (map elem (up_from a n)) ms w ≡ true →
      Suited scene word bindings M ty w (map elem (up_from a n)) fs ms
  unfolding up_from items_all_fit zip_match
  suited_items elem fit a zero fs ms u same at e h = tt
  suited_items elem fit a (suc n) [] [] u same at e h = tt
  suited_items elem fit a (suc n) [] (m ∷ ms) u same at e h = absurd (omega arith)
  suited_items elem fit a (suc n) (f ∷ fs) [] u same at e h = absurd (omega arith)
  suited_items elem fit a (suc n) (f ∷ fs) (m ∷ ms) u same at e h =
      let next : (i : ℕ) → a + suc i ≡ a + 1 + i = λ i. omega arith in
      let first = m (part_at (elem a) w) in
      let others = zip_match (map elem (up_from (a + 1) n)) ms w in (
        record {
          fit = fit a;
          number = u;
          valued = subst (λ (k : ℕ). Valued scene.image ty w (elem k) u) (add-zero a) (at 0 (omega arith));
          fits = and_left (f (some u)) (items_all_fit fs (some u)) e;
          matches = and_left first others h;
        },
        suited_items elem fit (a + 1) n fs ms u (omega arith) (λ i j. subst (λ (k : ℕ). Valued scene.image ty w (elem k) u) (next i) (at (suc i) (omega arith)))
            (and_right (f (some u)) (items_all_fit fs (some u)) e) (and_right first others h),
      )

  -- fields by their numbers
  pub suited_record : (fields : List (Option ℕ)) (fs : List (TypeNumber → Bool)) (ms : List (Value → Bool)) (ts : List ℕ) → length fs ≡ length ms →
      ((i : ℕ) → i < length ts → Valued scene.image ty w (ProjectionElem.Field i) (get_or ts i 0)) → fields_there fields (length ts) ≡ true → by_fields_fit fields fs ts ≡ true →
      match_fields fields ms (parts_of w) ≡ true → Suited scene word bindings M ty w (record_fields fields) fs ms
  unfolding fields_there by_fields_fit field_type record_fields match_fields part_at
  suited_record [] fs ms ts same at there e h = tt
  suited_record (none ∷ fields) fs ms ts same at there e h = absurd (false≢true there)
  suited_record (some i ∷ fields) [] [] ts same at there e h = tt
  suited_record (some i ∷ fields) [] (m ∷ ms) ts same at there e h = absurd (omega arith)
  suited_record (some i ∷ fields) (f ∷ fs) [] ts same at there e h = absurd (omega arith)
  suited_record (some i ∷ fields) (f ∷ fs) (m ∷ ms) ts same at there e h =
      let here = and_left (ltb i (length ts)) (fields_there fields (length ts)) there in
      let kind = cond (ltb i (length ts)) (some (get_or ts i 0)) none in
      let first = and_left (f kind) (by_fields_fit fields fs ts) e in
      let value = get_or (parts_of w) i unit_value in (
        record {
          fit = tt;
          number = get_or ts i 0;
          valued = at i (ltb-true i (length ts) here);
          fits = rw here at first;
          matches = and_left (m value) (match_fields fields ms (parts_of w)) h;
        },
        suited_record fields fs ms ts (omega arith) at (and_right (ltb i (length ts)) (fields_there fields (length ts)) there)
            (and_right (f kind) (by_fields_fit fields fs ts) e) (and_right (m value) (match_fields fields ms (parts_of w)) h),
      )

  module _ (holds : valid scene.image ≡ true) (apart : LocalsApart bindings) (p : ℕ) where
    -- arguments before an ellipsis and behind it
    fills_like : (at n : ℕ) (ls : List Lowering) (bs : List Binder) → length bs ≡ length ls → length ls ≤ n → Separate bindings bs →
        AllFill scene word bindings M ty w (fields_up_to n) (take at ls) (take at bs) →
        AllFill scene word bindings M ty w (fields_from (n - (length ls - at)) (length ls - at)) (drop at ls) (drop at bs) →
        (ctx : Ctx) (c : BasicBlockId) (els : OptBlock) (place : Place) (r : Out) → Rooted scene word ctx.state → Ready ctx.state c els → Stands scene word place ty w →
        pattern_match_tuple_like p ls at n MatchingMode.Bind ctx c els place ≡ ok r →
        Fills scene bindings M ctx c els (bind_all bs (row_fields (some at) (length bs) n) (place_path place) w) r
    unfolding pattern_match_tuple_like
    fills_like at n ls bs same few sep front end ctx c els place r root ready s e = by (leb at (length ls)) refl e
      where
        m : ℕ
        m = length ls - at

        a : ℕ
        a = n - m

        rear : AllFill scene word bindings M ty w (reverse (fields_up_to n)) (reverse (drop at ls)) (reverse (drop at bs))
        rear =
            subst (λ (elems : List ProjectionElem). AllFill scene word bindings M ty w elems (reverse (drop at ls)) (reverse (drop at bs))) (sym (fields_reverse a m n (omega arith)))
            (fill_reverse scene word bindings M ty w (fields_from a m) (reverse (fields_up_to a)) (drop at ls) [] (drop at bs) [] (length-drop at ls ∙ sym (fields_length a m))
            (length-drop at bs ∙ ap (λ (k : ℕ). k - at) same ∙ sym (fields_length a m)) end (fill_none scene word bindings M ty w (reverse (fields_up_to a))))

        by : (b : Bool) → leb at (length ls) ≡ b →
            cond b
            (next (pattern_match_adt p (fields_up_to n) (take at ls) MatchingMode.Bind ctx c els place) (λ r.
            pattern_match_adt p (reverse (fields_up_to n)) (reverse (drop at ls)) MatchingMode.Bind r.ctx r.then r.else place))
            (refused MirLowerError.Ellipsis p) ≡ ok r →
            Fills scene bindings M ctx c els (bind_all bs (row_fields (some at) (length bs) n) (place_path place) w) r
        by false q e = absurd (not_ok e)
        by true q e =
            walked (pattern_match_adt p (fields_up_to n) (take at ls) MatchingMode.Bind ctx c els place) _ e (λ r₁ e₁ e₂.
            let f₁ = fills_adt scene word bindings M ty w holds p (fields_up_to n) (take at ls) (take at bs) front ctx c els place r₁ root ready s e₁ in
            let root₁ = rooted_more scene word ctx.state r₁.ctx.state f₁.leaves.worked.more_locals f₁.leaves.worked.locals root in
            let f₂ = fills_adt scene word bindings M ty w holds p (reverse (fields_up_to n)) (reverse (drop at ls)) (reverse (drop at bs)) rear r₁.ctx r₁.then r₁.else place r root₁
            f₁.leaves.ready s e₂ in
            let f = fills_seq r₁ r ready f₁ f₂ in
            let inside : at ≤ length bs = omega (arith, leb-true at (length ls) q) in
            fills_as r (row_order bindings apart at n bs (place_path place) w inside (omega arith) sep) f)

    -- the arguments of a row
    pub fills_row : {ls : List Lowering} {fs : List (TypeNumber → Bool)} {ms : List (Value → Bool)} {bs : List Binder} (ellipsis : Option ℕ) (ts : List ℕ) → AllCan scene word bindings M ls fs ms bs →
        Separate bindings bs → length (parts_of w) ≡ length ts → ((i : ℕ) → i < length ts → Valued scene.image ty w (ProjectionElem.Field i) (get_or ts i 0)) →
        row_fits ellipsis fs ts ≡ true → match_row ellipsis ms (parts_of w) ≡ true →
        (ctx : Ctx) (c : BasicBlockId) (els : OptBlock) (place : Place) (r : Out) → Rooted scene word ctx.state → Ready ctx.state c els → Stands scene word place ty w →
        pattern_match_tuple_like p ls (ellipsis_at ellipsis ls) (length ts) MatchingMode.Bind ctx c els place ≡ ok r →
        Fills scene bindings M ctx c els (bind_all bs (row_fields ellipsis (length bs) (length (parts_of w))) (place_path place) w) r
    unfolding row_fits match_row arguments_fit ellipsis_at row_fields part_at up_from
    fills_row {ls} {fs} {ms} {bs} none ts cs sep parts at e h ctx c els place r root ready s q =
        let same = can_length scene word bindings M cs in
        let long = eqb-true (length fs) (length ts) (and_left (eqb (length fs) (length ts)) (each_fits fs ts) e) in
        let front = suited_row (λ i. ProjectionElem.Field i) (λ i. tt) 0 (length ts) fs ms ts (parts_of w) (same.fits ∙ sym same.matches) (omega arith)
        (λ i j. subst (λ (k : ℕ). Valued scene.image ty w (ProjectionElem.Field k) (get_or ts i 0)) (sym (zero-add i)) (at i j))
        (λ i j. ap (λ (k : ℕ). get_or (parts_of w) k unit_value) (zero-add i)) (and_right (eqb (length fs) (length ts)) (each_fits fs ts) e)
        (and_right (eqb (length ms) (length (parts_of w))) (match_all ms (parts_of w)) h) in
        let n = length ls in
        let filled = suited_fill scene word bindings M ty w (fields_up_to (length ts)) cs front in
        let first : AllFill scene word bindings M ty w (fields_up_to (length ts)) (take n ls) (take n bs) =
        rw (take-length ls, ← same.binders, take-length bs) filled in
        let last : AllFill scene word bindings M ty w (fields_from (length ts - (n - n)) (n - n)) (drop n ls) (drop n bs) =
        let z : n - n ≡ 0 = omega arith in rw z tt in
        let f = fills_like n (length ts) ls bs same.binders (omega (arith, same.fits)) sep first last ctx c els place r root ready s q in
        let z : length bs - n ≡ 0 = omega (arith, same.binders) in
        let is : row_fields (some n) (length bs) (length ts) ≡ map (λ i. ProjectionElem.Field i) (up_from 0 (length bs)) =
        ap (λ (k : ℕ). map (λ i. ProjectionElem.Field i) (up_from 0 n ++ up_from (length ts - k) k)) z
        ∙ ap (map (λ i. ProjectionElem.Field i)) (append-nil (up_from 0 n)) ∙ ap (λ (k : ℕ). map (λ i. ProjectionElem.Field i) (up_from 0 k)) (sym same.binders) in
        subst (λ (elems : List ProjectionElem). Fills scene bindings M ctx c els (bind_all bs elems (place_path place) w) r) is f
    fills_row {ls} {fs} {ms} {bs} (some k) ts cs sep parts at e h ctx c els place r root ready s q =
        let same = can_length scene word bindings M cs in
        let vs = parts_of w in
        let few = leb (length fs) (length ts) in
        let fits₁ = each_fits (take k fs) ts in
        let fits₂ = each_fits (drop k fs) (drop (length ts - (length fs - k)) ts) in
        let enough = leb (length ms) (length vs) in
        let match₁ = match_all (take k ms) vs in
        let match₂ = match_all (drop k ms) (drop (length vs - (length ms - k)) vs) in
        let le = leb-true (length fs) (length ts) (and_left few fits₁ (and_left (few && fits₁) fits₂ e)) in
        let le' : length ls ≤ length ts = subst (λ (n : ℕ). n ≤ length ts) same.fits le in
        let m = length ls - k in
        let a = length ts - m in
        let start : length ts - (length fs - k) ≡ a = ap (λ (n : ℕ). length ts - (n - k)) same.fits in
        let start' : length vs - (length ms - k) ≡ a = ap₂ (λ (n l : ℕ). n - (l - k)) parts same.matches in
        let e₂ : each_fits (drop k fs) (drop a ts) ≡ true = subst (λ (n : ℕ). each_fits (drop k fs) (drop n ts) ≡ true) start (and_right (few && fits₁) fits₂ e) in
        let h₂ : match_all (drop k ms) (drop a vs) ≡ true = subst (λ (n : ℕ). match_all (drop k ms) (drop n vs) ≡ true) start' (and_right (enough && match₁) match₂ h) in
        let front = suited_row (λ i. ProjectionElem.Field i) (λ i. tt) 0 (length ts) (take k fs) (take k ms) ts vs
        (length-take k fs ∙ ap (λ (n : ℕ). min k n) (same.fits ∙ sym same.matches) ∙ sym (length-take k ms)) (first_few (length (take k fs)) k (length fs) (length ts) (length-take k fs) le)
        (λ i j. subst (λ (x : ℕ). Valued scene.image ty w (ProjectionElem.Field x) (get_or ts i 0)) (sym (zero-add i)) (at i j))
        (λ i j. ap (λ (x : ℕ). get_or vs x unit_value) (zero-add i)) (and_right few fits₁ (and_left (few && fits₁) fits₂ e)) (and_right enough match₁ (and_left (enough && match₁) match₂ h)) in
        let end = suited_row (λ i. ProjectionElem.Field i) (λ i. tt) a m (drop k fs) (drop k ms) (drop a ts) (drop a vs)
        (length-drop k fs ∙ ap (λ (n : ℕ). n - k) (same.fits ∙ sym same.matches) ∙ sym (length-drop k ms))
        (last_few m (length ts) (length (drop k fs)) (length (drop a ts)) (left_few (length ls) k (length ts) le') (length-drop k fs ∙ ap (λ (n : ℕ). n - k) same.fits) (length-drop a ts))
        (λ i j. subst (Valued scene.image ty w (ProjectionElem.Field (a + i))) (sym (get_or-drop a ts i 0)) (at (a + i) (last_inside a (length ts) i (length (drop a ts)) (length-drop a ts) j)))
        (λ i j. sym (get_or-drop a vs i unit_value)) e₂ h₂ in
        let f = fills_like k (length ts) ls bs same.binders le' sep
        (suited_fill scene word bindings M ty w (fields_up_to (length ts)) (can_take scene word bindings M k cs) front)
        (suited_fill scene word bindings M ty w (fields_from a m) (can_drop scene word bindings M k cs) end) ctx c els place r root ready s q in
        subst (λ (n : ℕ). Fills scene bindings M ctx c els (bind_all bs (row_fields (some k) (length bs) n) (place_path place) w) r) (sym parts) f
