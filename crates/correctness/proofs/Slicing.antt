-- A Slice leads on where the value is long enough and its items match. Assumes nothing.
use Prim.Native.Nat.{ℕ, ◌+◌, ◌-◌, ◌≤◌, ◌<◌}
use native.Mathlib.Omega.{arith}
use mathlib.Core.Path.{◌≡◌, refl, sym, ap, ap₂, subst, ◌∙◌}
use mathlib.Core.Bool.{Bool, true, false, ◌&&◌}
use mathlib.Core.Option.{none, some}
use mathlib.Core.List.{List, [], map}
use borrow.Author.Tests.{eqb-true, eqb-false, eq-eqb, ne_eqb, leb-true}
use lib.Dec.{eqb, leb}
use lib.ListN.{length, get_or, drop}
use Rattle.image.specs.Valid.{valid}
use Rattle.image.specs.Lists.{up_from}
use Rattle.image.specs.Types.{Shape, integer, bool, char, str, tuple, adt, reference, array, slice, unknown, ty_of}
use Rattle.image.specs.Tree.{Pat, PatOpt, no, sub}
use Rattle.place.specs.declared.Place.{Place}
use Rattle.place.specs.declared.elems.ProjectionElem.{ProjectionElem}
use Rattle.place.specs.declared.place_ty.PlaceTy.{PlaceTy}
use Rattle.mir.specs.declared.BasicBlockId.{BasicBlockId}
use Rattle.lower_spec.specs.Results.{OptBlock}
use Rattle.views.specs.Views.{Mir, mir_of}
use Rattle.views.specs.Growing.{GoesOn}
use Rattle.pattern_matching.specs.declared.MatchingMode.{MatchingMode}
use Rattle.pattern_matching.specs.Walking.{Ctx, Out, Walk, ok, Lowering, next, out}
use Rattle.pattern_matching.specs.Variants.{pattern_match_adt}
use Rattle.pattern_matching.specs.Slices.{RestOf, length_test, rest_bound, slice_items, slice_on, suffix_items}
use Rattle.pattern_matching.specs.Patterns.{rest_by, rest_of}
use Rattle.growth.specs.Opened.{Ready, Leaves}
use Rattle.growth.proofs.Walks.{not_ok, walked}
use Rattle.growth.proofs.Testing.{good_length}
use Rattle.growth.proofs.Fields.{grows_adt, grows_items}
use Rattle.meaning.specs.Values.{Value, Values, Array, Slice, items, unit_value, parts_of, part_at, value_fits}
use Rattle.meaning.specs.Running.{Env, Scene}
use Rattle.meaning.specs.Matching.{match_all, long_enough}
use Rattle.meaning.specs.Typing.{TypeNumber, element_type}
use Rattle.meaning.specs.Fit.{items_fit, items_all_fit}
use Rattle.meaning.proofs.Parts.{fits_array}
use Rattle.meaning.proofs.Children.{items_placed, index_valued, end_valued}
use Rattle.correctness.proofs.Walking.{Lands}
use Rattle.correctness.proofs.Landing.{lands_both}
use Rattle.correctness.proofs.Standing.{Rooted, Stands}
use Rattle.correctness.proofs.Lengths.{long_tested, lands_length}
use Rattle.correctness.proofs.Rows.{zip_match, zip_numbered, zip_end, and_assoc}
use Rattle.correctness.proofs.Arguments.{AllMeant, meant_grow, meant_count, Reached, lands_adt, before, rooted_after}

-- in Check a rest is not looked at
rest_check : (rest : RestOf) (bindings : List ℕ) (p front end : ℕ) (ctx : Ctx) (c : BasicBlockId) (els : OptBlock) (place : Place) →
    rest_bound rest bindings p front end MatchingMode.Check ctx c els place ≡ out ctx c els
unfolding rest_bound
rest_check RestOf.none bindings p front end ctx c els place = refl
rest_check RestOf.ignores bindings p front end ctx c els place = refl
rest_check (RestOf.binds q b how) bindings p front end ctx c els place = refl

-- an element is a part by its number
pub index_is : (w : Value) (i : ℕ) → part_at (ProjectionElem.Index i) w ≡ get_or (parts_of w) i unit_value
unfolding part_at
index_is w i = refl

-- equal is equal both ways
eqb_flip : (a b : ℕ) → eqb a b ≡ eqb b a
eqb_flip a b = by (eqb b a) refl
  where
    by : (x : Bool) → eqb b a ≡ x → eqb a b ≡ x
    by true q = eq-eqb a b (sym (eqb-true b a q))
    by false q = ne_eqb a b (λ e. eqb-false b a q (sym e))

-- the length's test is the Reference's
long_by : (rest : Pat) (n len : ℕ) → long_tested (rest_by rest) n len ≡ leb n len
unfolding long_tested rest_by
long_by (Pat.Missing h) n len = refl
long_by (Pat.Rest h) n len = refl
long_by (Pat.NotNull h) n len = refl
long_by (Pat.Wild h) n len = refl
long_by (Pat.Tuple h args ellipsis) n len = refl
long_by (Pat.Or h alts) n len = refl
long_by (Pat.Record h fields args v) n len = refl
long_by (Pat.Range h start end halfOpen) n len = refl
long_by (Pat.Slice h prefix rest suffix) n len = refl
long_by (Pat.Path h target) n len = refl
long_by (Pat.Lit h operand) n len = refl
long_by (Pat.Bind h b s how annotation) n len = refl
long_by (Pat.TupleStruct h args ellipsis v) n len = refl
long_by (Pat.Ref h s) n len = refl
long_by (Pat.Expr h) n len = refl
long_by (Pat.Box h) n len = refl
long_by (Pat.Deref h) n len = refl

-- with a rest that may be absent
pub long_tested_lem : (rest : PatOpt) (n len : ℕ) → long_tested (rest_of rest) n len ≡ long_enough rest n len
unfolding rest_of long_tested
long_tested_lem no n len = eqb_flip len n
long_tested_lem (sub rest) n len = long_by rest n len

-- what is long enough has as many elements as there are items
pub long_there : (rest : PatOpt) (n len : ℕ) → long_enough rest n len ≡ true → n ≤ len
long_there no n len e = omega (arith, eqb-true n len e)
long_there (sub rest) n len e = leb-true n len e

-- an array is long enough if its items fit
array_long : (rest : PatOpt) (u n count : ℕ) → items_fit (array u n) rest count ≡ true → long_enough rest count n ≡ true
unfolding items_fit
array_long no u n count e = e
array_long (sub rest) u n count e = e

-- the parts of an array
array_parts : (vs : Values) (w : Value) → w ≡ Array vs → parts_of w ≡ items vs
unfolding parts_of
array_parts vs w q = rw q

module _ {scene : Scene} {bindings : List ℕ} {M : Mir} {word : ℕ} {ls ks : List Lowering} {ms ns : List (Value → Bool)} {fs gs : List (TypeNumber → Bool)} (p t u : ℕ)
    (holds : valid scene.image ≡ true) (a : AllMeant scene bindings M word ls ms fs) (z : AllMeant scene bindings M word ks ns gs) (w : Value) (rest : PatOpt)
    (element : element_type (ty_of scene.image t).shape ≡ some u) (front : items_all_fit fs (some u) ≡ true) (back : items_all_fit gs (some u) ≡ true)
    (fits : value_fits scene.image w t ≡ true) where
  -- the items in front, and those at the end
  lands_items : (ctx : Ctx) (c : BasicBlockId) (els : OptBlock) (place : Place) → length ls + length ks ≤ length (parts_of w) → Rooted scene word ctx.state →
      Stands scene word place (PlaceTy.Ty t) w → Ready ctx.state c els → (r : Out) → slice_items bindings p ls (rest_of rest) ks MatchingMode.Check ctx c els place ≡ ok r →
      GoesOn (mir_of r.ctx.state) M → (env : Env) →
      Lands scene bindings M ctx c.0 env [] r (match_all ms (parts_of w) && match_all ns (drop (length (parts_of w) - length ns) (parts_of w)))
  unfolding slice_items
  lands_items ctx c els place long root s h r is x env =
      let (ls-ms, ls-fs) = meant_count a in
      let (ks-ns, ks-gs) = meant_count z in
      let P = Reached scene.image (PlaceTy.Ty t) w in
      let fronts = map (λ i. ProjectionElem.Index i) (up_from 0 (length ls)) in
      let backs = suffix_items (length ks) in
      walked (pattern_match_adt p fronts ls MatchingMode.Check ctx c els place) _ is (λ r₁ e₁ is₁.
      let is₂ : pattern_match_adt p backs ks MatchingMode.Check r₁.ctx r₁.then r₁.else place ≡ ok r =
      ap (λ (y : Walk Out). next y (λ s. pattern_match_adt p backs ks MatchingMode.Check s.ctx s.then s.else place))
      (sym (rest_check (rest_of rest) bindings p (length ls) (length ks) r₁.ctx r₁.then r₁.else place)) ∙ is₁ in
      let q : Leaves ctx.state c els r₁ = (grows_adt p fronts ls (meant_grow a) MatchingMode.Check ctx c els place).leaves h r₁ e₁ in
      let q' : Leaves r₁.ctx.state r₁.then r₁.else r = (grows_adt p backs ks (meant_grow z) MatchingMode.Check r₁.ctx r₁.then r₁.else place).leaves q.ready r is₂ in
      let first : zip_match fronts ms w ≡ match_all ms (parts_of w) = zip_numbered (λ i. ProjectionElem.Index i) 0 (length ls) ms w (index_is w) (omega arith) (omega arith) in
      let second : zip_match backs ns w ≡ match_all ns (drop (length (parts_of w) - length ns) (parts_of w)) =
      ap (λ (k : ℕ). zip_match (suffix_items k) ns w) ks-ns ∙ zip_end ns w (omega arith) in
      subst (λ (b : Bool). Lands scene bindings M ctx c.0 env [] r b) (ap₂ (λ (y k : Bool). y && k) first second)
      (lands_both r₁ r h q q'
      (lands_adt p fronts holds a ctx c els place (PlaceTy.Ty t) w
      (items_placed P (λ i. ProjectionElem.Index i) 0 (length ls) fs u (λ i k. (index_valued scene.image t w element fits (0 + i) (omega arith), tt)) front) root s h r₁ e₁ (before r₁ r q q' x) env)
      (λ env _. lands_adt p backs holds z r₁.ctx r₁.then r₁.else place (PlaceTy.Ty t) w
      (items_placed P (λ i. ProjectionElem.IndexFromEnd (length ks - 1 - i)) 0 (length ks) gs u (λ i k. (end_valued scene.image t w element fits (length ks - 1 - (0 + i)) (omega arith), tt)) back)
      (rooted_after r₁ q root) s q.ready r is₂ x env)))

  module _ (ctx : Ctx) (c : BasicBlockId) (els : OptBlock) (place : Place) (root : Rooted scene word ctx.state) (s : Stands scene word place (PlaceTy.Ty t) w) (h : Ready ctx.state c els)
      (r : Out) (small : length ls + length ks < 18446744073709551616) where
    -- a Slice by its own type
    slice_by : (shape : Shape) → (ty_of scene.image t).shape ≡ shape → items_fit shape rest (length fs + length gs) ≡ true →
        slice_on shape scene.image bindings p ls (rest_of rest) ks MatchingMode.Check ctx c els place ≡ ok r → GoesOn (mir_of r.ctx.state) M → (env : Env) →
        Lands scene bindings M ctx c.0 env [] r
        (long_enough rest (length ms + length ns) (length (parts_of w)) && match_all ms (parts_of w) && match_all ns (drop (length (parts_of w) - length ns) (parts_of w)))
    unfolding slice_on
    slice_by (integer size signed) e i is x env = absurd (not_ok is)
    slice_by bool e i is x env = absurd (not_ok is)
    slice_by char e i is x env = absurd (not_ok is)
    slice_by str e i is x env = absurd (not_ok is)
    slice_by (tuple ts) e i is x env = absurd (not_ok is)
    slice_by (adt kind variants) e i is x env = absurd (not_ok is)
    slice_by (reference y) e i is x env = absurd (not_ok is)
    slice_by (array y n) e i is x env =
        let (vs, q, len, each) = fits_array scene.image w t y n e fits in
        let (ls-ms, ls-fs) = meant_count a in
        let (ks-ns, ks-gs) = meant_count z in
        let size : length (parts_of w) ≡ n = ap length (array_parts vs w q) ∙ len in
        let count : length fs + length gs ≡ length ms + length ns = omega arith in
        let long : long_enough rest (length ms + length ns) (length (parts_of w)) ≡ true =
        ap₂ (long_enough rest) (sym count) size ∙ array_long rest y n (length fs + length gs) i in
        subst (λ (b : Bool). Lands scene bindings M ctx c.0 env [] r (b && match_all ms (parts_of w) && match_all ns (drop (length (parts_of w) - length ns) (parts_of w)))) (sym long)
        (lands_items ctx c els place (omega (arith, long_there rest (length ms + length ns) (length (parts_of w)) long)) root s h r is x env)
    slice_by (slice y) e i is x env =
        let (ls-ms, ls-fs) = meant_count a in
        let (ks-ns, ks-gs) = meant_count z in
        let count : length ls + length ks ≡ length ms + length ns = omega arith in
        let told : long_tested (rest_of rest) (length ls + length ks) (length (parts_of w)) ≡ long_enough rest (length ms + length ns) (length (parts_of w)) =
        ap (λ (k : ℕ). long_tested (rest_of rest) k (length (parts_of w))) count ∙ long_tested_lem rest (length ms + length ns) (length (parts_of w)) in
        walked (length_test (rest_of rest) scene.image p (length ls + length ks) ctx c els place) _ is (λ r₁ e₁ is₁.
        let q : Leaves ctx.state c els r₁ = (good_length (rest_of rest) scene.image p (length ls + length ks) ctx c els place).leaves h r₁ e₁ in
        let q' : Leaves r₁.ctx.state r₁.then r₁.else r =
        (grows_items bindings p ls (rest_of rest) ks (meant_grow a) (meant_grow z) MatchingMode.Check r₁.ctx r₁.then r₁.else place).leaves q.ready r is₁ in
        subst (λ (b : Bool). Lands scene bindings M ctx c.0 env [] r b)
        (and_assoc (long_enough rest (length ms + length ns) (length (parts_of w))) (match_all ms (parts_of w)) (match_all ns (drop (length (parts_of w) - length ns) (parts_of w))))
        (lands_both r₁ r h q q'
        (subst (λ (b : Bool). Lands scene bindings M ctx c.0 env [] r₁ b) told
        (lands_length p ctx c els (rest_of rest) (length ls + length ks) r₁ h root s small e₁ (before r₁ r q q' x) env))
        (λ env b. lands_items r₁.ctx r₁.then r₁.else place (omega (arith, long_there rest (length ms + length ns) (length (parts_of w)) b)) (rooted_after r₁ q root) s q.ready r is₁ x env)))
    slice_by unknown e i is x env = absurd (not_ok is)

    -- a Slice
    pub lands_slice : items_fit (ty_of scene.image t).shape rest (length fs + length gs) ≡ true →
        slice_on (ty_of scene.image t).shape scene.image bindings p ls (rest_of rest) ks MatchingMode.Check ctx c els place ≡ ok r → GoesOn (mir_of r.ctx.state) M → (env : Env) →
        Lands scene bindings M ctx c.0 env [] r
        (long_enough rest (length ms + length ns) (length (parts_of w)) && match_all ms (parts_of w) && match_all ns (drop (length (parts_of w) - length ns) (parts_of w)))
    lands_slice i is x env = slice_by (ty_of scene.image t).shape refl i is x env
