-- A fitting pattern is refused with a limit only: by induction over the tree. Assumes nothing.
use Rattle.std.specs.Prelude.{None}
use mathlib.Core.Path.{◌≡◌, refl, sym, ap, subst, ◌∙◌}
use mathlib.Core.Logic.{◌⊎◌}
use mathlib.Core.Bool.{Bool, true, false, not, ◌&&◌, ◌||◌, false≢true}
use mathlib.Core.Option.{Option, some}
use mathlib.Core.List.{List, [], ◌∷◌}
use Prim.Native.Nat.{ℕ, zero, suc, ◌≤◌, ◌<◌}
use borrow.Author.Tests.{leb-true}
use lib.Dec.{eqb, leb}
use lib.ListN.{length}
use Rattle.image.specs.Tables.{type_count, variant_count, pattern_count, binding_count, list_count, data_count}
use Rattle.image.specs.Rules.{within_limits}
use Rattle.image.specs.Valid.{rules, valid}
use Rattle.image.specs.Types.{Shape, integer, bool, char, str, tuple, adt, reference, array, slice, unknown, ty_of}
use Rattle.image.specs.Tree.{Head, Target, unresolved, variant, local, constant, other, Pat, Pats, nil, cons, PatOpt, no, sub}
use Rattle.image.proofs.Bools.{and_left, and_right, all_true_at}
use Rattle.refusals.specs.declared.MirLowerError.{MirLowerError}
use Rattle.refusals.specs.Refusals.{number_of}
use Rattle.place.specs.declared.Place.{Place}
use Rattle.place.specs.declared.elems.ProjectionElem.{ProjectionElem}
use Rattle.place.specs.declared.place_ty.PlaceTy.{PlaceTy}
use Rattle.place.specs.PlaceTypes.{projection_ty, Named}
use Rattle.place.proofs.Named.{named_projection}
use Rattle.mir.specs.declared.BasicBlockId.{BasicBlockId}
use Rattle.lower_spec.specs.Results.{OptBlock}
use Rattle.pattern_matching.specs.declared.MatchingMode.{MatchingMode}
use Rattle.pattern_matching.specs.Walking.{Ctx, refused, Lowering, entered}
use Rattle.pattern_matching.specs.Variants.{place_ty, tuple_pattern, AdtPatternShape, variant_pattern}
use Rattle.pattern_matching.specs.Patterns.{path_pattern, rest_by, rest_of, pattern_match_inner, lowerings, lowering?, pattern_match}
use Rattle.counting.specs.Reaching.{behind_derefs, can_fail}
use Rattle.counting.specs.Demand3.{ElseIs}
use Rattle.counting.proofs.Holding.{holds_as}
use Rattle.counting.proofs.Passing.{checks, binds}
use Rattle.counting.proofs.Typed.{On}
use Rattle.counting.proofs.Trees.{counts}
use Rattle.cases_spec.specs.Cases.{kind_number, referent, tuple_fields}
use Rattle.meaning.specs.Values.{has_variant}
use Rattle.meaning.specs.Typing.{variant_fields}
use Rattle.meaning.specs.Fit.{path_fits, row_fits, items_all_fit, types_fit, fitting, types_fit?, pat_count, bindings_fit, fits, locals_differ, fields_there, ellipsis_within, has_local, path_taken, rest_taken?, nothing_refused, none_refused, none_reached_refused, nothing_refused?}
use Rattle.meaning.proofs.Typed.{head_of, tuple_fits, or_fits, record_fits, range_fits, slice_fits, path_fits_lem, lit_fits, bind_fits, tuple_struct_fits, ref_fits, type_here, variant_fields_lem, has_variant_lem}
use Rattle.meaning.proofs.Children.{lowerings_count}
use Rattle.fitted.proofs.Stopping.{OnlyLimits, limit_numbers, Fine}
use Rattle.fitted.proofs.Walks.{Stays, Good, on_kept, fine_walk, good_entered, good_passing}
use Rattle.fitted.proofs.Testing.{good_lit, good_constant, good_range}
use Rattle.fitted.proofs.Choosing.{Never, Reached, the_last, good_or}
use Rattle.fitted.proofs.Choosing.{none_left as no_alternative, one_more_lem as another}
use Rattle.fitted.proofs.Shaping.{Each, none_left, one_more_lem, Fielded, fielded_row, fielded_record, fielded_unit, good_bind, RestHas, good_tuple, good_ref, good_variant, good_slice}

-- only a tuple is of kind 5
only_tuple : (s : Shape) → eqb (kind_number s) 5 ≡ true → (ts : List ℕ) × (s ≡ tuple ts)
unfolding kind_number
only_tuple (integer size signed) e = absurd (false≢true e)
only_tuple bool e = absurd (false≢true e)
only_tuple char e = absurd (false≢true e)
only_tuple str e = absurd (false≢true e)
only_tuple (tuple fields) e = (fields, refl)
only_tuple (adt kind variants) e = absurd (false≢true e)
only_tuple (reference t) e = absurd (false≢true e)
only_tuple (array t n) e = absurd (false≢true e)
only_tuple (slice t) e = absurd (false≢true e)
only_tuple unknown e = absurd (false≢true e)

-- only a reference is of kind 7
only_reference : (s : Shape) → eqb (kind_number s) 7 ≡ true → (u : ℕ) × (s ≡ reference u)
unfolding kind_number
only_reference (integer size signed) e = absurd (false≢true e)
only_reference bool e = absurd (false≢true e)
only_reference char e = absurd (false≢true e)
only_reference str e = absurd (false≢true e)
only_reference (tuple fields) e = absurd (false≢true e)
only_reference (adt kind variants) e = absurd (false≢true e)
only_reference (reference t) e = (t, refl)
only_reference (array t n) e = absurd (false≢true e)
only_reference (slice t) e = absurd (false≢true e)
only_reference unknown e = absurd (false≢true e)

-- a rest that is taken binds a binding that has a local, or none
rest_has : (bindings : List ℕ) (rest : PatOpt) → rest_taken? bindings rest ≡ true → RestHas bindings (rest_of rest)
unfolding rest_of rest_by
rest_has bindings no e = tt
rest_has bindings (sub (Pat.Missing h)) e = tt
rest_has bindings (sub (Pat.Rest h)) e = tt
rest_has bindings (sub (Pat.NotNull h)) e = tt
rest_has bindings (sub (Pat.Wild h)) e = tt
rest_has bindings (sub (Pat.Tuple h args ellipsis)) e = tt
rest_has bindings (sub (Pat.Or h alts)) e = tt
rest_has bindings (sub (Pat.Record h fields args v)) e = tt
rest_has bindings (sub (Pat.Range h start end halfOpen)) e = tt
rest_has bindings (sub (Pat.Slice h prefix rest suffix)) e = tt
rest_has bindings (sub (Pat.Path h target)) e = tt
rest_has bindings (sub (Pat.Lit h operand)) e = tt
rest_has bindings (sub (Pat.Bind h b s how annotation)) e = e
rest_has bindings (sub (Pat.TupleStruct h args ellipsis v)) e = tt
rest_has bindings (sub (Pat.Ref h s)) e = tt
rest_has bindings (sub (Pat.Expr h)) e = tt
rest_has bindings (sub (Pat.Box h)) e = tt
rest_has bindings (sub (Pat.Deref h)) e = tt

three : (a b c : Bool) → a && b && c ≡ true → (a ≡ true) × (b ≡ true) × (c ≡ true)
three a b c e = let x = and_left (a && b) c e in (and_left a b x, and_right a b x, and_right (a && b) c e)

four : (a b c d : Bool) → a && b && c && d ≡ true → (a ≡ true) × (b ≡ true) × (c ≡ true) × (d ≡ true)
four a b c d e = let (x, y, z) = three a b c (and_left (a && b && c) d e) in (x, y, z, and_right (a && b && c) d e)

-- a valid image has at most 256 types
few_types : (image : List ℕ) → valid image ≡ true → type_count image ≤ 256
unfolding valid within_limits
few_types image v =
    leb-true (type_count image) 256 (first (leb (type_count image) 256) (leb (variant_count image) 512) (leb 1 (pattern_count image) && leb (pattern_count image) 512) (leb (binding_count image) 256)
    (leb (list_count image) 2048) (leb (data_count image) 16384) (all_true_at (rules image) 10 v))
  where
    first : (a b c d e f : Bool) → a && b && c && d && e && f ≡ true → a ≡ true
    first true b c d e f q = refl
    first false b c d e f q = q

-- an alternative, and those behind it where it can fail
reached_by_lem : {image : List ℕ} {ty : PlaceTy} {l : Lowering} {ls : List Lowering} (fails rest : Bool) → Good image ty l → (fails ≡ false → Never image ty l) → (rest ≡ true → Reached image ty ls) →
    not fails || rest ≡ true → Reached image ty (l ∷ ls)
reached_by_lem true rest g n k e = another g (k e)
reached_by_lem false rest g n k e = the_last g (n refl)

-- a pattern that cannot fail leaves no block where it does not match
never : (image bindings : List ℕ) (q : Pat) (ty : PlaceTy) → can_fail image q ty ≡ false → Never image ty (pattern_match_inner image bindings q)
never image bindings q ty e c current place o =
    holds_as (λ r a. subst (λ (f : Bool). ElseIs f None r.else (length c.state.blocks) (length r.ctx.state.blocks)) e a.steps.else) ((counts image bindings q).goes checks c current None place ty 0 false o)

-- in a valid image
module _ (image bindings : List ℕ) (v : valid image ≡ true) where
  -- the type behind references is in the table
  named_behind : (ty : PlaceTy) (n : ℕ) → Named image ty → Named image (behind_derefs image ty n)
  unfolding behind_derefs
  named_behind ty zero h = h
  named_behind ty (suc n) h = named_behind (projection_ty ty image ProjectionElem.Deref) n (named_projection image v ty ProjectionElem.Deref h)

  -- so is that of a head
  head_there : (pat : Pat) (t : ℕ) → t < type_count image → types_fit image pat (some t) ≡ true → (head_of pat).ty < type_count image
  head_there pat t here e = subst (λ (x : PlaceTy). Named image x) (type_here image pat t e) (named_behind (PlaceTy.Ty t) (head_of pat).derefs here)

  -- a pattern on its place, if it is good on that of its head
  at_head : {l : Lowering} (pat : Pat) (t : ℕ) → t < type_count image → types_fit image pat (some t) ≡ true → ((head_of pat).ty < type_count image → Good image (PlaceTy.Ty (head_of pat).ty) l) →
      Good image (PlaceTy.Ty t) (entered (head_of pat).number (head_of pat).derefs l)
  at_head pat t here e g = good_entered (head_of pat).number (head_of pat).derefs (type_here image pat t e) (g (head_there pat t here e))

  -- where an ellipsis stands among the lowerings of arguments
  within_count : (args : Pats) (ellipsis : Option ℕ) → ellipsis_within ellipsis (pat_count args) ≡ true → ellipsis_within ellipsis (length (lowerings image bindings args)) ≡ true
  within_count args ellipsis e = subst (λ (n : ℕ). ellipsis_within ellipsis n ≡ true) (sym (lowerings_count image bindings args)) e

  -- a Tuple
  inside_tuple : (h : Head) (args : Pats) (ellipsis : Option ℕ) → h.ty < type_count image → row_fits ellipsis (fitting image args) (tuple_fields (ty_of image h.ty).shape) ≡ true →
      eqb (kind_number (ty_of image h.ty).shape) 5 ≡ true → ellipsis_within ellipsis (pat_count args) ≡ true → Each image (lowerings image bindings args) (fitting image args) →
      Good image (PlaceTy.Ty h.ty) (tuple_pattern image h.number (lowerings image bindings args) ellipsis)
  unfolding tuple_fields
  inside_tuple h args ellipsis here fits kind within e =
      let (ts, s) = only_tuple (ty_of image h.ty).shape kind in
      good_tuple image v (few_types image v) h.number h.ty here ellipsis ts s e (rw s at fits) (within_count args ellipsis within)

  -- a pattern that names a variant
  inside_variant : (p t : ℕ) (w : Option ℕ) (shape : AdtPatternShape) → t < type_count image → has_variant (ty_of image t).shape w ≡ true → Fielded image (variant_fields image (ty_of image t).shape w) shape →
      Good image (PlaceTy.Ty t) (variant_pattern image p w shape)
  unfolding variant_pattern
  inside_variant p t w shape here has g =
      let (x, kind, variants, is, s, values, m) = has_variant_lem (ty_of image t).shape w has in
      let fields = ap (variant_fields image (ty_of image t).shape) is ∙ variant_fields_lem image x kind variants (ty_of image t).shape s m in
      subst (λ (o : Option ℕ). Good image (PlaceTy.Ty t) (variant_pattern image p o shape)) (sym is)
      (record { goes = (good_variant image v (few_types image v) p t here x kind variants shape s values m (subst (λ (ts : List ℕ). Fielded image ts shape) fields g)).goes })

  -- a Path
  inside_path : (p t : ℕ) (target : Target) → t < type_count image → path_fits image (ty_of image t).shape target ≡ true → path_taken (ty_of image t).shape target ≡ true →
      Good image (PlaceTy.Ty t) (path_pattern target image bindings p t)
  unfolding path_pattern path_fits path_taken
  inside_path p t unresolved here fits taken = absurd (false≢true taken)
  inside_path p t (variant w) here fits taken =
      let g = inside_variant p t (some w) AdtPatternShape.Unit here taken (fielded_unit image (variant_fields image (ty_of image t).shape (some w))) in
      unfold variant_pattern in record { goes = g.goes }
  inside_path p t (local b) here fits taken = absurd (false≢true taken)
  inside_path p t (constant o) here fits taken = record { goes = (good_constant image (few_types image v) p t o (PlaceTy.Ty t) fits).goes }
  inside_path p t other here fits taken = absurd (false≢true taken)

  -- what stands below a Ref fits what the reference refers to
  referred : (s : Pat) (u : ℕ) (shape : Shape) → shape ≡ reference u → types_fit image s (referent shape) ≡ true → types_fit image s (some u) ≡ true
  unfolding referent
  referred s u shape is e = rw is at e

  mutual
    unfolding head_of pattern_match_inner lowerings lowering? nothing_refused none_refused none_reached_refused nothing_refused? fitting types_fit? items_all_fit

    -- every pattern that fits, and where nothing that is reached is refused
    good : (pat : Pat) (t : ℕ) → t < type_count image → types_fit image pat (some t) ≡ true → nothing_refused image bindings pat ≡ true → Good image (PlaceTy.Ty t) (pattern_match_inner image bindings pat)
    good (Pat.Missing h) t here fits taken = absurd (false≢true taken)
    good (Pat.Rest h) t here fits taken = absurd (false≢true taken)
    good (Pat.NotNull h) t here fits taken = absurd (false≢true taken)
    good (Pat.Wild h) t here fits taken = at_head (Pat.Wild h) t here fits (λ there. good_passing image (PlaceTy.Ty h.ty))
    good (Pat.Tuple h args ellipsis) t here fits taken =
        let (kind, within, below) = three (eqb (kind_number (ty_of image h.ty).shape) 5) (ellipsis_within ellipsis (pat_count args)) (none_refused image bindings args) taken in
        at_head (Pat.Tuple h args ellipsis) t here fits (λ there.
        inside_tuple h args ellipsis there (tuple_fits image h (some t) args ellipsis fits).1 kind within (each args below))
    good (Pat.Or h alts) t here fits taken =
        at_head (Pat.Or h alts) t here fits (λ there. good_or h.number (lowerings image bindings alts) (reached alts h.ty there (or_fits image h (some t) alts fits).1 taken))
    good (Pat.Record h fields args w) t here fits taken =
        let shape = (ty_of image h.ty).shape in
        let (has, present, below) = three (has_variant shape w) (fields_there fields (length (variant_fields image shape w))) (none_refused image bindings args) taken in
        let (_, _, _, row) = record_fits image h (some t) fields args w fits in
        at_head (Pat.Record h fields args w) t here fits (λ there.
        inside_variant h.number h.ty w _ there has (fielded_record fields (variant_fields image shape w) (each args below) row present))
    good (Pat.Range h start end halfOpen) t here fits taken =
        let (_, _, first, last) = range_fits image h (some t) start end halfOpen fits in
        at_head (Pat.Range h start end halfOpen) t here fits (λ there. good_range image (few_types image v) h.number h.ty start end halfOpen (PlaceTy.Ty h.ty) first last)
    good (Pat.Slice h prefix rest suffix) t here fits taken =
        let shape = (ty_of image h.ty).shape in
        let (kind, has, front, back) = four (leb 8 (kind_number shape)) (rest_taken? bindings rest) (none_refused image bindings prefix) (none_refused image bindings suffix) taken in
        let (_, _, _, first, last) = slice_fits image h (some t) prefix rest suffix fits in
        at_head (Pat.Slice h prefix rest suffix) t here fits (λ there.
        good_slice image v (few_types image v) h.number h.ty there bindings (rest_of rest) shape refl kind (each prefix front) (each suffix back) first last (rest_has bindings rest has))
    good (Pat.Path h target) t here fits taken =
        at_head (Pat.Path h target) t here fits (λ there. inside_path h.number h.ty target there (path_fits_lem image h (some t) target fits).1 taken)
    good (Pat.Lit h o) t here fits taken =
        at_head (Pat.Lit h o) t here fits (λ there. good_lit image (few_types image v) h.number h.ty o (PlaceTy.Ty h.ty) (lit_fits image h (some t) o fits).1)
    good (Pat.Bind h b s how annotation) t here fits taken =
        let has = and_left (has_local bindings b) (nothing_refused? image bindings s) taken in
        let below = and_right (has_local bindings b) (nothing_refused? image bindings s) taken in
        at_head (Pat.Bind h b s how annotation) t here fits (λ there.
        good_bind bindings h.number b how has (good? s h.ty there (bind_fits image h (some t) b s how annotation fits).1 below))
    good (Pat.TupleStruct h args ellipsis w) t here fits taken =
        let shape = (ty_of image h.ty).shape in
        let (has, within, below) = three (has_variant shape w) (ellipsis_within ellipsis (pat_count args)) (none_refused image bindings args) taken in
        let (_, _, row) = tuple_struct_fits image h (some t) args ellipsis w fits in
        at_head (Pat.TupleStruct h args ellipsis w) t here fits (λ there.
        inside_variant h.number h.ty w _ there has (fielded_row ellipsis (variant_fields image shape w) (each args below) row (within_count args ellipsis within)))
    good (Pat.Ref h s) t here fits taken =
        let shape = (ty_of image h.ty).shape in
        let kind = and_left (eqb (kind_number shape) 7) (nothing_refused image bindings s) taken in
        let below = and_right (eqb (kind_number shape) 7) (nothing_refused image bindings s) taken in
        let (u, is) = only_reference shape kind in
        at_head (Pat.Ref h s) t here fits (λ there. good_ref image v (few_types image v) h.number h.ty there u is (λ few. good s u few (referred s u shape is (ref_fits image h (some t) s fits).1) below))
    good (Pat.Expr h) t here fits taken = absurd (false≢true taken)
    good (Pat.Box h) t here fits taken = absurd (false≢true taken)
    good (Pat.Deref h) t here fits taken = absurd (false≢true taken)

    -- patterns in a row
    each : (args : Pats) → none_refused image bindings args ≡ true → Each image (lowerings image bindings args) (fitting image args)
    each nil e = none_left
    each (cons q qs) e =
        one_more_lem (λ t here fits. good q t here fits (and_left (nothing_refused image bindings q) (none_refused image bindings qs) e))
        (each qs (and_right (nothing_refused image bindings q) (none_refused image bindings qs) e))

    -- alternatives, up to the first that cannot fail
    reached : (alts : Pats) (t : ℕ) → t < type_count image → items_all_fit (fitting image alts) (some t) ≡ true → none_reached_refused image bindings alts (PlaceTy.Ty t) ≡ true →
        Reached image (PlaceTy.Ty t) (lowerings image bindings alts)
    reached nil t here fits taken = no_alternative
    reached (cons q qs) t here fits taken =
        let ty = PlaceTy.Ty t in
        let fails = can_fail image q ty in
        let rest = none_reached_refused image bindings qs ty in
        reached_by_lem fails rest
        (good q t here (and_left (types_fit image q (some t)) (items_all_fit (fitting image qs) (some t)) fits) (and_left (nothing_refused image bindings q) (not fails || rest) taken))
        (never image bindings q ty) (λ more. reached qs t here (and_right (types_fit image q (some t)) (items_all_fit (fitting image qs) (some t)) fits) more)
        (and_right (nothing_refused image bindings q) (not fails || rest) taken)

    -- a subpattern that may be absent
    good? : (s : PatOpt) (t : ℕ) → t < type_count image → types_fit? image s (some t) ≡ true → nothing_refused? image bindings s ≡ true → Good image (PlaceTy.Ty t) (lowering? image bindings s)
    good? no t here fits taken = good_passing image (PlaceTy.Ty t)
    good? (sub s) t here fits taken = good s t here fits taken

-- The theorem: a pattern that fits the type of its place, and in which nothing that is reached is refused, is refused for none but these reasons.
fitting_refused : (image bindings : List ℕ) (pat : Pat) (ctx : Ctx) (current : BasicBlockId) (els : OptBlock) (place : Place) (t : ℕ) (e : MirLowerError) (p : ℕ) → valid image ≡ true →
    t < type_count image → place_ty image ctx.state place ≡ PlaceTy.Ty t → place.local.0 < length ctx.state.locals → length place.elems ≡ 16 → types_fit image pat (some t) ≡ true →
    nothing_refused image bindings pat ≡ true → pattern_match image bindings pat ctx current els place ≡ refused e p → OnlyLimits e
unfolding pattern_match
fitting_refused image bindings pat ctx current els place t e p v here typed rooted whole fits taken is = walked.stop e p is
  where
    on : On image ctx place (PlaceTy.Ty t)
    on = record { rooted = rooted; whole = whole; typed = typed }

    each_pass : Good image (PlaceTy.Ty t) (pattern_match_inner image bindings pat)
    each_pass = good image bindings v pat t here fits taken

    walked : Fine (Stays ctx) (pattern_match image bindings pat ctx current els place)
    walked =
        fine_walk ctx (pattern_match_inner image bindings pat MatchingMode.Check ctx current els place) _ (each_pass.goes checks ctx current els place on)
        (λ r g. each_pass.goes binds r.ctx r.then r.else place (on_kept g on))

-- the same of a pattern that fits, by the numbers: a limit is passed, or no scope is open
pub fit_refused : (image bindings : List ℕ) (pat : Pat) (ctx : Ctx) (current : BasicBlockId) (els : OptBlock) (place : Place) (t : ℕ) (e : MirLowerError) (p : ℕ) →
    valid image ≡ true → t < type_count image → place_ty image ctx.state place ≡ PlaceTy.Ty t → place.local.0 < length ctx.state.locals → length place.elems ≡ 16 →
    fits image bindings place.local.0 t pat ≡ true → pattern_match image bindings pat ctx current els place ≡ refused e p → (number_of e ≡ 11) ⊎ (number_of e ≡ 14)
unfolding fits
fit_refused image bindings pat ctx current els place t e p v there placed rooted whole fit stopped =
    let tests = types_fit image pat (some t) ∷ bindings_fit image pat ∷ nothing_refused image bindings pat ∷ locals_differ bindings place.local.0 ∷ [] in
    limit_numbers e (fitting_refused image bindings pat ctx current els place t e p v there placed rooted whole (all_true_at tests 0 fit) (all_true_at tests 2 fit) stopped)
