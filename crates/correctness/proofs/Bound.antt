-- A walk in Bind over a fitting pattern binds what the Reference says, where the pattern matches: by induction on the pattern.
-- Assumes nothing.
use Prim.Native.Nat.{ℕ, ◌+◌, ◌-◌, ◌<◌}
use native.Mathlib.Omega.{arith}
use mathlib.Core.Path.{◌≡◌, refl, sym, ap, ◌∙◌, subst}
use mathlib.Core.Bool.{Bool, true, cond, ◌&&◌, false≢true}
use mathlib.Core.Option.{none, some}
use mathlib.Core.List.{List, [], ◌∷◌, ◌++◌, map}
use lib.ListN.{length, drop}
use Rattle.image.specs.Valid.{valid}
use Rattle.image.specs.Lists.{up_from}
use Rattle.image.specs.Types.{Shape, reference, ty_of}
use Rattle.image.specs.Tree.{Pat, Pats, nil, cons, PatOpt, no, sub}
use Rattle.image.proofs.Bools.{and_left, and_right}
use Rattle.place.specs.declared.elems.ProjectionElem.{ProjectionElem}
use Rattle.place.specs.declared.place_ty.PlaceTy.{PlaceTy}
use Rattle.views.specs.Views.{Path, Mir}
use Rattle.pattern_matching.specs.Tests.{lit_by}
use Rattle.pattern_matching.specs.Variants.{AdtPatternShape, tuple_pattern, ref_pattern, variant_pattern}
use Rattle.pattern_matching.specs.Slices.{slice_on}
use Rattle.pattern_matching.specs.Patterns.{passing, or_pattern, range_pattern, path_pattern, bind_pattern, rest_of, pattern_match_inner, lowerings, lowering?}
use Rattle.growth.proofs.Walks.{ok_is}
use Rattle.cases_spec.specs.Cases.{referent}
use Rattle.meaning.specs.Values.{Value, parts_of, part_at}
use Rattle.meaning.specs.Running.{Scene}
use Rattle.meaning.specs.Matching.{onto, crossed, crossed_path, Bound, bound_as, bind_all, match_all, match_row, match_fields, long_enough, is_variant, row_fields, record_fields, last_items, variant_path, matches, matchers, matches?}
use Rattle.meaning.specs.Binding.{rest_binds?, binds, binders, bind_first, binds?}
use Rattle.meaning.specs.Fit.{types_fit, fitting, types_fit?, BoundAt, within, pat_count, rest_bound?, bound_in, bound_in_all, bound_in?, bind_once, bindings_fit, all_bindings_fit, bindings_fit?, alternatives_fit, all_bind, same_bindings}
use Rattle.meaning.proofs.Cutting.{Bytes}
use Rattle.meaning.proofs.Typed.{head_of, tuple_fits, or_fits, record_fits, slice_fits, bind_fits, tuple_struct_fits, ref_fits, type_behind, value_here}
use Rattle.meaning.proofs.Children.{lowerings_count, deref_valued}
use Rattle.correctness.specs.Demand2.{place_path}
use Rattle.correctness.proofs.OfImages.{OfImage, AllOfImage, OfImage?}
use Rattle.correctness.proofs.Checked.{any_of_lem, all_check}
use Rattle.correctness.proofs.Choosing.{first_where}
use Rattle.correctness.proofs.Permuting.{LocalsApart, Binder}
use Rattle.correctness.proofs.BindingNames.{AllLocal, local_left, local_right, within_among, separate}
use Rattle.correctness.proofs.BindSteps.{Fills}
use Rattle.correctness.proofs.BindingFields.{Can, AllCan, no_child, child}
use Rattle.correctness.proofs.BindingKinds.{fills_entered, fills_nothing, fills_tuple, fills_ref, fills_bind, fills_range, fills_lit}
use Rattle.correctness.proofs.BindingVariants.{fills_tuple_struct, fills_record, fills_path}
use Rattle.correctness.proofs.BindingSlices.{fills_slice}
use Rattle.correctness.proofs.BindingOr.{fills_or}

module _ (image : List ℕ) where
  -- the first alternative that matches binds
  first_binds : (alts : Pats) (path : Path) (v : Value) →
      first_where (map (λ (m : Value → Bool). m v) (matchers image alts)) (map (λ (b : Binder). b path v) (binders image alts)) ≡ bind_first image alts path v
  unfolding first_where matchers binders
  first_binds nil path v = refl
  first_binds (cons q qs) path v = ap (λ (bs : List Bound). cond (matches image q v) (binds image q path v) bs) (first_binds qs path v)

  -- what stands below a Ref fits what the reference refers to
  referent_fits : (s : Pat) (u : ℕ) (shape : Shape) → shape ≡ reference u → types_fit image s (referent shape) ≡ true → types_fit image s (some u) ≡ true
  unfolding referent
  referent_fits s u shape e fits = ap (λ (x : Shape). types_fit image s (referent x)) (sym e) ∙ fits

  -- a pattern whose bindings are those of another has locals for them
  local_same : (bindings : List ℕ) (xs ys : List BoundAt) → same_bindings xs ys ≡ true → AllLocal bindings xs → AllLocal bindings ys
  local_same bindings xs ys e h a m = h a (within_among ys xs (and_right (within xs ys) (within ys xs) e) a m)

module _ (scene : Scene) (word : ℕ) (bindings : List ℕ) (M : Mir) (holds : valid scene.image ≡ true) (bytes : Bytes scene.image) (apart : LocalsApart bindings) where
  mutual
    unfolding pattern_match_inner types_fit matches binds bindings_fit bound_in head_of OfImage

    -- a pattern
    pub bound : (pat : Pat) → bindings_fit scene.image pat ≡ true → AllLocal bindings (bound_in scene.image pat) → OfImage scene.image pat →
        Can scene word bindings M (pattern_match_inner scene.image bindings pat) (λ t. types_fit scene.image pat t) (λ v. matches scene.image pat v)
        (λ path v. binds scene.image pat path v)
    bound (Pat.Missing h) f there of = record { fills = λ t w fits match value. absurd (false≢true match) }
    bound (Pat.Rest h) f there of = record { fills = λ t w fits match value. absurd (false≢true match) }
    bound (Pat.NotNull h) f there of = record { fills = λ t w fits match value. absurd (false≢true match) }
    bound (Pat.Wild h) f there of =
        record {
          fills = λ t w fits match value.
              fills_entered scene word bindings M holds h.number h.derefs passing t h.ty w (λ path v. []) (type_behind scene.image (Pat.Wild h) (some t) fits)
              (fills_nothing scene word bindings M passing (PlaceTy.Ty h.ty) (crossed h.derefs w) (λ ctx c els place r e. ok_is e));
        }
    bound (Pat.Tuple h args ellipsis) f there of =
        let image = scene.image in
        let pat = Pat.Tuple h args ellipsis in
        let bs = binders image args in
        let each = and_right (bind_once image (bound_in_all image args)) (all_bindings_fit image args) f in
        let once = and_left (bind_once image (bound_in_all image args)) (all_bindings_fit image args) f in
        let cs = all_bound args each there of in
        record {
          fills = λ t w fits match value.
              fills_entered scene word bindings M holds h.number h.derefs (tuple_pattern image h.number (lowerings image bindings args) ellipsis) t h.ty w
              (λ path v. bind_all bs (row_fields ellipsis (length bs) (length (parts_of v))) path v) (type_behind image pat (some t) fits)
              (fills_tuple scene word bindings M holds apart h.number ellipsis cs (separate image bindings args each once there) h.ty (crossed h.derefs w) (value_here image pat w t fits value)
              (tuple_fits image h (some t) args ellipsis fits).1 match);
        }
    bound (Pat.Or h alts) f there of =
        let image = scene.image in
        let pat = Pat.Or h alts in
        let read = alts in
        let first = alternatives_fit image alts in
        let each = all_bindings_fit image alts in
        let ks = alts_bound alts (and_left first each f) (and_right first each f) there of in
        record {
          fills = λ t w fits match value.
              let x = crossed h.derefs w in
              let g = fills_entered scene word bindings M holds h.number h.derefs (or_pattern h.number (lowerings image bindings alts)) t h.ty w
              (λ path v. first_where (map (λ (m : Value → Bool). m v) (matchers image read)) (map (λ (b : Binder). b path v) (binders image read))) (type_behind image pat (some t) fits)
              (fills_or scene word bindings M h.number (all_check holds bytes alts of) ks h.ty x (value_here image pat w t fits value) (or_fits image h (some t) alts fits).1
              (any_of_lem image read x ∙ match)) in
              record {
                fill = λ ctx c els place r root ready s e.
                    subst (λ (bs : List Bound). Fills scene bindings M ctx c els bs r)
                    (first_binds image read (crossed_path h.derefs (place_path place)) x) (g.fill ctx c els place r root ready s e);
              };
        }
    bound (Pat.Record h fields args v) f there of =
        let image = scene.image in
        let pat = Pat.Record h fields args v in
        let bs = binders image args in
        let cs = all_bound args (and_right (bind_once image (bound_in_all image args)) (all_bindings_fit image args) f) there of in
        record {
          fills = λ t w fits match value.
              let x = crossed h.derefs w in
              let is = is_variant v x in
              let row = match_fields fields (matchers image args) (parts_of x) in
              fills_entered scene word bindings M holds h.number h.derefs (variant_pattern image h.number v (AdtPatternShape.Record fields (lowerings image bindings args))) t h.ty w
              (λ path y. bind_all bs (record_fields fields) (variant_path (ty_of image h.ty).shape v path) y) (type_behind image pat (some t) fits)
              (fills_record scene word bindings M holds h.number fields cs v h.ty x (value_here image pat w t fits value) (record_fits image h (some t) fields args v fits).3 (and_left is row match)
              (and_right is row match));
        }
    bound (Pat.Range h start end halfOpen) f there of =
        let image = scene.image in
        let pat = Pat.Range h start end halfOpen in
        record {
          fills = λ t w fits match value.
              fills_entered scene word bindings M holds h.number h.derefs (range_pattern image h.number h.ty start end halfOpen) t h.ty w (λ path v. []) (type_behind image pat (some t) fits)
              (fills_range scene word bindings M h.number h.ty start end halfOpen (PlaceTy.Ty h.ty) (crossed h.derefs w));
        }
    bound (Pat.Slice h prefix rest suffix) f there of =
        let image = scene.image in
        let pat = Pat.Slice h prefix rest suffix in
        let shape = (ty_of image h.ty).shape in
        let bs = binders image prefix in
        let bs' = binders image suffix in
        let once = bind_once image (bound_in image pat) in
        let front = all_bindings_fit image prefix in
        let end = all_bindings_fit image suffix in
        let here = bound_in_all image prefix in
        let middle = rest_bound? rest shape h.ty (pat_count prefix + pat_count suffix) in
        let last = bound_in_all image suffix in
        let ends = and_right (once && front) end f in
        let local = local_right bindings middle last (local_right bindings here (middle ++ last) there) in
        let cs = all_bound prefix (and_right once front (and_left (once && front) end f)) (local_left bindings here (middle ++ last) there) of.1 in
        let cs' = all_bound suffix ends local of.2 in
        let few : length (lowerings image bindings suffix) < 8192 = omega (arith, of.0, lowerings_count image bindings suffix) in
        record {
          fills = λ t w fits match value.
              let x = crossed h.derefs w in
              let vs = parts_of x in
              let ms = matchers image prefix in
              let ms' = matchers image suffix in
              let long = long_enough rest (length ms + length ms') (length vs) in
              let m₁ = match_all ms vs in
              let m₂ = match_all ms' (drop (length vs - length ms') vs) in
              let facts = slice_fits image h (some t) prefix rest suffix fits in
              let l = slice_on shape image bindings h.number (lowerings image bindings prefix) (rest_of rest) (lowerings image bindings suffix) in
              fills_entered scene word bindings M holds h.number h.derefs l t h.ty w
              (λ path v. bind_all bs (map (λ i. ProjectionElem.Index i) (up_from 0 (length bs))) path v
              ++ (rest_binds? rest (length bs) (length bs') path v ++ bind_all bs' (last_items (length bs')) path v)) (type_behind image pat (some t) fits)
              (fills_slice scene word bindings M holds h.number cs cs' few rest h.ty x (value_here image pat w t fits value) facts.3 facts.4
              (and_right long m₁ (and_left (long && m₁) m₂ match))
              (and_right (long && m₁) m₂ match));
        }
    bound (Pat.Path h target) f there of =
        let image = scene.image in
        let pat = Pat.Path h target in
        record {
          fills = λ t w fits match value.
              fills_entered scene word bindings M holds h.number h.derefs (path_pattern target image bindings h.number h.ty) t h.ty w (λ path v. []) (type_behind image pat (some t) fits)
              (fills_path scene word bindings M holds target h.number h.ty (crossed h.derefs w) (value_here image pat w t fits value) match);
        }
    bound (Pat.Lit h operand) f there of =
        let image = scene.image in
        let pat = Pat.Lit h operand in
        record {
          fills = λ t w fits match value.
              fills_entered scene word bindings M holds h.number h.derefs (lit_by operand.kind image h.number h.ty operand) t h.ty w (λ path v. []) (type_behind image pat (some t) fits)
              (fills_lit scene word bindings M operand.kind h.number h.ty operand (PlaceTy.Ty h.ty) (crossed h.derefs w));
        }
    bound (Pat.Bind h b s how annotation) f there of =
        let image = scene.image in
        let pat = Pat.Bind h b s how annotation in
        let own : BoundAt = record { binding = b; ty = h.ty; length_left = none } in
        let c = bound? s (and_right (bind_once image (own ∷ bound_in? image s)) (bindings_fit? image s) f) (local_right bindings (own ∷ []) (bound_in? image s) there) of in
        record {
          fills = λ t w fits match value.
              let x = crossed h.derefs w in
              fills_entered scene word bindings M holds h.number h.derefs (bind_pattern bindings h.number b how (lowering? image bindings s)) t h.ty w
              (λ path v. binds? image s path v ++ (record { binding = b; what = bound_as how path v } ∷ [])) (type_behind image pat (some t) fits)
              (fills_bind scene word bindings M h.number b how (lowering? image bindings s) (PlaceTy.Ty h.ty) x (λ path v. binds? image s path v)
              (c.fills h.ty x (bind_fits image h (some t) b s how annotation fits).1 match (value_here image pat w t fits value)));
        }
    bound (Pat.TupleStruct h args ellipsis v) f there of =
        let image = scene.image in
        let pat = Pat.TupleStruct h args ellipsis v in
        let bs = binders image args in
        let each = and_right (bind_once image (bound_in_all image args)) (all_bindings_fit image args) f in
        let once = and_left (bind_once image (bound_in_all image args)) (all_bindings_fit image args) f in
        let cs = all_bound args each there of in
        record {
          fills = λ t w fits match value.
              let x = crossed h.derefs w in
              let is = is_variant v x in
              let row = match_row ellipsis (matchers image args) (parts_of x) in
              fills_entered scene word bindings M holds h.number h.derefs (variant_pattern image h.number v (AdtPatternShape.Tuple (lowerings image bindings args) ellipsis)) t h.ty w
              (λ path y. bind_all bs (row_fields ellipsis (length bs) (length (parts_of y))) (variant_path (ty_of image h.ty).shape v path) y) (type_behind image pat (some t) fits)
              (fills_tuple_struct scene word bindings M holds apart h.number ellipsis cs (separate image bindings args each once there) v h.ty x (value_here image pat w t fits value)
              (tuple_struct_fits image h (some t) args ellipsis v fits).2 (and_left is row match) (and_right is row match));
        }
    bound (Pat.Ref h s) f there of =
        let image = scene.image in
        let pat = Pat.Ref h s in
        let c = bound s f there of in
        record {
          fills = λ t w fits match value.
              let x = crossed h.derefs w in
              fills_entered scene word bindings M holds h.number h.derefs (ref_pattern image h.number (pattern_match_inner image bindings s)) t h.ty w
              (λ path v. binds image s (onto path ProjectionElem.Deref) (part_at ProjectionElem.Deref v)) (type_behind image pat (some t) fits)
              (fills_ref scene word bindings M holds h.number (pattern_match_inner image bindings s) h.ty x (λ path v. binds image s path v) (λ u is.
              c.fills u (part_at ProjectionElem.Deref x) (referent_fits image s u (ty_of image h.ty).shape is (ref_fits image h (some t) s fits).1) match
              (deref_valued image h.ty x u is (value_here image pat w t fits value)).1));
        }
    bound (Pat.Expr h) f there of = record { fills = λ t w fits match value. absurd (false≢true match) }
    bound (Pat.Box h) f there of = record { fills = λ t w fits match value. absurd (false≢true match) }
    bound (Pat.Deref h) f there of = record { fills = λ t w fits match value. absurd (false≢true match) }

    -- patterns in a row
    all_bound : (qs : Pats) → all_bindings_fit scene.image qs ≡ true → AllLocal bindings (bound_in_all scene.image qs) → AllOfImage scene.image qs →
        AllCan scene word bindings M (lowerings scene.image bindings qs) (fitting scene.image qs) (matchers scene.image qs) (binders scene.image qs)
    all_bound nil f there of = no_child
    all_bound (cons q qs) f there of =
        let image = scene.image in
        child (bound q (and_left (bindings_fit image q) (all_bindings_fit image qs) f) (local_left bindings (bound_in image q) (bound_in_all image qs) there) of.0)
        (all_bound qs (and_right (bindings_fit image q) (all_bindings_fit image qs) f) (local_right bindings (bound_in image q) (bound_in_all image qs) there)
        of.1)

    -- alternatives, which bind the same as the first
    alts_bound : (alts : Pats) → alternatives_fit scene.image alts ≡ true → all_bindings_fit scene.image alts ≡ true → AllLocal bindings (bound_in scene.image (Pat.Or (record { number = 0; ty = 0; derefs = 0 }) alts)) →
        AllOfImage scene.image alts →
        AllCan scene word bindings M (lowerings scene.image bindings alts) (fitting scene.image alts) (matchers scene.image alts) (binders scene.image alts)
    alts_bound nil first f there of = no_child
    alts_bound (cons q qs) first f there of =
        let image = scene.image in
        child (bound q (and_left (bindings_fit image q) (all_bindings_fit image qs) f) there of.0)
        (others_bound qs (bound_in image q) first (and_right (bindings_fit image q) (all_bindings_fit image qs) f) there of.1)

    -- those behind the first
    others_bound : (alts : Pats) (xs : List BoundAt) → all_bind scene.image xs alts ≡ true → all_bindings_fit scene.image alts ≡ true → AllLocal bindings xs → AllOfImage scene.image alts →
        AllCan scene word bindings M (lowerings scene.image bindings alts) (fitting scene.image alts) (matchers scene.image alts) (binders scene.image alts)
    others_bound nil xs all f there of = no_child
    others_bound (cons q qs) xs all f there of =
        let image = scene.image in
        let same = same_bindings xs (bound_in image q) in
        child
        (bound q (and_left (bindings_fit image q) (all_bindings_fit image qs) f) (local_same image bindings xs (bound_in image q) (and_left same (all_bind image xs qs) all) there)
        of.0)
        (others_bound qs xs (and_right same (all_bind image xs qs) all) (and_right (bindings_fit image q) (all_bindings_fit image qs) f) there of.1)

    -- a subpattern that may be absent
    bound? : (s : PatOpt) → bindings_fit? scene.image s ≡ true → AllLocal bindings (bound_in? scene.image s) → OfImage? scene.image s →
        Can scene word bindings M (lowering? scene.image bindings s) (λ t. types_fit? scene.image s t) (λ v. matches? scene.image s v) (λ path v. binds? scene.image s path v)
    bound? no f there of =
        record { fills = λ t w fits match value. fills_nothing scene word bindings M passing (PlaceTy.Ty t) w (λ ctx c els place r e. ok_is e) }
    bound? (sub s) f there of = bound s f there of
