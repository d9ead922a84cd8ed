-- The tests of a pattern lead to the block that goes on where the pattern matches, and else to the else: by induction on the pattern.
-- Assumes nothing.
use Prim.Native.Nat.{ℕ}
use native.Mathlib.Omega.{arith}
use mathlib.Core.Path.{◌≡◌, refl, ap}
use mathlib.Core.Bool.{Bool, true, false, ◌||◌}
use mathlib.Core.Option.{some}
use mathlib.Core.List.{List, map}
use Rattle.image.specs.Valid.{valid}
use Rattle.image.specs.Types.{ty_of}
use Rattle.image.specs.Tree.{Pat, Pats, nil, cons, PatOpt, no, sub}
use Rattle.refusals.specs.declared.MirLowerError.{MirLowerError}
use Rattle.views.specs.Views.{Mir}
use Rattle.pattern_matching.specs.declared.MatchingMode.{MatchingMode}
use Rattle.pattern_matching.specs.Walking.{Lowering, visited, entered}
use Rattle.pattern_matching.specs.Tests.{lit_by}
use Rattle.pattern_matching.specs.Variants.{AdtPatternShape, tuple_pattern, ref_pattern, variant_pattern}
use Rattle.pattern_matching.specs.Slices.{slice_on}
use Rattle.pattern_matching.specs.Patterns.{refusing, passing, or_pattern, range_pattern, path_pattern, bind_pattern, rest_of, pattern_match_inner, lowerings, lowering?}
use Rattle.growth.proofs.Walks.{not_ok, Grows}
use Rattle.growth.proofs.Growing.{grows, grows?}
use Rattle.meaning.specs.Values.{Value}
use Rattle.meaning.specs.Running.{Scene}
use Rattle.meaning.specs.Matching.{crossed, matches, matchers, match_any, matches?}
use Rattle.meaning.specs.Fit.{types_fit, fitting, types_fit?}
use Rattle.meaning.proofs.Cutting.{Bytes}
use Rattle.meaning.proofs.Constants.{literal_worth, type_sized}
use Rattle.meaning.proofs.Crossing.{fits_crossed}
use Rattle.meaning.proofs.Typed.{head_of, tuple_fits, or_fits, record_fits, range_fits, slice_fits, path_fits_lem, lit_fits, bind_fits, tuple_struct_fits, ref_fits, type_behind}
use Rattle.meaning.proofs.Children.{lowerings_count}
use Rattle.correctness.proofs.Standing.{crossing}
use Rattle.correctness.proofs.Halving.{literal_small}
use Rattle.correctness.proofs.OfImages.{OfImage, AllOfImage, OfImage?}
use Rattle.correctness.proofs.Arguments.{Meant, AllMeant}
use Rattle.correctness.proofs.Arguments.{nil as All-none, cons as All-more}
use Rattle.correctness.proofs.Choosing.{any_of}
use Rattle.correctness.proofs.Looks.{Looks, looks_passing, looks_lit, looks_range, looks_bind, looks_ref, looks_tuple, looks_or}
use Rattle.correctness.proofs.Looked.{looks_refused, looks_as, unvisited, looks_slice, end_is, looks_path, looks_tuple_struct, looks_record}

-- one of the alternatives
pub any_of_lem : (image : List ℕ) (ps : Pats) (w : Value) → any_of (map (λ m. m w) (matchers image ps)) ≡ match_any image ps w
unfolding any_of matchers match_any
any_of_lem image nil w = refl
any_of_lem image (cons q qs) w = ap (λ (b : Bool). matches image q w || b) (any_of_lem image qs w)

module _ {scene : Scene} {bindings : List ℕ} {M : Mir} {word : ℕ} (holds : valid scene.image ≡ true) (bytes : Bytes scene.image) where
  -- a pattern is entered: what lies behind its derefs is looked at
  meant : (pat : Pat) (l : Lowering) (m : Value → Bool) → Grows (entered (head_of pat).number (head_of pat).derefs l) →
      ((t : ℕ) → types_fit scene.image pat (some t) ≡ true → Looks scene bindings M word l m (head_of pat).ty) →
      Meant scene bindings M word (entered (head_of pat).number (head_of pat).derefs l) (λ w. m (crossed (head_of pat).derefs w)) (types_fit scene.image pat)
  unfolding entered visited
  meant pat l m g k =
      record {
        grows = g;
        lands = λ t fit ctx c els place w root s fits h r is x env.
            let u = (head_of pat).ty in
            let n = (head_of pat).derefs in
            let p = (head_of pat).number in
            let b = type_behind scene.image pat (some t) fit in
            crossing p n u (λ place'. l MatchingMode.Check (visited ctx p) c els place') r holds s b is (λ place' s' is'.
            unvisited ctx p c.0 env r (m (crossed n w))
            ((k t fit).lands (visited ctx p) c els place' (crossed n w) (record { there = root.there; is = root.is }) s' (fits_crossed scene.image n w t u b fits)
            (record { inside = h.inside; opened = h.opened; else = h.else; lines = h.lines }) r is' x env));
      }

  mutual
    unfolding pattern_match_inner matches head_of OfImage types_fit

    -- every pattern, in Check
    pub checks : (pat : Pat) → OfImage scene.image pat →
        Meant scene bindings M word (pattern_match_inner scene.image bindings pat) (λ w. matches scene.image pat w) (types_fit scene.image pat)
    checks (Pat.Missing h) d = meant (Pat.Missing h) (refusing MirLowerError.IncompletePattern h.number) (λ w. false) (grows scene.image bindings (Pat.Missing h))
        (λ t fit. looks_refused _ _ h.ty (λ ctx c els place r is. not_ok is))
    checks (Pat.Rest h) d = meant (Pat.Rest h) (refusing MirLowerError.IncompletePattern h.number) (λ w. false) (grows scene.image bindings (Pat.Rest h))
        (λ t fit. looks_refused _ _ h.ty (λ ctx c els place r is. not_ok is))
    checks (Pat.NotNull h) d = meant (Pat.NotNull h) (refusing MirLowerError.IncompletePattern h.number) (λ w. false) (grows scene.image bindings (Pat.NotNull h))
        (λ t fit. looks_refused _ _ h.ty (λ ctx c els place r is. not_ok is))
    checks (Pat.Wild h) d = meant (Pat.Wild h) passing (λ w. true) (grows scene.image bindings (Pat.Wild h)) (λ t fit. looks_passing h.ty)
    checks (Pat.Tuple h args ellipsis) d =
        meant (Pat.Tuple h args ellipsis) (tuple_pattern scene.image h.number (lowerings scene.image bindings args) ellipsis) _
        (grows scene.image bindings (Pat.Tuple h args ellipsis))
        (λ t fit. looks_tuple holds h.number h.ty (all_check args d) ellipsis (tuple_fits scene.image h (some t) args ellipsis fit).1)
    checks (Pat.Or h alts) d =
        meant (Pat.Or h alts) (or_pattern h.number (lowerings scene.image bindings alts)) _
        (grows scene.image bindings (Pat.Or h alts))
        (λ t fit. looks_as (λ w. match_any scene.image alts w) (any_of_lem scene.image alts)
        (looks_or holds h.number h.ty (all_check alts d) (or_fits scene.image h (some t) alts fit).1))
    checks (Pat.Record h fields args v) d =
        meant (Pat.Record h fields args v) (variant_pattern scene.image h.number v (AdtPatternShape.Record fields (lowerings scene.image bindings args))) _
        (grows scene.image bindings (Pat.Record h fields args v))
        (λ t fit.
        let (there, differ, tell, row) = record_fits scene.image h (some t) fields args v fit in
        looks_record holds bytes h.number h.ty (all_check args d) tell v fields row)
    checks (Pat.Range h start end halfOpen) d =
        meant (Pat.Range h start end halfOpen) (range_pattern scene.image h.number h.ty start end halfOpen) _
        (grows scene.image bindings (Pat.Range h start end halfOpen))
        (λ t fit. record {
          lands = λ ctx c els place w root s fits y r is x env.
              let (there, some_end, first, last) = range_fits scene.image h (some t) start end halfOpen fit in
              (looks_range h.number h.ty start end halfOpen (end_is scene.image h.ty start holds s.named d.0 first) (end_is scene.image h.ty end holds s.named d.1 last)
              ).lands ctx c els place w root s fits y r is x env;
        })
    checks (Pat.Slice h prefix rest suffix) d =
        meant (Pat.Slice h prefix rest suffix)
        (slice_on (ty_of scene.image h.ty).shape scene.image bindings h.number (lowerings scene.image bindings prefix) (rest_of rest) (lowerings scene.image bindings suffix)) _
        (grows scene.image bindings (Pat.Slice h prefix rest suffix))
        (λ t fit.
        let (there, items, rests, front, back) = slice_fits scene.image h (some t) prefix rest suffix fit in
        let n = lowerings_count scene.image bindings prefix in
        let m = lowerings_count scene.image bindings suffix in
        looks_slice h.number h.ty holds (all_check prefix d.1) (all_check suffix d.2) rest items front back (omega (arith, d.0)))
    checks (Pat.Path h target) d =
        meant (Pat.Path h target) (path_pattern target scene.image bindings h.number h.ty) _
        (grows scene.image bindings (Pat.Path h target))
        (λ t fit. looks_path holds bytes h.number h.ty target d (path_fits_lem scene.image h (some t) target fit).1)
    checks (Pat.Lit h o) d =
        meant (Pat.Lit h o) (lit_by o.kind scene.image h.number h.ty o) _
        (grows scene.image bindings (Pat.Lit h o))
        (λ t fit. record {
          lands = λ ctx c els place w root s fits y r is x env.
              let sized = type_sized scene.image h.ty holds s.named in
              let lit = (lit_fits scene.image h (some t) o fit).1 in
              (looks_lit h.number h.ty o (λ k e. (literal_worth scene.image h.ty o sized d.lies lit e, literal_small scene.image h.ty sized o d k lit e))
              ).lands ctx c els place w root s fits y r is x env;
        })
    checks (Pat.Bind h b s how annotation) d =
        meant (Pat.Bind h b s how annotation) (bind_pattern bindings h.number b how (lowering? scene.image bindings s)) _
        (grows scene.image bindings (Pat.Bind h b s how annotation))
        (λ t fit. looks_bind h.number b h.ty how (lowering? scene.image bindings s) (λ w. matches? scene.image s w) (types_fit? scene.image s) (check? s d)
        (bind_fits scene.image h (some t) b s how annotation fit).1)
    checks (Pat.TupleStruct h args ellipsis v) d =
        meant (Pat.TupleStruct h args ellipsis v) (variant_pattern scene.image h.number v (AdtPatternShape.Tuple (lowerings scene.image bindings args) ellipsis)) _
        (grows scene.image bindings (Pat.TupleStruct h args ellipsis v))
        (λ t fit.
        let (there, tell, row) = tuple_struct_fits scene.image h (some t) args ellipsis v fit in
        looks_tuple_struct holds bytes h.number h.ty (all_check args d) tell v ellipsis row)
    checks (Pat.Ref h s) d =
        meant (Pat.Ref h s) (ref_pattern scene.image h.number (pattern_match_inner scene.image bindings s)) _
        (grows scene.image bindings (Pat.Ref h s))
        (λ t fit. looks_ref holds h.number h.ty (pattern_match_inner scene.image bindings s) (λ w. matches scene.image s w) (types_fit scene.image s) (checks s d)
        (ref_fits scene.image h (some t) s fit).1)
    checks (Pat.Expr h) d = meant (Pat.Expr h) (refusing MirLowerError.Expr h.number) (λ w. false) (grows scene.image bindings (Pat.Expr h))
        (λ t fit. looks_refused _ _ h.ty (λ ctx c els place r is. not_ok is))
    checks (Pat.Box h) d = meant (Pat.Box h) (refusing MirLowerError.NotSupported h.number) (λ w. false) (grows scene.image bindings (Pat.Box h))
        (λ t fit. looks_refused _ _ h.ty (λ ctx c els place r is. not_ok is))
    checks (Pat.Deref h) d = meant (Pat.Deref h) (refusing MirLowerError.NotSupported h.number) (λ w. false) (grows scene.image bindings (Pat.Deref h))
        (λ t fit. looks_refused _ _ h.ty (λ ctx c els place r is. not_ok is))

    -- patterns in a row
    pub all_check : (ps : Pats) → AllOfImage scene.image ps →
        AllMeant scene bindings M word (lowerings scene.image bindings ps) (matchers scene.image ps) (fitting scene.image ps)
    all_check nil d = All-none
    all_check (cons q qs) d = All-more (checks q d.0) (all_check qs d.1)

    -- a subpattern that may be absent
    pub check? : (s : PatOpt) → OfImage? scene.image s →
        Meant scene bindings M word (lowering? scene.image bindings s) (λ w. matches? scene.image s w) (types_fit? scene.image s)
    check? no d =
        record {
          grows = grows? scene.image bindings no;
          lands = λ t fit ctx c els place w root s fits h r is x env. (looks_passing t).lands ctx c els place w root s fits h r is x env;
        }
    check? (sub s) d = checks s d
