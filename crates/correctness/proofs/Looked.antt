-- Paths, variants and slices in Check, with what an image gives of their operands and discriminants. Assumes nothing.
use Prim.Native.Nat.{ℕ, ◌+◌, ◌-◌, ◌<◌}
use native.Mathlib.Omega.{arith}
use mathlib.Core.Path.{◌≡◌, refl, subst}
use mathlib.Core.Bool.{Bool, true, ◌&&◌}
use mathlib.Core.Option.{Option, none, some}
use mathlib.Core.List.{List, []}
use lib.ListN.{length, drop}
use Rattle.image.specs.Tables.{type_count}
use Rattle.image.specs.Valid.{valid}
use Rattle.image.specs.Types.{Shape, integer, bool, char, str, tuple, adt, reference, array, slice, unknown, ty_of, Operand}
use Rattle.image.specs.Tree.{Target, unresolved, variant, local, constant, other, PatOpt}
use Rattle.place.specs.declared.Place.{Place}
use Rattle.mir.specs.declared.BasicBlockId.{BasicBlockId}
use Rattle.lower_spec.specs.Results.{OptBlock}
use Rattle.views.specs.Views.{Mir}
use Rattle.pattern_matching.specs.declared.MatchingMode.{MatchingMode}
use Rattle.pattern_matching.specs.Walking.{Ctx, Out, ok, Lowering, visited}
use Rattle.pattern_matching.specs.Tests.{local_path}
use Rattle.pattern_matching.specs.Variants.{AdtPatternShape, variant_pattern}
use Rattle.pattern_matching.specs.Slices.{slice_on}
use Rattle.pattern_matching.specs.Patterns.{path_pattern, rest_of}
use Rattle.growth.proofs.Walks.{not_ok}
use Rattle.meaning.specs.Values.{Value, parts_of}
use Rattle.meaning.specs.Running.{Env, Scene}
use Rattle.meaning.specs.Matching.{is_variant, path_matches, match_row, match_fields, long_enough, match_all}
use Rattle.meaning.specs.Typing.{TypeNumber, element_type, variant_fields}
use Rattle.meaning.specs.Fit.{items_fit, discriminants_differ, end_fits?, path_fits, row_fits, by_fields_fit, items_all_fit}
use Rattle.meaning.proofs.Cutting.{Bytes}
use Rattle.meaning.proofs.Constants.{constant_worth, end_worth, type_sized}
use Rattle.correctness.proofs.Walking.{Lands, on, off}
use Rattle.correctness.proofs.Halving.{constant_small, end_small}
use Rattle.correctness.proofs.OfImages.{Drawn?, OfTarget, discriminant_small}
use Rattle.correctness.proofs.Slicing.{lands_slice}
use Rattle.correctness.proofs.Looks.{Looks, EndIs, looks_constant, looks_variant_row, looks_variant_fields, looks_unit}
use Rattle.correctness.proofs.Arguments.{AllMeant}

-- a walk that is refused does not matter
pub looks_refused : {scene : Scene} {bindings : List ℕ} {M : Mir} {word : ℕ} (l : Lowering) (m : Value → Bool) (u : ℕ) →
    ((ctx : Ctx) (c : BasicBlockId) (els : OptBlock) (place : Place) (r : Out) → l MatchingMode.Check ctx c els place ≡ ok r → ⊥) → Looks scene bindings M word l m u
looks_refused l m u no_way = record { lands = λ ctx c els place w root s fits h r is x env. absurd (no_way ctx c els place r is) }

-- what a lowering means, told otherwise
pub looks_as : {scene : Scene} {bindings : List ℕ} {M : Mir} {word : ℕ} {l : Lowering} {m : Value → Bool} (m' : Value → Bool) {u : ℕ} → ((w : Value) → m w ≡ m' w) →
    Looks scene bindings M word l m u → Looks scene bindings M word l m' u
looks_as {scene} {bindings} {M} m' e a =
    record {
      lands = λ ctx c els place w root s fits h r is x env.
          subst (λ (b : Bool). Lands scene bindings M ctx c.0 env [] r b) (e w) (a.lands ctx c els place w root s fits h r is x env);
    }

-- a visit does not change the state
pub unvisited : {scene : Scene} {bindings : List ℕ} {M : Mir} (ctx : Ctx) (p c : ℕ) (env : Env) (r : Out) (b : Bool) → Lands scene bindings M (visited ctx p) c env [] r b →
    Lands scene bindings M ctx c env [] r b
unfolding visited
unvisited ctx p c env r _ (on w) = on (record { env' = w.env'; entered = w.entered; run = w.run; locals = w.locals; trail = w.trail })
unvisited ctx p c env r _ (off e i w) = off e i (record { env' = w.env'; entered = w.entered; run = w.run; locals = w.locals; trail = w.trail })

-- what is neither an array nor a slice is refused
slice_refused : (shape : Shape) (image bindings : List ℕ) (p : ℕ) (ls ks : List Lowering) (rest : PatOpt) (ctx : Ctx) (c : BasicBlockId) (els : OptBlock) (place : Place) (r : Out) →
    element_type shape ≡ none → slice_on shape image bindings p ls (rest_of rest) ks MatchingMode.Check ctx c els place ≡ ok r → ⊥
unfolding element_type slice_on
slice_refused (integer size signed) image bindings p ls ks rest ctx c els place r e is = not_ok is
slice_refused bool image bindings p ls ks rest ctx c els place r e is = not_ok is
slice_refused char image bindings p ls ks rest ctx c els place r e is = not_ok is
slice_refused str image bindings p ls ks rest ctx c els place r e is = not_ok is
slice_refused (tuple ts) image bindings p ls ks rest ctx c els place r e is = not_ok is
slice_refused (adt kind variants) image bindings p ls ks rest ctx c els place r e is = not_ok is
slice_refused (reference t) image bindings p ls ks rest ctx c els place r e is = not_ok is
slice_refused (array t n) image bindings p ls ks rest ctx c els place r e is = let z : ◌≡◌ {A = ℕ} 0 1 = cc in omega arith
slice_refused (slice t) image bindings p ls ks rest ctx c els place r e is = let z : ◌≡◌ {A = ℕ} 0 1 = cc in omega arith
slice_refused unknown image bindings p ls ks rest ctx c els place r e is = not_ok is

-- a Slice: its items at the end from the last on
pub looks_slice : {scene : Scene} {bindings : List ℕ} {M : Mir} {word : ℕ} {ls ks : List Lowering} {ms ns : List (Value → Bool)} {fs gs : List (TypeNumber → Bool)} (p u : ℕ) →
    valid scene.image ≡ true → AllMeant scene bindings M word ls ms fs → AllMeant scene bindings M word ks ns gs → (rest : PatOpt) →
    items_fit (ty_of scene.image u).shape rest (length fs + length gs) ≡ true → items_all_fit fs (element_type (ty_of scene.image u).shape) ≡ true →
    items_all_fit gs (element_type (ty_of scene.image u).shape) ≡ true → length ls + length ks < 18446744073709551616 →
    Looks scene bindings M word (slice_on (ty_of scene.image u).shape scene.image bindings p ls (rest_of rest) ks)
    (λ w. long_enough rest (length ms + length ns) (length (parts_of w)) && match_all ms (parts_of w) && match_all ns (drop (length (parts_of w) - length ns) (parts_of w))) u
looks_slice {scene} {bindings} {M} {word} {ls} {ks} {ms} {ns} {fs} {gs} p u holds a z rest items front back small = by (element_type (ty_of scene.image u).shape) refl
  where
    by : (y : TypeNumber) → element_type (ty_of scene.image u).shape ≡ y → Looks scene bindings M word (slice_on (ty_of scene.image u).shape scene.image bindings p ls (rest_of rest) ks)
        (λ w. long_enough rest (length ms + length ns) (length (parts_of w)) && match_all ms (parts_of w) && match_all ns (drop (length (parts_of w) - length ns) (parts_of w))) u
    by none e = looks_refused _ _ u (λ ctx c els place r is. slice_refused (ty_of scene.image u).shape scene.image bindings p ls ks rest ctx c els place r e is)
    by (some t) e =
        record {
          lands = λ ctx c els place w root s fits h r is x env.
              lands_slice p u t holds a z w rest e (subst (λ (y : TypeNumber). items_all_fit fs y ≡ true) e front) (subst (λ (y : TypeNumber). items_all_fit gs y ≡ true) e back) fits
              ctx c els place root s h r small items is x env;
        }

-- the end of a range
pub end_is : (image : List ℕ) (u : ℕ) (o : Option Operand) → valid image ≡ true → u < type_count image → Drawn? image o → end_fits? (ty_of image u).shape o ≡ true → EndIs image u o
end_is image u none holds few d fit = tt
end_is image u (some o) holds few d fit =
    let sized = type_sized image u holds few in
    λ k e. (end_worth image u o sized d.lies fit e, end_small image u sized o d k fit e)

-- a path's target, a range's end and a variant that may be absent
module _ {scene : Scene} {bindings : List ℕ} {M : Mir} {word : ℕ} (holds : valid scene.image ≡ true) (bytes : Bytes scene.image) where
  -- a Path by what it names
  pub looks_path : (p u : ℕ) (target : Target) → OfTarget scene.image target → path_fits scene.image (ty_of scene.image u).shape target ≡ true →
      Looks scene bindings M word (path_pattern target scene.image bindings p u) (λ w. path_matches scene.image u target w) u
  unfolding path_pattern path_matches path_fits local_path
  looks_path p u unresolved d fit = looks_refused _ _ u (λ ctx c els place r is. not_ok is)
  looks_path p u (variant v) d fit = looks_unit holds p u v fit (discriminant_small scene.image v bytes)
  looks_path p u (local b) d fit = looks_refused _ _ u (λ ctx c els place r is. not_ok is)
  looks_path p u (constant o) d fit =
      record {
        lands = λ ctx c els place w root s fits h r is x env.
            let sized = type_sized scene.image u holds s.named in
            (looks_constant p u o (constant_worth scene.image u o sized d.0.lies d.1 fit) (constant_small scene.image u sized o d.0 d.1)
            ).lands ctx c els place w root s fits h r is x env;
      }
  looks_path p u other d fit = looks_refused _ _ u (λ ctx c els place r is. not_ok is)

  module _ {ls : List Lowering} {ms : List (Value → Bool)} {fs : List (TypeNumber → Bool)} (p u : ℕ) (a : AllMeant scene bindings M word ls ms fs)
      (d : discriminants_differ scene.image (ty_of scene.image u).shape ≡ true) where
    -- a TupleStruct
    pub looks_tuple_struct : (v ellipsis : Option ℕ) → row_fits ellipsis fs (variant_fields scene.image (ty_of scene.image u).shape v) ≡ true →
        Looks scene bindings M word (variant_pattern scene.image p v (AdtPatternShape.Tuple ls ellipsis)) (λ w. is_variant v w && match_row ellipsis ms (parts_of w)) u
    unfolding variant_pattern
    looks_tuple_struct none ellipsis fit = looks_refused _ _ u (λ ctx c els place r is. not_ok is)
    looks_tuple_struct (some v) ellipsis fit = looks_variant_row holds p u a v ellipsis d (discriminant_small scene.image v bytes) fit

    -- a Record
    pub looks_record : (v : Option ℕ) (fields : List (Option ℕ)) → by_fields_fit fields fs (variant_fields scene.image (ty_of scene.image u).shape v) ≡ true →
        Looks scene bindings M word (variant_pattern scene.image p v (AdtPatternShape.Record fields ls)) (λ w. is_variant v w && match_fields fields ms (parts_of w)) u
    unfolding variant_pattern
    looks_record none fields fit = looks_refused _ _ u (λ ctx c els place r is. not_ok is)
    looks_record (some v) fields fit = looks_variant_fields holds p u a v fields d (discriminant_small scene.image v bytes) fit
