-- Tuples, references and the fields of variants lead where their arguments do. Assumes nothing.
use Prim.Native.Nat.{ℕ, ◌-◌, ◌<◌}
use mathlib.Core.Path.{◌≡◌, refl, sym, ap, ap₂, subst, ◌∙◌}
use mathlib.Core.Bool.{Bool, true, ◌&&◌}
use mathlib.Core.Option.{Option, none, some}
use mathlib.Core.List.{List, [], reverse}
use lib.ListN.{length, get_or, take, drop}
use Rattle.image.specs.declared.kinds.AdtKind.{AdtKind}
use Rattle.image.specs.Valid.{valid}
use Rattle.image.specs.Lists.{member}
use Rattle.image.specs.Types.{Shape, integer, bool, char, str, tuple, adt, reference, array, slice, unknown, ty_of}
use Rattle.image.proofs.Bools.{and_left}
use Rattle.refusals.specs.declared.MirLowerError.{MirLowerError}
use Rattle.place.specs.declared.Place.{Place}
use Rattle.place.specs.declared.elems.ProjectionElem.{ProjectionElem}
use Rattle.place.specs.declared.place_ty.PlaceTy.{PlaceTy}
use Rattle.mir.specs.declared.BasicBlockId.{BasicBlockId}
use Rattle.lower_spec.specs.Results.{OptBlock}
use Rattle.views.specs.Views.{Mir, mir_of}
use Rattle.views.specs.Growing.{GoesOn}
use Rattle.pattern_matching.specs.declared.MatchingMode.{MatchingMode}
use Rattle.pattern_matching.specs.Walking.{Ctx, Out, Walk, ok, Lowering, step, project}
use Rattle.pattern_matching.specs.Variants.{shape_of, needed, fields_up_to, pattern_match_tuple_like, ellipsis_at, tuple_on, ref_on, AdtPatternShape, resolved, record_fields, variant_on, adt_on}
use Rattle.growth.specs.Opened.{Ready}
use Rattle.growth.proofs.Walks.{not_ok}
use Rattle.meaning.specs.Values.{Value, parts_of}
use Rattle.meaning.specs.Running.{Env, Scene}
use Rattle.meaning.specs.Matching.{match_row, match_fields}
use Rattle.meaning.specs.Typing.{TypeNumber}
use Rattle.meaning.specs.Fit.{arguments_fit, row_fits, by_fields_fit, each_fits}
use Rattle.meaning.proofs.Children.{Placed, ellipsis_place, row_placed, record_placed}
use Rattle.correctness.proofs.Walking.{Lands}
use Rattle.correctness.proofs.Standing.{Rooted, Stands}
use Rattle.correctness.proofs.Rows.{zip_match, zip_row, zip_fields, fields_there_lem}
use Rattle.correctness.proofs.Arguments.{AllMeant, meant_count, Reached, lands_adt, lands_row, accepted}

-- where a place's type is needed and the place has one of the table
pub needed_is : (p : ℕ) (image : List ℕ) (ty : PlaceTy) (t : ℕ) (k : Shape → Walk Out) {r : Out} → ty ≡ PlaceTy.Ty t → needed p (shape_of image ty) k ≡ ok r →
    k (ty_of image t).shape ≡ ok r
unfolding shape_of
needed_is p image ty t k e is = rw e at is

-- only a tuple is taken apart as one
pub tuple_on_lem : (shape : Shape) (p : ℕ) (args : List Lowering) (ellipsis : Option ℕ) (mode : MatchingMode) (ctx : Ctx) (c : BasicBlockId) (els : OptBlock) (place : Place) (r : Out) →
    tuple_on shape p args ellipsis mode ctx c els place ≡ ok r →
    (ts : List ℕ) × (shape ≡ tuple ts) × (pattern_match_tuple_like p args (ellipsis_at ellipsis args) (length ts) mode ctx c els place ≡ ok r)
unfolding tuple_on
tuple_on_lem (integer size signed) p args ellipsis mode ctx c els place r is = absurd (not_ok is)
tuple_on_lem bool p args ellipsis mode ctx c els place r is = absurd (not_ok is)
tuple_on_lem char p args ellipsis mode ctx c els place r is = absurd (not_ok is)
tuple_on_lem str p args ellipsis mode ctx c els place r is = absurd (not_ok is)
tuple_on_lem (tuple ts) p args ellipsis mode ctx c els place r is = (ts, refl, is)
tuple_on_lem (adt kind variants) p args ellipsis mode ctx c els place r is = absurd (not_ok is)
tuple_on_lem (reference t) p args ellipsis mode ctx c els place r is = absurd (not_ok is)
tuple_on_lem (array t n) p args ellipsis mode ctx c els place r is = absurd (not_ok is)
tuple_on_lem (slice t) p args ellipsis mode ctx c els place r is = absurd (not_ok is)
tuple_on_lem unknown p args ellipsis mode ctx c els place r is = absurd (not_ok is)

-- only a reference is followed
pub ref_on_lem : (shape : Shape) (p : ℕ) (under : Lowering) (mode : MatchingMode) (ctx : Ctx) (c : BasicBlockId) (els : OptBlock) (place : Place) (r : Out) →
    ref_on shape p under mode ctx c els place ≡ ok r →
    (u : ℕ) × (shape ≡ reference u) × (step p (project place ProjectionElem.Deref) (λ place'. under mode ctx c els place') ≡ ok r)
unfolding ref_on
ref_on_lem (integer size signed) p under mode ctx c els place r is = absurd (not_ok is)
ref_on_lem bool p under mode ctx c els place r is = absurd (not_ok is)
ref_on_lem char p under mode ctx c els place r is = absurd (not_ok is)
ref_on_lem str p under mode ctx c els place r is = absurd (not_ok is)
ref_on_lem (tuple ts) p under mode ctx c els place r is = absurd (not_ok is)
ref_on_lem (adt kind variants) p under mode ctx c els place r is = absurd (not_ok is)
ref_on_lem (reference u) p under mode ctx c els place r is = (u, refl, is)
ref_on_lem (array t n) p under mode ctx c els place r is = absurd (not_ok is)
ref_on_lem (slice t) p under mode ctx c els place r is = absurd (not_ok is)
ref_on_lem unknown p under mode ctx c els place r is = absurd (not_ok is)

-- only an ADT that has it is taken apart as a variant
pub adt_on_lem : (shape : Shape) (image : List ℕ) (p v : ℕ) (args : AdtPatternShape) (mode : MatchingMode) (ctx : Ctx) (c : BasicBlockId) (els : OptBlock) (place : Place) (r : Out) →
    adt_on shape image p v args mode ctx c els place ≡ ok r →
    (kind : AdtKind) × (variants : List ℕ) × (shape ≡ adt kind variants) × (member v variants ≡ true) × (variant_on kind image p v args mode ctx c els place ≡ ok r)
unfolding adt_on
adt_on_lem (integer size signed) image p v args mode ctx c els place r is = absurd (not_ok is)
adt_on_lem bool image p v args mode ctx c els place r is = absurd (not_ok is)
adt_on_lem char image p v args mode ctx c els place r is = absurd (not_ok is)
adt_on_lem str image p v args mode ctx c els place r is = absurd (not_ok is)
adt_on_lem (tuple ts) image p v args mode ctx c els place r is = absurd (not_ok is)
adt_on_lem (adt kind variants) image p v args mode ctx c els place r is =
    let (m, w) = accepted (member v variants) (variant_on kind image p v args mode ctx c els place) (MirLowerError.TypeError 5) p is in
    (kind, variants, refl, m, w)
adt_on_lem (reference u) image p v args mode ctx c els place r is = absurd (not_ok is)
adt_on_lem (array t n) image p v args mode ctx c els place r is = absurd (not_ok is)
adt_on_lem (slice t) image p v args mode ctx c els place r is = absurd (not_ok is)
adt_on_lem unknown image p v args mode ctx c els place r is = absurd (not_ok is)

-- as many arguments as a row has, or no more with an ellipsis
row_arguments : (ellipsis : Option ℕ) (fs : List (TypeNumber → Bool)) (ts : List ℕ) → row_fits ellipsis fs ts ≡ true → arguments_fit ellipsis (length fs) (length ts) ≡ true
unfolding row_fits
row_arguments none fs ts e = and_left (arguments_fit none (length fs) (length ts)) (each_fits fs ts) e
row_arguments (some k) fs ts e =
    let few = arguments_fit (some k) (length fs) (length ts) in
    let front = each_fits (take k fs) ts in
    and_left few front (and_left (few && front) (each_fits (drop k fs) (drop (length ts - (length fs - k)) ts)) e)

-- where the ellipsis stands
ellipsis_place_lem : (ellipsis : Option ℕ) (args : List Lowering) → ellipsis_at ellipsis args ≡ ellipsis_place ellipsis (length args)
unfolding ellipsis_at
ellipsis_place_lem none args = refl
ellipsis_place_lem (some k) args = refl

module _ {scene : Scene} {bindings : List ℕ} {M : Mir} {word : ℕ} {ls : List Lowering} {ms : List (Value → Bool)} {fs : List (TypeNumber → Bool)} (p : ℕ) (holds : valid scene.image ≡ true)
    (a : AllMeant scene bindings M word ls ms fs) (ts : List ℕ) (ctx : Ctx) (c : BasicBlockId) (els : OptBlock) (place : Place) (ty : PlaceTy) (w : Value)
    (at : (i : ℕ) → i < length ts → Reached scene.image ty w (ProjectionElem.Field i) (get_or ts i 0)) (root : Rooted scene word ctx.state) (s : Stands scene word place ty w)
    (h : Ready ctx.state c els) (r : Out) where
  -- arguments in a row on fields with these types
  pub lands_fields : (ellipsis : Option ℕ) → length (parts_of w) ≡ length ts → row_fits ellipsis fs ts ≡ true →
      pattern_match_tuple_like p ls (ellipsis_at ellipsis ls) (length ts) MatchingMode.Check ctx c els place ≡ ok r → GoesOn (mir_of r.ctx.state) M → (env : Env) →
      Lands scene bindings M ctx c.0 env [] r (match_row ellipsis ms (parts_of w))
  lands_fields ellipsis n fits is x env =
      let (as-ms, as-fs) = meant_count a in
      let here = ellipsis_place ellipsis (length ms) in
      let same : ellipsis_at ellipsis ls ≡ here = ellipsis_place_lem ellipsis ls ∙ ap (ellipsis_place ellipsis) as-ms in
      let also : ellipsis_place ellipsis (length fs) ≡ here = ap (ellipsis_place ellipsis) (sym as-fs ∙ as-ms) in
      let (front, back) = row_placed (Reached scene.image ty w) ellipsis fs ts at fits in
      let args : arguments_fit ellipsis (length ms) (length (parts_of w)) ≡ true =
      ap₂ (λ (x y : ℕ). arguments_fit ellipsis x y) (sym as-ms ∙ as-fs) n ∙ row_arguments ellipsis fs ts fits in
      subst (λ (b : Bool). Lands scene bindings M ctx c.0 env [] r b)
      (ap (λ (k : ℕ). zip_match (fields_up_to k) (take here ms) w && zip_match (reverse (fields_up_to k)) (reverse (drop here ms)) w) (sym n) ∙ zip_row ellipsis ms w args)
      (lands_row p here (length ts) holds a ctx c els place ty w
      (subst (λ (k : ℕ). Placed (Reached scene.image ty w) (fields_up_to (length ts)) (take k fs)) also front)
      (subst (λ (k : ℕ). Placed (Reached scene.image ty w) (reverse (fields_up_to (length ts))) (reverse (drop k fs))) also back) root s h r
      (ap (λ (k : ℕ). pattern_match_tuple_like p ls k (length ts) MatchingMode.Check ctx c els place) (sym same) ∙ is) x env)

  -- arguments by fields, resolved or not
  record_walk : (fields : List (Option ℕ)) (elems : Option (List ProjectionElem)) → resolved (length ts) fields ≡ elems → by_fields_fit fields fs ts ≡ true →
      record_fields elems p ls MatchingMode.Check ctx c els place ≡ ok r → GoesOn (mir_of r.ctx.state) M → (env : Env) →
      Lands scene bindings M ctx c.0 env [] r (match_fields fields ms (parts_of w))
  unfolding record_fields
  record_walk fields none e fits is x env = absurd (not_ok is)
  record_walk fields (some elems) e fits is x env =
      let (there, named) = fields_there_lem (length ts) fields elems e in
      subst (λ (b : Bool). Lands scene bindings M ctx c.0 env [] r b)
      (ap (λ (es : List ProjectionElem). zip_match es ms w) named ∙ zip_fields fields (length ts) ms w there)
      (lands_adt p elems holds a ctx c els place ty w
      (subst (λ (es : List ProjectionElem). Placed (Reached scene.image ty w) es fs) (sym named) (record_placed (Reached scene.image ty w) fields fs ts at there fits)) root s h r is x env)

  -- arguments by fields
  pub lands_record : (fields : List (Option ℕ)) → by_fields_fit fields fs ts ≡ true → record_fields (resolved (length ts) fields) p ls MatchingMode.Check ctx c els place ≡ ok r →
      GoesOn (mir_of r.ctx.state) M → (env : Env) → Lands scene bindings M ctx c.0 env [] r (match_fields fields ms (parts_of w))
  lands_record fields fits is x env = record_walk fields (resolved (length ts) fields) refl fits is x env
