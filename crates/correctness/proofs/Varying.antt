-- A pattern that names a variant leads on where the value is of it and its fields match. Assumes nothing.
use Prim.Native.Nat.{ℕ, ◌/◌, ◌<◌}
use mathlib.Core.Path.{◌≡◌, refl, sym, ap, subst, ◌∙◌}
use mathlib.Core.Bool.{Bool, true, false, not, ◌&&◌, ◌||◌, false≢true}
use mathlib.Core.Option.{some}
use mathlib.Core.List.{List, [], ◌∷◌, map}
use borrow.Author.Tests.{eqb-true, eqb-false, eq-eqb, ne_eqb}
use lib.Dec.{eqb}
use lib.ListN.{length, get_or}
use Rattle.image.specs.declared.kinds.AdtKind.{AdtKind}
use Rattle.image.specs.Valid.{valid}
use Rattle.image.specs.Lists.{member, distinct}
use Rattle.image.specs.Types.{adt, ty_of, variant_of}
use Rattle.image.proofs.Bools.{and_left, and_right}
use Rattle.place.specs.declared.Place.{Place}
use Rattle.place.specs.declared.elems.ProjectionElem.{ProjectionElem}
use Rattle.place.specs.declared.place_ty.PlaceTy.{PlaceTy}
use Rattle.mir.specs.declared.BasicBlockId.{BasicBlockId}
use Rattle.lower_spec.specs.Results.{OptBlock}
use Rattle.views.specs.Views.{Mir, mir_of}
use Rattle.views.specs.Growing.{GoesOn}
use Rattle.pattern_matching.specs.declared.MatchingMode.{MatchingMode}
use Rattle.pattern_matching.specs.Walking.{Ctx, Out, ok, project}
use Rattle.pattern_matching.specs.Variants.{place_ty, AdtPatternShape, variant_fields, discriminant_test, variant_on, adt_on, pattern_matching_variant}
use Rattle.growth.specs.Opened.{Ready, Leaves}
use Rattle.growth.proofs.Walks.{not_ok, walked}
use Rattle.growth.proofs.Testing.{good_discriminant}
use Rattle.growth.proofs.Fields.{ShapeGrows, grows_fields}
use Rattle.meaning.specs.Values.{Value, Values, Adt, items, parts_of, part_at, value_fits, fields_fit}
use Rattle.meaning.specs.Running.{Env, Scene, discriminant_of}
use Rattle.meaning.specs.Matching.{is_variant}
use Rattle.meaning.specs.Fit.{discriminants_differ}
use Rattle.meaning.proofs.Parts.{fields_length, fits_adt}
use Rattle.meaning.proofs.Typed.{enum_choice, struct_one}
use Rattle.meaning.proofs.Children.{struct_valued, enum_valued}
use Rattle.correctness.proofs.Walking.{Lands}
use Rattle.correctness.proofs.Landing.{lands_both}
use Rattle.correctness.proofs.Standing.{Rooted, Stands, stands_typed, stands_as, stands_onward, stepped}
use Rattle.correctness.proofs.Lengths.{lands_discriminant}
use Rattle.correctness.proofs.Arguments.{Reached, before, rooted_after}
use Rattle.correctness.proofs.Parting.{needed_is, adt_on_lem}

-- one of the two holds
or_cases : {C : Type 0} (a b : Bool) → a || b ≡ true → (a ≡ true → C) → (b ≡ true → C) → C
or_cases true b e f g = f refl
or_cases false b e f g = g e

-- the second is enough
or_right : (a b : Bool) → b ≡ true → a || b ≡ true
or_right true b e = refl
or_right false b e = e

-- what stands in a list stands mapped in the mapped list
member_map : (g : ℕ → ℕ) (a : ℕ) (xs : List ℕ) → member a xs ≡ true → member (g a) (map g xs) ≡ true
unfolding member
member_map g a [] e = absurd (false≢true e)
member_map g a (x ∷ xs) e = by (eqb a x) refl (λ h. member_map g a xs h) e
  where
    by : (b : Bool) → eqb a x ≡ b → (member a xs ≡ true → member (g a) (map g xs) ≡ true) → b || member a xs ≡ true → eqb (g a) (g x) || member (g a) (map g xs) ≡ true
    by true q f e = ap (λ (b : Bool). b || member (g a) (map g xs)) (eq-eqb (g a) (g x) (ap g (eqb-true a x q)))
    by false q f e = or_right (eqb (g a) (g x)) (member (g a) (map g xs)) (f e)

-- what is mapped to different numbers is told apart by them
told_apart : (g : ℕ → ℕ) (a b : ℕ) (xs : List ℕ) → distinct (map g xs) ≡ true → member a xs ≡ true → member b xs ≡ true → g a ≡ g b → a ≡ b
unfolding distinct member
told_apart g a b [] d ma mb e = absurd (false≢true ma)
told_apart g a b (x ∷ xs) d ma mb e =
    let new : not (member (g x) (map g xs)) ≡ true = and_left (not (member (g x) (map g xs))) (distinct (map g xs)) d in
    let rest : distinct (map g xs) ≡ true = and_right (not (member (g x) (map g xs))) (distinct (map g xs)) d in
    or_cases (eqb a x) (member a xs) ma
    (λ p. or_cases (eqb b x) (member b xs) mb (λ q. eqb-true a x p ∙ sym (eqb-true b x q))
    (λ q. absurd (clash (g x) (g b) (map g xs) new (ap g (sym (eqb-true a x p)) ∙ e) (member_map g b xs q))))
    (λ p. or_cases (eqb b x) (member b xs) mb
    (λ q. absurd (clash (g x) (g a) (map g xs) new (ap g (sym (eqb-true b x q)) ∙ sym e) (member_map g a xs p)))
    (λ q. told_apart g a b xs rest p q e))
  where
    clash : (y z : ℕ) (l : List ℕ) → not (member y l) ≡ true → y ≡ z → member z l ≡ true → ⊥
    clash y z l n e m = by (member y l) n (ap (λ (k : ℕ). member k l) e ∙ m)
      where
        by : (b : Bool) → not b ≡ true → b ≡ true → ⊥
        by true n m = false≢true n
        by false n m = false≢true m

-- discriminants that differ tell the variants
discriminant_tells : (g : ℕ → ℕ) (v x : ℕ) (xs : List ℕ) → distinct (map g xs) ≡ true → member v xs ≡ true → member x xs ≡ true → eqb (g x) (g v) ≡ eqb v x
discriminant_tells g v x xs d mv mx = by (eqb v x) refl
  where
    by : (b : Bool) → eqb v x ≡ b → eqb (g x) (g v) ≡ b
    by true q = eq-eqb (g x) (g v) (ap g (sym (eqb-true v x q)))
    by false q = ne_eqb (g x) (g v) (λ e. eqb-false v x q (sym (told_apart g x v xs d mx mv e)))

-- whether a value is of a variant
variant_is : (v x : ℕ) (vs : Values) (w : Value) → w ≡ Adt x vs → is_variant (some v) w ≡ eqb v x
unfolding is_variant
variant_is v x vs w q = rw q

-- its discriminant
discriminant_is : (image : List ℕ) (x : ℕ) (vs : Values) (w : Value) → w ≡ Adt x vs → discriminant_of image w ≡ (variant_of image x).discriminant
unfolding discriminant_of
discriminant_is image x vs w q = rw q

-- its fields
parts_are : (x : ℕ) (vs : Values) (w : Value) → w ≡ Adt x vs → parts_of w ≡ items vs
unfolding parts_of
parts_are x vs w q = rw q

-- the fields of the variant v lead where `inner` says, on any place where they lie
abbrev pub FieldsLead : Scene → List ℕ → Mir → ℕ → ℕ → ℕ → AdtPatternShape → Value → Bool → Type 0
FieldsLead scene bindings M word p v args w inner =
    (ctx : Ctx) (c : BasicBlockId) (els : OptBlock) (place : Place) (ty : PlaceTy) →
    ((i : ℕ) → i < length (variant_of scene.image v).fields → Reached scene.image ty w (ProjectionElem.Field i) (get_or (variant_of scene.image v).fields i 0)) →
    length (parts_of w) ≡ length (variant_of scene.image v).fields → Rooted scene word ctx.state → Stands scene word place ty w → Ready ctx.state c els → (r : Out) →
    variant_fields args p (length (variant_of scene.image v).fields) MatchingMode.Check ctx c els place ≡ ok r → GoesOn (mir_of r.ctx.state) M → (env : Env) →
    Lands scene bindings M ctx c.0 env [] r inner

module _ {scene : Scene} {bindings : List ℕ} {M : Mir} {word : ℕ} (p v t : ℕ) (args : AdtPatternShape) (holds : valid scene.image ≡ true) (g : ShapeGrows args) (w : Value)
    (fits : value_fits scene.image w t ≡ true) (inner : Bool) (fields : FieldsLead scene bindings M word p v args w inner) (ctx : Ctx) (c : BasicBlockId) (els : OptBlock) (place : Place)
    (root : Rooted scene word ctx.state) (s : Stands scene word place (PlaceTy.Ty t) w) (h : Ready ctx.state c els) (r : Out) where
  -- a struct
  struct_walk : (variants : List ℕ) → (ty_of scene.image t).shape ≡ adt AdtKind.Struct variants → member v variants ≡ true →
      variant_fields args p (length (variant_of scene.image v).fields) MatchingMode.Check ctx c els place ≡ ok r → GoesOn (mir_of r.ctx.state) M → (env : Env) →
      Lands scene bindings M ctx c.0 env [] r (is_variant (some v) w && inner)
  struct_walk variants e m is x env =
      let (y, vs, q, hv, my, ff) = fits_adt scene.image w t AdtKind.Struct variants e fits in
      let one = struct_one scene.image t variants v holds s.named e m in
      let same : y ≡ v = sym (struct_one scene.image t variants y holds s.named e my) ∙ one in
      let is-v : w ≡ Adt v vs = q ∙ ap (λ (k : ℕ). Adt k vs) same in
      let ff-v : fields_fit scene.image vs (variant_of scene.image v).fields ≡ true = subst (λ (k : ℕ). fields_fit scene.image vs (variant_of scene.image k).fields ≡ true) same ff in
      subst (λ (b : Bool). Lands scene bindings M ctx c.0 env [] r (b && inner)) (sym (variant_is v v vs w is-v ∙ eq-eqb v v refl))
      (fields ctx c els place (PlaceTy.Ty t) (λ i k. (struct_valued scene.image t w v vs variants e one is-v ff-v i k, tt))
      (ap length (parts_are v vs w is-v) ∙ fields_length scene.image vs (variant_of scene.image v).fields ff-v) root s h r is x env)

  -- an enum
  enum_walk : (variants : List ℕ) → (ty_of scene.image t).shape ≡ adt AdtKind.Enum variants → member v variants ≡ true →
      distinct (map (λ k. (variant_of scene.image k).discriminant) variants) ≡ true → (variant_of scene.image v).discriminant / 18446744073709551616 < 18446744073709551616 →
      variant_on AdtKind.Enum scene.image p v args MatchingMode.Check ctx c els place ≡ ok r → GoesOn (mir_of r.ctx.state) M → (env : Env) →
      Lands scene bindings M ctx c.0 env [] r (is_variant (some v) w && inner)
  unfolding variant_on part_at
  enum_walk variants e m d small is x env =
      let (y, vs, q, hv, my, ff) = fits_adt scene.image w t AdtKind.Enum variants e fits in
      let told : eqb (discriminant_of scene.image w) (variant_of scene.image v).discriminant ≡ is_variant (some v) w =
      ap (λ (k : ℕ). eqb k (variant_of scene.image v).discriminant) (discriminant_is scene.image y vs w q)
      ∙ discriminant_tells (λ k. (variant_of scene.image k).discriminant) v y variants d m my ∙ sym (variant_is v y vs w q) in
      walked (discriminant_test scene.image p v ctx c els place) _ is (λ r₁ e₁ is₁.
      stepped p (project place (ProjectionElem.Downcast v)) _ is₁ (λ place' e₂ is₂.
      let k : Leaves ctx.state c els r₁ = (good_discriminant scene.image p v ctx c els place).leaves h r₁ e₁ in
      let k' : Leaves r₁.ctx.state r₁.then r₁.else r =
      (grows_fields args p (length (variant_of scene.image v).fields) g MatchingMode.Check r₁.ctx r₁.then r₁.else place').leaves k.ready r is₂ in
      lands_both r₁ r h k k'
      (subst (λ (b : Bool). Lands scene bindings M ctx c.0 env [] r₁ b) told (lands_discriminant p ctx c els v r₁ h s small e₁ (before r₁ r k k' x) env))
      (λ env b.
      let same : v ≡ y = eqb-true v y (sym (variant_is v y vs w q) ∙ b) in
      let is-v : w ≡ Adt v vs = q ∙ ap (λ (n : ℕ). Adt n vs) (sym same) in
      let ff-v : fields_fit scene.image vs (variant_of scene.image v).fields ≡ true = subst (λ (n : ℕ). fields_fit scene.image vs (variant_of scene.image n).fields ≡ true) (sym same) ff in
      fields r₁.ctx r₁.then r₁.else place' (PlaceTy.Variant t v) (λ i j. (enum_valued scene.image t w v vs is-v ff-v i j, tt))
      (ap length (parts_are v vs w is-v) ∙ fields_length scene.image vs (variant_of scene.image v).fields ff-v) (rooted_after r₁ k root)
      (stands_as (enum_choice scene.image t v variants e m) (stands_onward (ProjectionElem.Downcast v) place' holds tt s e₂)) k.ready r is₂ x env)))

  -- a variant of a struct or of an enum
  pub lands_variant : discriminants_differ scene.image (ty_of scene.image t).shape ≡ true → (variant_of scene.image v).discriminant / 18446744073709551616 < 18446744073709551616 →
      pattern_matching_variant scene.image p v args MatchingMode.Check ctx c els place ≡ ok r → GoesOn (mir_of r.ctx.state) M → (env : Env) →
      Lands scene bindings M ctx c.0 env [] r (is_variant (some v) w && inner)
  unfolding pattern_matching_variant variant_on discriminants_differ
  lands_variant d small is x env =
      let is₁ : adt_on (ty_of scene.image t).shape scene.image p v args MatchingMode.Check ctx c els place ≡ ok r =
      needed_is p scene.image (place_ty scene.image ctx.state place) t (λ shape. adt_on shape scene.image p v args MatchingMode.Check ctx c els place) (stands_typed ctx.state root s) is in
      let (kind, variants, e, m, is₂) = adt_on_lem (ty_of scene.image t).shape scene.image p v args MatchingMode.Check ctx c els place r is₁ in
      by kind variants e m is₂ d
    where
      by : (kind : AdtKind) (variants : List ℕ) → (ty_of scene.image t).shape ≡ adt kind variants → member v variants ≡ true →
          variant_on kind scene.image p v args MatchingMode.Check ctx c els place ≡ ok r → discriminants_differ scene.image (ty_of scene.image t).shape ≡ true →
          Lands scene bindings M ctx c.0 env [] r (is_variant (some v) w && inner)
      by AdtKind.Struct variants e m is d = struct_walk variants e m is x env
      by AdtKind.Enum variants e m is d = enum_walk variants e m (rw e at d) small is x env
      by AdtKind.Union variants e m is d = absurd (not_ok is)
      by AdtKind.Unknown variants e m is d = absurd (not_ok is)
