-- Walks in Bind by kinds of patterns: those that name a variant, and paths. Assumes nothing.
use Prim.Native.Nat.{ℕ, ◌<◌}
use mathlib.Core.Path.{◌≡◌, refl, sym, ap, ◌∙◌, subst}
use mathlib.Core.Logic.{◌⊎◌, inl, inr}
use mathlib.Core.Bool.{Bool, true}
use mathlib.Core.Option.{Option, none, some}
use mathlib.Core.List.{List, []}
use borrow.Author.Tests.{eqb-true}
use lib.ListN.{length, get_or}
use Rattle.image.specs.declared.kinds.AdtKind.{AdtKind}
use Rattle.image.specs.Valid.{valid}
use Rattle.image.specs.Lists.{member}
use Rattle.image.specs.Types.{Shape, integer, bool, char, str, tuple, adt, reference, array, slice, unknown, ty_of, variant_of}
use Rattle.image.specs.Tree.{Target, unresolved, variant, local, constant, other}
use Rattle.refusals.specs.declared.MirLowerError.{MirLowerError}
use Rattle.place.specs.declared.Place.{Place}
use Rattle.place.specs.declared.elems.ProjectionElem.{ProjectionElem}
use Rattle.place.specs.declared.place_ty.PlaceTy.{PlaceTy}
use Rattle.mir.specs.declared.BasicBlockId.{BasicBlockId}
use Rattle.lower_spec.specs.Results.{OptBlock}
use Rattle.views.specs.Views.{Path, Mir}
use Rattle.pattern_matching.specs.declared.MatchingMode.{MatchingMode}
use Rattle.pattern_matching.specs.Walking.{Ctx, Out, ok, Lowering, step, project}
use Rattle.pattern_matching.specs.Tests.{constant_path, local_path}
use Rattle.pattern_matching.specs.Variants.{pattern_match_adt, AdtPatternShape, resolved, variant_fields, variant_on, adt_on, pattern_matching_variant, variant_pattern}
use Rattle.pattern_matching.specs.Variants.{record_fields as recordArguments}
use Rattle.pattern_matching.specs.Patterns.{path_pattern}
use Rattle.growth.specs.Opened.{Ready}
use Rattle.growth.proofs.Walks.{not_ok, ok_is}
use Rattle.meaning.specs.Values.{Value, Adt, Values, fields_fit, parts_of, part_at, value_fits}
use Rattle.meaning.specs.Running.{Scene}
use Rattle.meaning.specs.Matching.{bind_all, is_variant, path_matches, match_row, match_fields, row_fields, record_fields, variant_path}
use Rattle.meaning.specs.Typing.{TypeNumber, variant_fields as fields_of}
use Rattle.meaning.specs.Fit.{row_fits, by_fields_fit}
use Rattle.meaning.proofs.Parts.{fields_length, fits_adt}
use Rattle.meaning.proofs.Typed.{enum_choice, variant_fields_lem, struct_one}
use Rattle.meaning.proofs.Children.{Valued, struct_valued, enum_valued}
use Rattle.correctness.specs.Demand2.{place_path}
use Rattle.correctness.proofs.Standing.{Rooted, Stands, stands_onward, stands_as, stepped}
use Rattle.correctness.proofs.Arguments.{accepted}
use Rattle.correctness.proofs.Rows.{fields_there_lem}
use Rattle.correctness.proofs.Permuting.{LocalsApart, Binder, Separate}
use Rattle.correctness.proofs.BindSteps.{Fills}
use Rattle.correctness.proofs.BindingFields.{path_onward, FillsOn, AllCan, can_length, fills_adt, suited_fill}
use Rattle.correctness.proofs.BindingRows.{suited_record, fills_row}
use Rattle.correctness.proofs.BindingKinds.{needed_shape, fills_nothing}

-- a pattern that names a variant and is not refused stands on an ADT that has it
pub adt_taken_lem : (shape : Shape) (image : List ℕ) (p v : ℕ) (args : AdtPatternShape) (mode : MatchingMode) (ctx : Ctx) (c : BasicBlockId) (els : OptBlock) (place : Place) (r : Out) →
    adt_on shape image p v args mode ctx c els place ≡ ok r →
    (kind : AdtKind) × (variants : List ℕ) × (shape ≡ adt kind variants) × (member v variants ≡ true) × (variant_on kind image p v args mode ctx c els place ≡ ok r)
unfolding adt_on
adt_taken_lem (integer size signed) image p v args mode ctx c els place r e = absurd (not_ok e)
adt_taken_lem bool image p v args mode ctx c els place r e = absurd (not_ok e)
adt_taken_lem char image p v args mode ctx c els place r e = absurd (not_ok e)
adt_taken_lem str image p v args mode ctx c els place r e = absurd (not_ok e)
adt_taken_lem (tuple ts) image p v args mode ctx c els place r e = absurd (not_ok e)
adt_taken_lem (adt kind variants) image p v args mode ctx c els place r e = let (m, e₁) = accepted (member v variants) (variant_on kind image p v args mode ctx c els place) (MirLowerError.TypeError 5) p e in (kind, variants, refl, m, e₁)
adt_taken_lem (reference u) image p v args mode ctx c els place r e = absurd (not_ok e)
adt_taken_lem (array u n) image p v args mode ctx c els place r e = absurd (not_ok e)
adt_taken_lem (slice u) image p v args mode ctx c els place r e = absurd (not_ok e)
adt_taken_lem unknown image p v args mode ctx c els place r e = absurd (not_ok e)

-- a struct, or an enum behind the choice of the variant
variant_taken : (kind : AdtKind) (image : List ℕ) (p v : ℕ) (args : AdtPatternShape) (ctx : Ctx) (c : BasicBlockId) (els : OptBlock) (place : Place) (r : Out) →
    variant_on kind image p v args MatchingMode.Bind ctx c els place ≡ ok r →
    ((kind ≡ AdtKind.Struct) × (variant_fields args p (length (variant_of image v).fields) MatchingMode.Bind ctx c els place ≡ ok r))
    ⊎ ((kind ≡ AdtKind.Enum)
    × (step p (project place (ProjectionElem.Downcast v)) (λ place'. variant_fields args p (length (variant_of image v).fields) MatchingMode.Bind ctx c els place') ≡ ok r))
unfolding variant_on
variant_taken AdtKind.Struct image p v args ctx c els place r e = inl (refl, e)
variant_taken AdtKind.Enum image p v args ctx c els place r e = inr (refl, e)
variant_taken AdtKind.Union image p v args ctx c els place r e = absurd (not_ok e)
variant_taken AdtKind.Unknown image p v args ctx c els place r e = absurd (not_ok e)

-- a Record that is not refused names its fields' elements
record_taken_lem : (o : Option (List ProjectionElem)) (p : ℕ) (ls : List Lowering) (mode : MatchingMode) (ctx : Ctx) (c : BasicBlockId) (els : OptBlock) (place : Place) (r : Out) →
    recordArguments o p ls mode ctx c els place ≡ ok r → (elems : List ProjectionElem) × (o ≡ some elems) × (pattern_match_adt p elems ls mode ctx c els place ≡ ok r)
unfolding recordArguments
record_taken_lem none p ls mode ctx c els place r e = absurd (not_ok e)
record_taken_lem (some elems) p ls mode ctx c els place r e = (elems, refl, e)

-- of a value of the variant v
is_variant_lem : (v u : ℕ) (w : Value) {vs : Values} → w ≡ Adt u vs → is_variant (some v) w ≡ true → v ≡ u
unfolding is_variant
is_variant_lem v u w {vs} q e = eqb-true v u (ap (is_variant (some v)) (sym q) ∙ e)

module _ (scene : Scene) (word : ℕ) (bindings : List ℕ) (M : Mir) (holds : valid scene.image ≡ true) where
  -- what the fields of a variant need, on a struct or behind an enum's choice
  pub record FieldsThere (v t : ℕ) (w : Value) (ty : PlaceTy) : Type 0 where
    pub named : fields_of scene.image (ty_of scene.image t).shape (some v) ≡ (variant_of scene.image v).fields
    pub many : length (parts_of w) ≡ length (variant_of scene.image v).fields
    pub valued : (i : ℕ) → i < length (variant_of scene.image v).fields → Valued scene.image ty w (ProjectionElem.Field i) (get_or (variant_of scene.image v).fields i 0)

  -- a pattern that names a variant
  pub fills_variant : (p v : ℕ) (args : AdtPatternShape) (t : ℕ) (w : Value) (b : Binder) → value_fits scene.image w t ≡ true → is_variant (some v) w ≡ true →
      ((ty : PlaceTy) → FieldsThere v t w ty → FillsOn scene word bindings M (variant_fields args p (length (variant_of scene.image v).fields)) ty w b) →
      FillsOn scene word bindings M (pattern_matching_variant scene.image p v args) (PlaceTy.Ty t) w (λ path x. b (variant_path (ty_of scene.image t).shape (some v) path) x)
  unfolding pattern_matching_variant variant_path part_at parts_of
  fills_variant p v args t w b value is f =
      record {
        fill = λ ctx c els place r root ready s e.
            needed_shape scene word bindings M p t w ctx place (λ shape. adt_on shape image p v args MatchingMode.Bind ctx c els place) r root s e (λ shape q e₁.
            let (kind, variants, q₁, m, e₂) = adt_taken_lem shape image p v args MatchingMode.Bind ctx c els place r e₁ in
            by ctx c els place r root ready s kind variants (q ∙ q₁) m (variant_taken kind image p v args ctx c els place r e₂));
      }
    where
      image : List ℕ
      image = scene.image

      by : (ctx : Ctx) (c : BasicBlockId) (els : OptBlock) (place : Place) (r : Out) → Rooted scene word ctx.state → Ready ctx.state c els →
          Stands scene word place (PlaceTy.Ty t) w → (kind : AdtKind) (variants : List ℕ) → (ty_of image t).shape ≡ adt kind variants → member v variants ≡ true →
          ((kind ≡ AdtKind.Struct) × (variant_fields args p (length (variant_of image v).fields) MatchingMode.Bind ctx c els place ≡ ok r))
          ⊎ ((kind ≡ AdtKind.Enum)
          × (step p (project place (ProjectionElem.Downcast v)) (λ place'. variant_fields args p (length (variant_of image v).fields) MatchingMode.Bind ctx c els place') ≡ ok r)) →
          Fills scene bindings M ctx c els (b (variant_path (ty_of image t).shape (some v) (place_path place)) w) r
      by ctx c els place r root ready s kind variants q m (inl (k, e)) =
          let here : (ty_of image t).shape ≡ adt AdtKind.Struct variants = q ∙ ap (λ (x : AdtKind). adt x variants) k in
          let (u, vs, x, h, n, each) = fits_adt image w t AdtKind.Struct variants here value in
          let same : u ≡ v = sym (is_variant_lem v u w x is) in
          let y : w ≡ Adt v vs = x ∙ ap (λ (z : ℕ). Adt z vs) same in
          let fields : fields_fit image vs (variant_of image v).fields ≡ true = rw same at each in
          let there : FieldsThere v t w (PlaceTy.Ty t) =
          record {
            named = variant_fields_lem image v AdtKind.Struct variants (ty_of image t).shape here m;
            many = ap (λ (z : Value). length (parts_of z)) y ∙ fields_length image vs (variant_of image v).fields fields;
            valued = struct_valued image t w v vs variants here (struct_one image t variants v holds s.named here m) y fields;
          } in
          subst (λ (path : Path). Fills scene bindings M ctx c els (b path w) r) (ap (λ (z : Shape). variant_path z (some v) (place_path place)) (sym here))
          ((f (PlaceTy.Ty t) there).fill ctx c els place r root ready s e)
      by ctx c els place r root ready s kind variants q m (inr (k, e)) =
          let here : (ty_of image t).shape ≡ adt AdtKind.Enum variants = q ∙ ap (λ (x : AdtKind). adt x variants) k in
          let (u, vs, x, h, n, each) = fits_adt image w t AdtKind.Enum variants here value in
          let same : u ≡ v = sym (is_variant_lem v u w x is) in
          let y : w ≡ Adt v vs = x ∙ ap (λ (z : ℕ). Adt z vs) same in
          let fields : fields_fit image vs (variant_of image v).fields ≡ true = rw same at each in
          let there : FieldsThere v t w (PlaceTy.Variant t v) =
          record {
            named = variant_fields_lem image v AdtKind.Enum variants (ty_of image t).shape here m;
            many = ap (λ (z : Value). length (parts_of z)) y ∙ fields_length image vs (variant_of image v).fields fields;
            valued = enum_valued image t w v vs y fields;
          } in
          stepped p (project place (ProjectionElem.Downcast v)) _ e (λ place' e₁ e₂.
          subst (λ (path : Path). Fills scene bindings M ctx c els (b path w) r)
          (path_onward place (ProjectionElem.Downcast v) place' tt s.elements e₁ ∙ ap (λ (z : Shape). variant_path z (some v) (place_path place)) (sym here))
          ((f (PlaceTy.Variant t v) there).fill ctx c els place' r root ready
          (stands_as (enum_choice image t v variants here m) (stands_onward (ProjectionElem.Downcast v) place' holds tt s e₁)) e₂))

  -- a TupleStruct
  pub fills_tuple_struct : LocalsApart bindings → (p : ℕ) {ls : List Lowering} {fs : List (TypeNumber → Bool)} {ms : List (Value → Bool)} {bs : List Binder} (ellipsis : Option ℕ) →
      AllCan scene word bindings M ls fs ms bs → Separate bindings bs → (v : Option ℕ) (t : ℕ) (w : Value) → value_fits scene.image w t ≡ true →
      row_fits ellipsis fs (fields_of scene.image (ty_of scene.image t).shape v) ≡ true → is_variant v w ≡ true → match_row ellipsis ms (parts_of w) ≡ true →
      FillsOn scene word bindings M (variant_pattern scene.image p v (AdtPatternShape.Tuple ls ellipsis)) (PlaceTy.Ty t) w
      (λ path x. bind_all bs (row_fields ellipsis (length bs) (length (parts_of x))) (variant_path (ty_of scene.image t).shape v path) x)
  unfolding variant_pattern variant_fields
  fills_tuple_struct apart p ellipsis cs sep none t w value fits is match = record { fill = λ ctx c els place r root ready s e. absurd (not_ok e) }
  fills_tuple_struct apart p {ls} {fs} {ms} {bs} ellipsis cs sep (some v) t w value fits is match =
      fills_variant p v (AdtPatternShape.Tuple ls ellipsis) t w (λ path x. bind_all bs (row_fields ellipsis (length bs) (length (parts_of x))) path x) value is (λ ty there.
      record {
        fill = λ ctx c els place r root ready s e.
            fills_row scene word bindings M ty w holds apart p ellipsis (variant_of scene.image v).fields cs sep there.many there.valued
            (ap (row_fits ellipsis fs) (sym there.named) ∙ fits) match ctx c els place r root ready s e;
      })

  -- a Record
  pub fills_record : (p : ℕ) {ls : List Lowering} {fs : List (TypeNumber → Bool)} {ms : List (Value → Bool)} {bs : List Binder} (fields : List (Option ℕ)) →
      AllCan scene word bindings M ls fs ms bs → (v : Option ℕ) (t : ℕ) (w : Value) → value_fits scene.image w t ≡ true →
      by_fields_fit fields fs (fields_of scene.image (ty_of scene.image t).shape v) ≡ true → is_variant v w ≡ true → match_fields fields ms (parts_of w) ≡ true →
      FillsOn scene word bindings M (variant_pattern scene.image p v (AdtPatternShape.Record fields ls)) (PlaceTy.Ty t) w
      (λ path x. bind_all bs (record_fields fields) (variant_path (ty_of scene.image t).shape v path) x)
  unfolding variant_pattern variant_fields
  fills_record p fields cs none t w value fits is match = record { fill = λ ctx c els place r root ready s e. absurd (not_ok e) }
  fills_record p {ls} {fs} {ms} {bs} fields cs (some v) t w value fits is match =
      let ts = (variant_of scene.image v).fields in
      fills_variant p v (AdtPatternShape.Record fields ls) t w (λ path x. bind_all bs (record_fields fields) path x) value is (λ ty there.
      record {
        fill = λ ctx c els place r root ready s e.
            let (elems, q, e₁) = record_taken_lem (resolved (length ts) fields) p ls MatchingMode.Bind ctx c els place r e in
            let (all, same) = fields_there_lem (length ts) fields elems q in
            let n = can_length scene word bindings M cs in
            let suited = suited_record scene word bindings M ty w fields fs ms ts (n.fits ∙ sym n.matches) there.valued all
            (ap (by_fields_fit fields fs) (sym there.named) ∙ fits) match in
            fills_adt scene word bindings M ty w holds p (record_fields fields) ls bs (suited_fill scene word bindings M ty w (record_fields fields) cs suited) ctx c els place r root ready s
            (subst (λ (xs : List ProjectionElem). pattern_match_adt p xs ls MatchingMode.Bind ctx c els place ≡ ok r) same e₁);
      })

  -- a Path
  pub fills_path : (target : Target) (p t : ℕ) (w : Value) → value_fits scene.image w t ≡ true → path_matches scene.image t target w ≡ true →
      FillsOn scene word bindings M (path_pattern target scene.image bindings p t) (PlaceTy.Ty t) w (λ path v. [])
  unfolding path_pattern path_matches local_path constant_path variant_fields
  fills_path unresolved p t w value match = record { fill = λ ctx c els place r root ready s e. absurd (not_ok e) }
  fills_path (variant v) p t w value match =
      fills_variant p v AdtPatternShape.Unit t w (λ path x. []) value match (λ ty there.
      fills_nothing scene word bindings M (variant_fields AdtPatternShape.Unit p (length (variant_of scene.image v).fields)) ty w (λ ctx c els place r e. ok_is e))
  fills_path (local b) p t w value match =
      fills_nothing scene word bindings M (path_pattern (local b) scene.image bindings p t) (PlaceTy.Ty t) w (λ ctx c els place r e. ok_is e)
  fills_path (constant operand) p t w value match =
      fills_nothing scene word bindings M (path_pattern (constant operand) scene.image bindings p t) (PlaceTy.Ty t) w (λ ctx c els place r e. ok_is e)
  fills_path other p t w value match =
      fills_nothing scene word bindings M (path_pattern other scene.image bindings p t) (PlaceTy.Ty t) w (λ ctx c els place r e. ok_is e)
