-- Each kind of pattern, behind its derefs: where its walk in Check leads, if its subpatterns' lead as they mean. Assumes nothing.
use Rattle.std.specs.Prelude.{None}
use Prim.Native.Nat.{ℕ, ◌/◌, ◌<◌}
use mathlib.Core.Path.{◌≡◌, refl, sym, ap, subst, ◌∙◌}
use mathlib.Core.Bool.{Bool, true, false, ◌&&◌}
use mathlib.Core.Option.{Option, none, some}
use mathlib.Core.List.{List, [], ◌∷◌, map}
use lib.ListN.{length}
use Rattle.image.specs.declared.kinds.BindingMode.{BindingMode}
use Rattle.image.specs.declared.kinds.OperandKind.{OperandKind}
use Rattle.image.specs.Valid.{valid}
use Rattle.image.specs.Types.{Shape, ty_of, variant_of, Operand}
use Rattle.image.proofs.Bools.{and_left, and_right}
use Rattle.refusals.specs.Refusals.{done}
use Rattle.place.specs.declared.Place.{Place}
use Rattle.place.specs.declared.elems.ProjectionElem.{ProjectionElem}
use Rattle.place.specs.declared.place_ty.PlaceTy.{PlaceTy}
use Rattle.mir.specs.declared.BasicBlockId.{BasicBlockId}
use Rattle.mir.specs.declared.rvalues.Constant.{Constant}
use Rattle.mir.specs.declared.rvalues.BinOp.{BinOp}
use Rattle.lower_spec.specs.Results.{OptBlock}
use Rattle.literals.specs.Literals.{lower_literal_to_operand, lower_const_to_operand, lower_literal_or_const_to_operand}
use Rattle.views.specs.Views.{Mir, mir_of}
use Rattle.views.specs.Growing.{GoesOn}
use Rattle.views.proofs.ReadBack.{Small}
use Rattle.pattern_matching.specs.declared.MatchingMode.{MatchingMode}
use Rattle.pattern_matching.specs.Walking.{Ctx, Out, Walk, ok, refused, Lowering, next, project}
use Rattle.pattern_matching.specs.Tests.{literal, lit_by, constant_path, range_end?}
use Rattle.pattern_matching.specs.Variants.{place_ty, tuple_on, tuple_pattern, ref_on, ref_pattern, AdtPatternShape, variant_fields, adt_on, pattern_matching_variant}
use Rattle.pattern_matching.specs.Patterns.{passing, or_pattern, end_op, range_pattern, bind_pattern}
use Rattle.growth.specs.Opened.{Ready, Leaves}
use Rattle.growth.proofs.Walks.{not_ok, walked}
use Rattle.growth.proofs.Testing.{good_range_end}
use Rattle.cases_spec.specs.Cases.{referent, tuple_fields}
use Rattle.meaning.specs.Values.{Value, parts_of, part_at, value_fits}
use Rattle.meaning.specs.Running.{Env, Scene, constant_value, same_value, both, scalar_of, not_above, compared}
use Rattle.meaning.specs.Matching.{operand_value, operand_value?, from_start, to_end, match_row, match_fields, is_variant}
use Rattle.meaning.specs.Typing.{TypeNumber, variant_fields as fieldsOfVariant}
use Rattle.meaning.specs.Fit.{discriminants_differ, row_fits, by_fields_fit, items_all_fit}
use Rattle.meaning.proofs.Parts.{fields_length, fits_tuple}
use Rattle.meaning.proofs.Typed.{variant_fields_lem}
use Rattle.meaning.proofs.Children.{tuple_valued, deref_valued}
use Rattle.correctness.proofs.Walking.{Lands}
use Rattle.correctness.proofs.Landing.{lands_both}
use Rattle.correctness.proofs.Standing.{Rooted, rooted_more, Stands, stands_typed, stands_as, stands_onward, stepped}
use Rattle.correctness.proofs.TestsLead.{lands_const, lands_end, lands_constant}
use Rattle.correctness.proofs.Rows.{and_all}
use Rattle.correctness.proofs.Arguments.{lands_here, before, Meant, AllMeant, nil, cons, meant_grow}
use Rattle.correctness.proofs.Choosing.{any_of, first_where, Choices, nil as no-choice, cons as and-choice}
use Rattle.correctness.proofs.Joined.{lands_or}
use Rattle.correctness.proofs.Parting.{needed_is, tuple_on_lem, ref_on_lem, adt_on_lem, lands_fields, lands_record}
use Rattle.correctness.proofs.Varying.{lands_variant}

-- In Check, a lowering leads every value of the type u at its place where m says
pub record Looks (scene : Scene) (bindings : List ℕ) (M : Mir) (word : ℕ) (l : Lowering) (m : Value → Bool) (u : ℕ) : Type 0 where
  pub lands : (ctx : Ctx) (c : BasicBlockId) (els : OptBlock) (place : Place) (w : Value) → Rooted scene word ctx.state → Stands scene word place (PlaceTy.Ty u) w →
      value_fits scene.image w u ≡ true → Ready ctx.state c els → (r : Out) → l MatchingMode.Check ctx c els place ≡ ok r → GoesOn (mir_of r.ctx.state) M → (env : Env) →
      Lands scene bindings M ctx c.0 env [] r (m w)

-- what a literal's constant, a range end's and an evaluated constant's are worth
abbrev pub LiteralIs : List ℕ → ℕ → Operand → Type 0
LiteralIs image t o = (k : Constant) → lower_literal_to_operand image t o ≡ done k → (constant_value image k ≡ operand_value image t o) × Small k

abbrev pub EndIs : List ℕ → ℕ → Option Operand → Type 0
EndIs image t none = Unit {0}
EndIs image t (some o) = (k : Constant) → lower_literal_or_const_to_operand image t o ≡ done k → (constant_value image k ≡ operand_value image t o) × Small k

-- a Lit that is walked is a literal
lit_on : (kind : OperandKind) (image : List ℕ) (p t : ℕ) (o : Operand) (ctx : Ctx) (c : BasicBlockId) (els : OptBlock) (place : Place) (r : Out) →
    lit_by kind image p t o MatchingMode.Check ctx c els place ≡ ok r → literal image p t o MatchingMode.Check ctx c els place ≡ ok r
unfolding lit_by
lit_on OperandKind.Int image p t o ctx c els place r is = is
lit_on OperandKind.Uint image p t o ctx c els place r is = is
lit_on OperandKind.Char image p t o ctx c els place r is = is
lit_on OperandKind.Bool image p t o ctx c els place r is = is
lit_on OperandKind.Str image p t o ctx c els place r is = is
lit_on OperandKind.CStr image p t o ctx c els place r is = is
lit_on OperandKind.ByteStr image p t o ctx c els place r is = is
lit_on OperandKind.Constant image p t o ctx c els place r is = absurd (not_ok is)
lit_on OperandKind.Float image p t o ctx c els place r is = is
lit_on OperandKind.Other image p t o ctx c els place r is = absurd (not_ok is)
lit_on OperandKind.Unknown image p t o ctx c els place r is = absurd (not_ok is)

-- a walk, handed on
handed : (w : Walk Out) (r : Out) → next w (λ y. ok y) ≡ ok r → w ≡ ok r
handed (ok y) r is = is
handed (refused e p) r is = is

-- of alternatives that bind nothing the first binds nothing
none_bound : (ms : List (Value → Bool)) (w : Value) → first_where (map (λ m. m w) ms) (map (λ m. []) ms) ≡ []
unfolding first_where
none_bound [] w = refl
none_bound (m ∷ ms) w = by (m w) (none_bound ms w)
  where
    by : (b : Bool) → first_where (map (λ m. m w) ms) (map (λ m. []) ms) ≡ [] → first_where (b ∷ map (λ m. m w) ms) ([] ∷ map (λ m. []) ms) ≡ []
    by true e = refl
    by false e = e

module _ {scene : Scene} {bindings : List ℕ} {M : Mir} {word : ℕ} where
  -- nothing to test
  pub looks_passing : (u : ℕ) → Looks scene bindings M word passing (λ w. true) u
  looks_passing u = record { lands = λ ctx c els place w root s fits h r is x env. lands_here ctx c els r env h.inside is }

  -- a literal
  pub looks_lit : (p u : ℕ) (o : Operand) → LiteralIs scene.image u o →
      Looks scene bindings M word (lit_by o.kind scene.image p u o) (λ w. same_value (operand_value scene.image u o) w) u
  unfolding literal compared
  looks_lit p u o worth =
      record {
        lands = λ ctx c els place w root s fits h r is x env.
            stepped p (lower_literal_to_operand scene.image u o) _ (lit_on o.kind scene.image p u o ctx c els place r is) (λ k e₁ is₁.
            subst (λ (v : Value). Lands scene bindings M ctx c.0 env [] r (same_value v w)) (worth k e₁).0 (lands_const p ctx c els k r h s (worth k e₁).1 is₁ x env));
      }

  -- a constant path
  pub looks_constant : (p u : ℕ) (o : Operand) → constant_value scene.image (lower_const_to_operand u o) ≡ operand_value scene.image u o → Small (lower_const_to_operand u o) →
      Looks scene bindings M word (constant_path scene.image p u o) (λ w. same_value (operand_value scene.image u o) w) u
  unfolding compared
  looks_constant p u o worth small =
      record { lands = λ ctx c els place w root s fits h r is x env. lands_constant p ctx c els u o (operand_value scene.image u o) r h s worth small is x env }

  -- one end of a range, if there is one
  start_lands : (p u : ℕ) (o : Option Operand) → EndIs scene.image u o → (ctx : Ctx) (c : BasicBlockId) (els : OptBlock) (place : Place) (ty : PlaceTy) (w : Value) →
      Stands scene word place ty w → Ready ctx.state c els → (r : Out) → range_end? scene.image p u BinOp.Le o ctx c els place ≡ ok r → GoesOn (mir_of r.ctx.state) M → (env : Env) →
      Lands scene bindings M ctx c.0 env [] r (from_start (operand_value? scene.image u o) w)
  unfolding range_end? from_start compared
  start_lands p u none worth ctx c els place ty w s h r is x env = lands_here ctx c els r env h.inside is
  start_lands p u (some o) worth ctx c els place ty w s h r is x env = lands_end p ctx c els u BinOp.Le o (operand_value scene.image u o) r h s worth is x env

  -- the other end of a range, if there is one
  end_lands : (p u : ℕ) (o : Option Operand) (halfOpen : Bool) → EndIs scene.image u o → (ctx : Ctx) (c : BasicBlockId) (els : OptBlock) (place : Place) (ty : PlaceTy) (w : Value) →
      Stands scene word place ty w → Ready ctx.state c els → (r : Out) → range_end? scene.image p u (end_op halfOpen) o ctx c els place ≡ ok r → GoesOn (mir_of r.ctx.state) M → (env : Env) →
      Lands scene bindings M ctx c.0 env [] r (to_end (operand_value? scene.image u o) halfOpen w)
  unfolding range_end? end_op to_end compared
  end_lands p u none halfOpen worth ctx c els place ty w s h r is x env = lands_here ctx c els r env h.inside is
  end_lands p u (some o) true worth ctx c els place ty w s h r is x env = lands_end p ctx c els u BinOp.Gt o (operand_value scene.image u o) r h s worth is x env
  end_lands p u (some o) false worth ctx c els place ty w s h r is x env =
      let v = operand_value scene.image u o in
      subst (λ (b : Bool). Lands scene bindings M ctx c.0 env [] r b) (sym (and_all (both not_above (scalar_of w) (scalar_of v)))) (lands_end p ctx c els u BinOp.Ge o v r h s worth is x env)

  -- a Range: one end after the other
  pub looks_range : (p u : ℕ) (start end : Option Operand) (halfOpen : Bool) → EndIs scene.image u start → EndIs scene.image u end →
      Looks scene bindings M word (range_pattern scene.image p u start end halfOpen)
      (λ w. from_start (operand_value? scene.image u start) w && to_end (operand_value? scene.image u end) halfOpen w) u
  unfolding range_pattern
  looks_range p u start end halfOpen first last =
      record {
        lands = λ ctx c els place w root s fits h r is x env.
            walked (range_end? scene.image p u BinOp.Le start ctx c els place) _ is (λ r₁ e₁ is₁.
            let q : Leaves ctx.state c els r₁ = (good_range_end scene.image p u BinOp.Le start ctx c els place).leaves h r₁ e₁ in
            let q' : Leaves r₁.ctx.state r₁.then r₁.else r = (good_range_end scene.image p u (end_op halfOpen) end r₁.ctx r₁.then r₁.else place).leaves q.ready r is₁ in
            lands_both r₁ r h q q'
            (start_lands p u start first ctx c els place (PlaceTy.Ty u) w s h r₁ e₁ (before r₁ r q q' x) env)
            (λ env _. end_lands p u end halfOpen last r₁.ctx r₁.then r₁.else place (PlaceTy.Ty u) w s q.ready r is₁ x env));
      }

  -- a Bind: its subpattern
  pub looks_bind : (p b u : ℕ) (how : BindingMode) (l : Lowering) (m : Value → Bool) (f : TypeNumber → Bool) → Meant scene bindings M word l m f → f (some u) ≡ true →
      Looks scene bindings M word (bind_pattern bindings p b how l) m u
  unfolding bind_pattern
  looks_bind p b u how l m f a fit =
      record {
        lands = λ ctx c els place w root s fits h r is x env.
            a.lands u fit ctx c els place w root s fits h r (handed (l MatchingMode.Check ctx c els place) r is) x env;
      }

  module _ (holds : valid scene.image ≡ true) where
    -- a Ref: its subpattern, one reference on
    pub looks_ref : (p u : ℕ) (l : Lowering) (m : Value → Bool) (f : TypeNumber → Bool) → Meant scene bindings M word l m f → f (referent (ty_of scene.image u).shape) ≡ true →
        Looks scene bindings M word (ref_pattern scene.image p l) (λ w. m (part_at ProjectionElem.Deref w)) u
    unfolding ref_pattern referent
    looks_ref p u l m f a fit =
        record {
          lands = λ ctx c els place w root s fits h r is x env.
              let is₁ : ref_on (ty_of scene.image u).shape p l MatchingMode.Check ctx c els place ≡ ok r =
              needed_is p scene.image (place_ty scene.image ctx.state place) u (λ shape. ref_on shape p l MatchingMode.Check ctx c els place) (stands_typed ctx.state root s) is in
              let (t, e, is₂) = ref_on_lem (ty_of scene.image u).shape p l MatchingMode.Check ctx c els place r is₁ in
              let (typed, valued) = deref_valued scene.image u w t e fits in
              stepped p (project place ProjectionElem.Deref) _ is₂ (λ place' e₃ is₃.
              a.lands t (subst (λ (y : Shape). f (referent y) ≡ true) e fit) ctx c els place' (part_at ProjectionElem.Deref w) root
              (stands_as typed (stands_onward ProjectionElem.Deref place' holds tt s e₃)) valued h r is₃ x env);
        }

    module _ {ls : List Lowering} {ms : List (Value → Bool)} {fs : List (TypeNumber → Bool)} (p u : ℕ) (a : AllMeant scene bindings M word ls ms fs) where
      -- a Tuple
      pub looks_tuple : (ellipsis : Option ℕ) → row_fits ellipsis fs (tuple_fields (ty_of scene.image u).shape) ≡ true →
          Looks scene bindings M word (tuple_pattern scene.image p ls ellipsis) (λ w. match_row ellipsis ms (parts_of w)) u
      unfolding tuple_pattern tuple_fields parts_of
      looks_tuple ellipsis fit =
          record {
            lands = λ ctx c els place w root s fits h r is x env.
                let is₁ : tuple_on (ty_of scene.image u).shape p ls ellipsis MatchingMode.Check ctx c els place ≡ ok r =
                needed_is p scene.image (place_ty scene.image ctx.state place) u (λ shape. tuple_on shape p ls ellipsis MatchingMode.Check ctx c els place) (stands_typed ctx.state root s) is in
                let (ts, e, is₂) = tuple_on_lem (ty_of scene.image u).shape p ls ellipsis MatchingMode.Check ctx c els place r is₁ in
                let (vs, q, each) = fits_tuple scene.image w u ts e fits in
                let n : length (parts_of w) ≡ length ts = ap (λ (y : Value). length (parts_of y)) q ∙ fields_length scene.image vs ts each in
                lands_fields p holds a ts ctx c els place (PlaceTy.Ty u) w (λ i k. (tuple_valued scene.image u w ts e fits i k, tt)) root s h r ellipsis n
                (subst (λ (y : Shape). row_fits ellipsis fs (tuple_fields y) ≡ true) e fit) is₂ x env;
          }

      -- alternatives as choices at a place
      choices : {ls : List Lowering} {ms : List (Value → Bool)} {fs : List (TypeNumber → Bool)} → AllMeant scene bindings M word ls ms fs → items_all_fit fs (some u) ≡ true →
          (place : Place) (w : Value) → Stands scene word place (PlaceTy.Ty u) w → value_fits scene.image w u ≡ true →
          Choices (λ ctx. Rooted scene word ctx.state) scene bindings M MatchingMode.Check place ls (map (λ m. m w) ms) (map (λ m. []) ms)
      unfolding items_all_fit
      choices nil fit place w s fits = no-choice
      choices {ls = l ∷ ls} {ms = m ∷ ms} {fs = f ∷ fs} (cons y a) fit place w s fits =
          and-choice (record {
            grows = y.grows;
            lands = λ ctx c root h r is x env.
                y.lands u (and_left (f (some u)) (items_all_fit fs (some u)) fit) ctx c None place w root s fits h r (handed (l MatchingMode.Check ctx c None place) r is) x env;
          }) (choices a (and_right (f (some u)) (items_all_fit fs (some u)) fit) place w s fits)

      -- an Or
      pub looks_or : items_all_fit fs (some u) ≡ true → Looks scene bindings M word (or_pattern p ls) (λ w. any_of (map (λ m. m w) ms)) u
      looks_or fit =
          record {
            lands = λ ctx c els place w root s fits h r is x env.
                subst (λ y. Lands scene bindings M ctx c.0 env y r (any_of (map (λ m. m w) ms))) (none_bound ms w)
                (lands_or (λ ctx ctx₁ c k root. rooted_more scene word ctx.state ctx₁.state k.more_locals k.locals root) p (choices a fit place w s fits) ctx c els root h r is x env);
          }

      -- a variant with arguments in a row
      pub looks_variant_row : (v : ℕ) (ellipsis : Option ℕ) → discriminants_differ scene.image (ty_of scene.image u).shape ≡ true →
          (variant_of scene.image v).discriminant / 18446744073709551616 < 18446744073709551616 →
          row_fits ellipsis fs (fieldsOfVariant scene.image (ty_of scene.image u).shape (some v)) ≡ true →
          Looks scene bindings M word (pattern_matching_variant scene.image p v (AdtPatternShape.Tuple ls ellipsis)) (λ w. is_variant (some v) w && match_row ellipsis ms (parts_of w)) u
      unfolding pattern_matching_variant variant_fields
      looks_variant_row v ellipsis d small fit =
          record {
            lands = λ ctx c els place w root s fits h r is x env.
                let args = AdtPatternShape.Tuple ls ellipsis in
                let (kind, variants, e, m, is₂) = adt_on_lem (ty_of scene.image u).shape scene.image p v args MatchingMode.Check ctx c els place r
                (needed_is p scene.image (place_ty scene.image ctx.state place) u (λ shape. adt_on shape scene.image p v args MatchingMode.Check ctx c els place) (stands_typed ctx.state root s) is) in
                lands_variant p v u args holds (meant_grow a) w fits (match_row ellipsis ms (parts_of w))
                (λ ctx c els place ty at n root s h r is x env. lands_fields p holds a (variant_of scene.image v).fields ctx c els place ty w at root s h r ellipsis n
                (subst (λ (ts : List ℕ). row_fits ellipsis fs ts ≡ true) (variant_fields_lem scene.image v kind variants (ty_of scene.image u).shape e m) fit) is x env)
                ctx c els place root s h r d small is x env;
          }

      -- a variant with arguments by fields
      pub looks_variant_fields : (v : ℕ) (fields : List (Option ℕ)) → discriminants_differ scene.image (ty_of scene.image u).shape ≡ true →
          (variant_of scene.image v).discriminant / 18446744073709551616 < 18446744073709551616 →
          by_fields_fit fields fs (fieldsOfVariant scene.image (ty_of scene.image u).shape (some v)) ≡ true →
          Looks scene bindings M word (pattern_matching_variant scene.image p v (AdtPatternShape.Record fields ls)) (λ w. is_variant (some v) w && match_fields fields ms (parts_of w)) u
      unfolding pattern_matching_variant variant_fields
      looks_variant_fields v fields d small fit =
          record {
            lands = λ ctx c els place w root s fits h r is x env.
                let args = AdtPatternShape.Record fields ls in
                let (kind, variants, e, m, is₂) = adt_on_lem (ty_of scene.image u).shape scene.image p v args MatchingMode.Check ctx c els place r
                (needed_is p scene.image (place_ty scene.image ctx.state place) u (λ shape. adt_on shape scene.image p v args MatchingMode.Check ctx c els place) (stands_typed ctx.state root s) is) in
                lands_variant p v u args holds (meant_grow a) w fits (match_fields fields ms (parts_of w))
                (λ ctx c els place ty at n root s h r is x env. lands_record p holds a (variant_of scene.image v).fields ctx c els place ty w at root s h r fields
                (subst (λ (ts : List ℕ). by_fields_fit fields fs ts ≡ true) (variant_fields_lem scene.image v kind variants (ty_of scene.image u).shape e m) fit) is x env)
                ctx c els place root s h r d small is x env;
          }

    -- a variant that a path names
    pub looks_unit : (p u v : ℕ) → discriminants_differ scene.image (ty_of scene.image u).shape ≡ true →
        (variant_of scene.image v).discriminant / 18446744073709551616 < 18446744073709551616 →
        Looks scene bindings M word (pattern_matching_variant scene.image p v AdtPatternShape.Unit) (λ w. is_variant (some v) w) u
    unfolding variant_fields
    looks_unit p u v d small =
        record {
          lands = λ ctx c els place w root s fits h r is x env.
              subst (λ (b : Bool). Lands scene bindings M ctx c.0 env [] r b) (and_all (is_variant (some v) w))
              (lands_variant p v u AdtPatternShape.Unit holds tt w fits true (λ ctx c els place ty at n root s h r is x env. lands_here ctx c els r env h.inside is)
              ctx c els place root s h r d small is x env);
        }
