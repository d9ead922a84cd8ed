-- Walks in Bind by kinds of patterns: those that bind nothing, tuples, references and bindings. Assumes nothing.
use Prim.Native.Nat.{ℕ, zero, suc}
use mathlib.Core.Path.{◌≡◌, refl, sym, ap, ◌∙◌, subst}
use mathlib.Core.Bool.{Bool, true}
use mathlib.Core.Option.{Option, some}
use mathlib.Core.List.{List, [], ◌∷◌, ◌++◌}
use lib.ListN.{length}
use Rattle.image.specs.declared.kinds.BindingMode.{BindingMode}
use Rattle.image.specs.declared.kinds.OperandKind.{OperandKind}
use Rattle.image.specs.Valid.{valid}
use Rattle.image.specs.Types.{Shape, integer, bool, char, str, tuple, adt, reference, array, slice, unknown, ty_of, Operand}
use Rattle.place.specs.declared.Place.{Place}
use Rattle.place.specs.declared.elems.ProjectionElem.{ProjectionElem}
use Rattle.place.specs.declared.place_ty.PlaceTy.{PlaceTy}
use Rattle.mir.specs.declared.BasicBlockId.{BasicBlockId}
use Rattle.lower_spec.specs.Results.{OptBlock}
use Rattle.views.specs.Views.{Path, Mir}
use Rattle.pattern_matching.specs.declared.MatchingMode.{MatchingMode}
use Rattle.pattern_matching.specs.Walking.{Ctx, Out, Walk, ok, Lowering, step, project, visited, derefed, entered}
use Rattle.pattern_matching.specs.Tests.{literal, lit_by}
use Rattle.pattern_matching.specs.Variants.{place_ty, shape_of, needed, pattern_match_tuple_like, ellipsis_at, tuple_on, tuple_pattern, ref_on, ref_pattern}
use Rattle.pattern_matching.specs.Patterns.{range_pattern, bind_pattern}
use Rattle.growth.proofs.Walks.{not_ok, ok_is, walked}
use Rattle.cases_spec.specs.Cases.{tuple_fields}
use Rattle.meaning.specs.Values.{Value, parts_of, part_at, value_fits}
use Rattle.meaning.specs.Running.{Scene}
use Rattle.meaning.specs.Matching.{onto, crossed, crossed_path, bound_as, bind_all, match_row, row_fields}
use Rattle.meaning.specs.Typing.{TypeNumber}
use Rattle.meaning.specs.Fit.{behind, row_fits}
use Rattle.meaning.proofs.Parts.{fields_length, fits_tuple}
use Rattle.meaning.proofs.Crossing.{behind_first}
use Rattle.meaning.proofs.Typed.{deref_type}
use Rattle.meaning.proofs.Children.{tuple_valued}
use Rattle.correctness.specs.Demand2.{place_path}
use Rattle.correctness.proofs.Standing.{Rooted, Stands, stands_typed, stands_onward, stands_as, stepped}
use Rattle.correctness.proofs.Permuting.{LocalsApart, Binder, Separate}
use Rattle.correctness.proofs.BindSteps.{Fills, fills_here, fills_seq, fills_visited, fills_binding}
use Rattle.correctness.proofs.BindingFields.{path_onward, FillsOn, AllCan}
use Rattle.correctness.proofs.BindingRows.{fills_row}

-- references crossed: behind them lies what the pattern looks at, on the place behind them
crossing_path : {C : Type 0} {scene : Scene} {word : ℕ} {place : Place} {t : ℕ} {w : Value} (p n u : ℕ) (k : Place → Walk Out) (r : Out) → valid scene.image ≡ true →
    Stands scene word place (PlaceTy.Ty t) w → behind scene.image n (some t) ≡ some u → derefed p place k n ≡ ok r →
    ((place' : Place) → Stands scene word place' (PlaceTy.Ty u) (crossed n w) → place_path place' ≡ crossed_path n (place_path place) → k place' ≡ ok r → C) → C
unfolding derefed behind crossed crossed_path
crossing_path {place} {t} p zero u k r holds s b e f = let same : t ≡ u = cc in f place (stands_as (ap PlaceTy.Ty same) s) refl e
crossing_path {C} {scene} {place} {t} p (suc n) u k r holds s b e f =
    let (x, q, rest) = behind_first scene.image n t u b in
    stepped p (project place ProjectionElem.Deref) (λ place'. derefed p place' k n) e (λ place' e₁ e₂.
    crossing_path {place = place'} p n u k r holds (stands_as (deref_type scene.image t x q) (stands_onward ProjectionElem.Deref place' holds tt s e₁)) rest e₂
    (λ place'' s' path e₃. f place'' s' (path ∙ ap (crossed_path n) (path_onward place ProjectionElem.Deref place' tt s.elements e₁)) e₃))

-- a Tuple that is not refused stands on a tuple
pub tuple_taken_lem : (shape : Shape) (p : ℕ) (ls : List Lowering) (ellipsis : Option ℕ) (mode : MatchingMode) (ctx : Ctx) (c : BasicBlockId) (els : OptBlock) (place : Place) (r : Out) →
    tuple_on shape p ls ellipsis mode ctx c els place ≡ ok r →
    (ts : List ℕ) × (shape ≡ tuple ts) × (pattern_match_tuple_like p ls (ellipsis_at ellipsis ls) (length ts) mode ctx c els place ≡ ok r)
unfolding tuple_on
tuple_taken_lem (integer size signed) p ls ellipsis mode ctx c els place r e = absurd (not_ok e)
tuple_taken_lem bool p ls ellipsis mode ctx c els place r e = absurd (not_ok e)
tuple_taken_lem char p ls ellipsis mode ctx c els place r e = absurd (not_ok e)
tuple_taken_lem str p ls ellipsis mode ctx c els place r e = absurd (not_ok e)
tuple_taken_lem (tuple ts) p ls ellipsis mode ctx c els place r e = (ts, refl, e)
tuple_taken_lem (adt kind variants) p ls ellipsis mode ctx c els place r e = absurd (not_ok e)
tuple_taken_lem (reference u) p ls ellipsis mode ctx c els place r e = absurd (not_ok e)
tuple_taken_lem (array u n) p ls ellipsis mode ctx c els place r e = absurd (not_ok e)
tuple_taken_lem (slice u) p ls ellipsis mode ctx c els place r e = absurd (not_ok e)
tuple_taken_lem unknown p ls ellipsis mode ctx c els place r e = absurd (not_ok e)

-- a Ref that is not refused stands on a reference
pub ref_taken : (shape : Shape) (p : ℕ) (l : Lowering) (mode : MatchingMode) (ctx : Ctx) (c : BasicBlockId) (els : OptBlock) (place : Place) (r : Out) →
    ref_on shape p l mode ctx c els place ≡ ok r →
    (u : ℕ) × (shape ≡ reference u) × (step p (project place ProjectionElem.Deref) (λ place'. l mode ctx c els place') ≡ ok r)
unfolding ref_on
ref_taken (integer size signed) p l mode ctx c els place r e = absurd (not_ok e)
ref_taken bool p l mode ctx c els place r e = absurd (not_ok e)
ref_taken char p l mode ctx c els place r e = absurd (not_ok e)
ref_taken str p l mode ctx c els place r e = absurd (not_ok e)
ref_taken (tuple ts) p l mode ctx c els place r e = absurd (not_ok e)
ref_taken (adt kind variants) p l mode ctx c els place r e = absurd (not_ok e)
ref_taken (reference u) p l mode ctx c els place r e = (u, refl, e)
ref_taken (array u n) p l mode ctx c els place r e = absurd (not_ok e)
ref_taken (slice u) p l mode ctx c els place r e = absurd (not_ok e)
ref_taken unknown p l mode ctx c els place r e = absurd (not_ok e)

-- a literal that is not refused does nothing in Bind
lit_taken : (kind : OperandKind) (image : List ℕ) (p t : ℕ) (operand : Operand) (ctx : Ctx) (c : BasicBlockId) (els : OptBlock) (place : Place) (r : Out) →
    lit_by kind image p t operand MatchingMode.Bind ctx c els place ≡ ok r → record { ctx = ctx; then = c; else = els } ≡ r
unfolding lit_by literal
lit_taken OperandKind.Int image p t operand ctx c els place r e = ok_is e
lit_taken OperandKind.Uint image p t operand ctx c els place r e = ok_is e
lit_taken OperandKind.Char image p t operand ctx c els place r e = ok_is e
lit_taken OperandKind.Bool image p t operand ctx c els place r e = ok_is e
lit_taken OperandKind.Str image p t operand ctx c els place r e = ok_is e
lit_taken OperandKind.CStr image p t operand ctx c els place r e = ok_is e
lit_taken OperandKind.ByteStr image p t operand ctx c els place r e = ok_is e
lit_taken OperandKind.Constant image p t operand ctx c els place r e = absurd (not_ok e)
lit_taken OperandKind.Float image p t operand ctx c els place r e = ok_is e
lit_taken OperandKind.Other image p t operand ctx c els place r e = absurd (not_ok e)
lit_taken OperandKind.Unknown image p t operand ctx c els place r e = absurd (not_ok e)

module _ (scene : Scene) (word : ℕ) (bindings : List ℕ) (M : Mir) where
  -- a pattern is entered
  pub fills_entered : valid scene.image ≡ true → (p n : ℕ) (l : Lowering) (t u : ℕ) (w : Value) (b : Binder) → behind scene.image n (some t) ≡ some u →
      FillsOn scene word bindings M l (PlaceTy.Ty u) (crossed n w) b → FillsOn scene word bindings M (entered p n l) (PlaceTy.Ty t) w (λ path v. b (crossed_path n path) (crossed n v))
  unfolding entered visited
  fills_entered holds p n l t u w b q f =
      record {
        fill = λ ctx c els place r root ready s e.
            crossing_path p n u (l MatchingMode.Bind (visited ctx p) c els) r holds s q e (λ place' s' path e₁.
            fills_visited p r (subst (λ (x : Path). Fills scene bindings M (visited ctx p) c els (b x (crossed n w)) r) path (f.fill (visited ctx p) c els place' r root ready s' e₁)));
      }

  -- a lowering that does nothing in Bind, or refuses
  pub fills_nothing : (l : Lowering) (ty : PlaceTy) (w : Value) →
      ((ctx : Ctx) (c : BasicBlockId) (els : OptBlock) (place : Place) (r : Out) → l MatchingMode.Bind ctx c els place ≡ ok r → record { ctx = ctx; then = c; else = els } ≡ r) →
      FillsOn scene word bindings M l ty w (λ path v. [])
  fills_nothing l ty w k =
      record { fill = λ ctx c els place r root ready s e. subst (λ (x : Out). Fills scene bindings M ctx c els [] x) (k ctx c els place r e) (fills_here ctx c els ready) }

  -- the type of a place that is needed is that of the place
  pub needed_shape : {C : Type 0} (p t : ℕ) (w : Value) (ctx : Ctx) (place : Place) (k : Shape → Walk Out) (r : Out) → Rooted scene word ctx.state →
      Stands scene word place (PlaceTy.Ty t) w → needed p (shape_of scene.image (place_ty scene.image ctx.state place)) k ≡ ok r →
      ((shape : Shape) → (ty_of scene.image t).shape ≡ shape → k shape ≡ ok r → C) → C
  unfolding shape_of
  needed_shape p t w ctx place k r root s e f = f (ty_of scene.image t).shape refl (rw (stands_typed ctx.state root s) at e)

  -- a Tuple
  pub fills_tuple : valid scene.image ≡ true → LocalsApart bindings → (p : ℕ) {ls : List Lowering} {fs : List (TypeNumber → Bool)} {ms : List (Value → Bool)} {bs : List Binder}
      (ellipsis : Option ℕ) → AllCan scene word bindings M ls fs ms bs → Separate bindings bs → (t : ℕ) (w : Value) → value_fits scene.image w t ≡ true →
      row_fits ellipsis fs (tuple_fields (ty_of scene.image t).shape) ≡ true → match_row ellipsis ms (parts_of w) ≡ true →
      FillsOn scene word bindings M (tuple_pattern scene.image p ls ellipsis) (PlaceTy.Ty t) w (λ path v. bind_all bs (row_fields ellipsis (length bs) (length (parts_of v))) path v)
  unfolding tuple_pattern parts_of tuple_fields
  fills_tuple holds apart p {ls} {fs} {ms} {bs} ellipsis cs sep t w value fits match =
      record {
        fill = λ ctx c els place r root ready s e.
            needed_shape p t w ctx place (λ shape. tuple_on shape p ls ellipsis MatchingMode.Bind ctx c els place) r root s e (λ shape is e₁.
            let (ts, q, e₂) = tuple_taken_lem shape p ls ellipsis MatchingMode.Bind ctx c els place r e₁ in
            let here = is ∙ q in
            let (vs, x, each) = fits_tuple scene.image w t ts here value in
            let many : length (parts_of w) ≡ length ts = ap (λ (y : Value). length (parts_of y)) x ∙ fields_length scene.image vs ts each in
            let row : row_fits ellipsis fs ts ≡ true = ap (λ (y : Shape). row_fits ellipsis fs (tuple_fields y)) (sym here) ∙ fits in
            fills_row scene word bindings M (PlaceTy.Ty t) w holds apart p ellipsis ts cs sep many (tuple_valued scene.image t w ts here value) row match ctx c els place r root ready s e₂);
      }

  -- a Ref
  pub fills_ref : valid scene.image ≡ true → (p : ℕ) (l : Lowering) (t : ℕ) (w : Value) (b : Binder) →
      ((u : ℕ) → (ty_of scene.image t).shape ≡ reference u → FillsOn scene word bindings M l (PlaceTy.Ty u) (part_at ProjectionElem.Deref w) b) →
      FillsOn scene word bindings M (ref_pattern scene.image p l) (PlaceTy.Ty t) w (λ path v. b (onto path ProjectionElem.Deref) (part_at ProjectionElem.Deref v))
  unfolding ref_pattern
  fills_ref holds p l t w b f =
      record {
        fill = λ ctx c els place r root ready s e.
            needed_shape p t w ctx place (λ shape. ref_on shape p l MatchingMode.Bind ctx c els place) r root s e (λ shape is e₁.
            let (u, q, e₂) = ref_taken shape p l MatchingMode.Bind ctx c els place r e₁ in
            stepped p (project place ProjectionElem.Deref) _ e₂ (λ place' e₃ e₄.
            subst (λ (x : Path). Fills scene bindings M ctx c els (b x (part_at ProjectionElem.Deref w)) r) (path_onward place ProjectionElem.Deref place' tt s.elements e₃)
            ((f u (is ∙ q)).fill ctx c els place' r root ready (stands_as (deref_type scene.image t u (is ∙ q)) (stands_onward ProjectionElem.Deref place' holds tt s e₃)) e₄)));
      }

  -- a Bind: its subpattern, and then the binding
  pub fills_bind : (p b : ℕ) (how : BindingMode) (l : Lowering) (ty : PlaceTy) (w : Value) (sub : Binder) → FillsOn scene word bindings M l ty w sub →
      FillsOn scene word bindings M (bind_pattern bindings p b how l) ty w (λ path v. sub path v ++ (record { binding = b; what = bound_as how path v } ∷ []))
  unfolding bind_pattern
  fills_bind p b how l ty w sub f =
      record {
        fill = λ ctx c els place r root ready s e.
            walked (l MatchingMode.Bind ctx c els place) _ e (λ r₁ e₁ e₂.
            let g = f.fill ctx c els place r₁ root ready s e₁ in
            fills_seq r₁ r ready g (fills_binding bindings M p p b how r₁.ctx r₁.then r₁.else r g.leaves.ready s e₂));
      }

  -- a Range
  pub fills_range : (p t : ℕ) (start end : Option Operand) (halfOpen : Bool) (ty : PlaceTy) (w : Value) → FillsOn scene word bindings M (range_pattern scene.image p t start end halfOpen) ty w (λ path v. [])
  unfolding range_pattern
  fills_range p t start end halfOpen ty w = fills_nothing (range_pattern scene.image p t start end halfOpen) ty w (λ ctx c els place r e. ok_is e)

  -- a literal
  pub fills_lit : (kind : OperandKind) (p t : ℕ) (operand : Operand) (ty : PlaceTy) (w : Value) → FillsOn scene word bindings M (lit_by kind scene.image p t operand) ty w (λ path v. [])
  fills_lit kind p t operand ty w = fills_nothing (lit_by kind scene.image p t operand) ty w (λ ctx c els place r e. lit_taken kind scene.image p t operand ctx c els place r e)
