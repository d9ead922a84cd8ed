-- Constants, range ends, lengths and discriminants: each test leads where the value says. Assumes nothing.
use Prim.Native.Nat.{ℕ, suc, ◌+◌, ◌*◌, ◌≤◌}
use native.Mathlib.Nat.{le_refl, le_trans}
use native.Mathlib.Omega.{arith}
use mathlib.Core.Path.{◌≡◌, refl, ap, ap₂, subst, ◌∙◌}
use mathlib.Core.Bool.{Bool}
use mathlib.Core.Option.{some}
use mathlib.Core.List.{List, []}
use lib.Dec.{eqb}
use lib.ListN.{length}
use Rattle.image.specs.Types.{Operand}
use Rattle.refusals.specs.Refusals.{done}
use Rattle.place.specs.declared.Place.{Place}
use Rattle.place.specs.declared.place_ty.PlaceTy.{PlaceTy}
use Rattle.mir.specs.declared.BasicBlockId.{BasicBlockId}
use Rattle.mir.specs.declared.rvalues.Constant.{Constant}
use Rattle.mir.specs.declared.rvalues.BinOp.{BinOp}
use Rattle.mir.specs.declared.rvalues.Left.{Left}
use Rattle.mir.specs.Rvalues.{constant_row, binary_row}
use Rattle.state.specs.State.{State}
use Rattle.state.specs.Steps.{next_block, next_local, try_block, try_statement}
use Rattle.literals.specs.Literals.{lower_const_to_operand, lower_literal_or_const_to_operand}
use Rattle.lower_spec.specs.Results.{OptBlock}
use Rattle.lower_spec.specs.Temps.{temp}
use Rattle.views.specs.Views.{of_constant, binary, Mir, mir_of}
use Rattle.views.specs.Views.{set as puts}
use Rattle.views.specs.Growing.{GoesOn}
use Rattle.views.proofs.ReadBack.{Small, constant_back, binary_back}
use Rattle.pattern_matching.specs.declared.MatchingMode.{MatchingMode}
use Rattle.pattern_matching.specs.Walking.{Ctx, Out, ok, else_state, else_block}
use Rattle.pattern_matching.specs.Tests.{bool_word, pattern_match_const, constant_path, range_end, range_end?}
use Rattle.growth.specs.Opened.{count, Ready, Leaves}
use Rattle.growth.proofs.Opening.{opens_block, opens_else, adds_temp, adds_statement, constant_block, binary_block}
use Rattle.growth.proofs.Testing.{good_const, grows_constant, good_range_end}
use Rattle.meaning.specs.Values.{Value, Bool'}
use Rattle.meaning.specs.Running.{Held, value, Env, update, value_of, constant_value, scalar_of, compared, Scene, read, left_value, rvalue_value, execute, switch_number}
use Rattle.correctness.specs.Demand2.{place_path}
use Rattle.correctness.proofs.Walking.{Lands}
use Rattle.correctness.proofs.Standing.{Stands, stands_read, stepped}
use Rattle.correctness.proofs.Doing.{does_seq, does_block, does_else, does_line, does_temp, temp_locals, update_same, update_other, opens_locals, adds_locals}
use Rattle.correctness.proofs.Tests.{bool_switched, lands_switch, lands_compare}

module _ {scene : Scene} {bindings : List ℕ} {M : Mir} {word : ℕ} {place : Place} {ty : PlaceTy} {w : Value} (p : ℕ) (ctx : Ctx) (c : BasicBlockId) (els : OptBlock) where
  -- a constant's test: its value against what lies at the place
  pub lands_const : (k : Constant) (r : Out) → Ready ctx.state c els → Stands scene word place ty w → Small k → pattern_match_const scene.image p k ctx c els place ≡ ok r →
      GoesOn (mir_of r.ctx.state) M → (env : Env) → Lands scene bindings M ctx c.0 env [] r (compared BinOp.Eq (constant_value scene.image k) w)
  unfolding pattern_match_const left_value
  lands_const k r h s small is x env =
      let q : Leaves ctx.state c els r = (good_const scene.image p k ctx c els place).leaves h r is in
      stepped p (try_block ctx.state) _ is (λ st₁ e₁ is₁.
      stepped p (else_state st₁ els) _ is₁ (λ st₂ e₂ is₂.
      subst (λ (y : Value). Lands scene bindings M ctx c.0 env [] r (compared BinOp.Eq (constant_value scene.image k) y)) (stands_read env s)
      (lands_compare scene.image p BinOp.Eq (Left.Constant k) place ctx c els (next_block ctx.state) (else_block st₁ els) r h
      (does_seq (does_block c.0 ctx.state st₁ e₁) (does_else c.0 st₁ st₂ els e₂)) (le_refl _)
      (le_trans (opens_locals (opens_block ctx.state st₁ c.0 e₁)) (opens_locals (opens_else st₁ st₂ c.0 els e₂))) small s.within s.elements is₂ q x env (λ k i. refl))))

  -- one end of a range
  pub lands_end : (t : ℕ) (op : BinOp) (operand : Operand) (v : Value) (r : Out) → Ready ctx.state c els → Stands scene word place ty w →
      ((k : Constant) → lower_literal_or_const_to_operand scene.image t operand ≡ done k → (constant_value scene.image k ≡ v) × Small k) →
      range_end scene.image p t op operand ctx c els place ≡ ok r → GoesOn (mir_of r.ctx.state) M → (env : Env) → Lands scene bindings M ctx c.0 env [] r (compared op v w)
  unfolding range_end range_end? left_value
  lands_end t op operand v r h s worth is x env =
      let q : Leaves ctx.state c els r = (good_range_end scene.image p t op (some operand) ctx c els place).leaves h r is in
      stepped p (lower_literal_or_const_to_operand scene.image t operand) _ is (λ k e₀ is₀.
      stepped p (else_state ctx.state els) _ is₀ (λ st₁ e₁ is₁.
      stepped p (try_block st₁) _ is₁ (λ st₂ e₂ is₂.
      subst (λ (y : Value). Lands scene bindings M ctx c.0 env [] r (compared op v y)) (stands_read env s)
      (subst (λ (y : Value). Lands scene bindings M ctx c.0 env [] r (compared op y (read scene env (place_path place)))) (worth k e₀).0
      (lands_compare scene.image p op (Left.Constant k) place ctx c els (next_block st₁) (else_block ctx.state els) r h
      (does_seq (does_else c.0 ctx.state st₁ els e₁) (does_block c.0 st₁ st₂ e₂)) (opens_else ctx.state st₁ c.0 els e₁).blocks
      (le_trans (opens_locals (opens_else ctx.state st₁ c.0 els e₁)) (opens_locals (opens_block st₁ st₂ c.0 e₂))) (worth k e₀).1 s.within s.elements is₂ q x env (λ k i. refl))))))

  -- a constant path: the constant is copied to a temporary first
  pub lands_constant : (t : ℕ) (operand : Operand) (v : Value) (r : Out) → Ready ctx.state c els → Stands scene word place ty w →
      constant_value scene.image (lower_const_to_operand t operand) ≡ v → Small (lower_const_to_operand t operand) →
      constant_path scene.image p t operand MatchingMode.Check ctx c els place ≡ ok r → GoesOn (mir_of r.ctx.state) M → (env : Env) →
      Lands scene bindings M ctx c.0 env [] r (compared BinOp.Eq v w)
  unfolding constant_path execute rvalue_value left_value value_of
  lands_constant t operand v r h s worth small is x env =
      let q : Leaves ctx.state c els r = (grows_constant scene.image p t operand MatchingMode.Check ctx c els place).leaves h r is in
      let st = ctx.state in
      let k = lower_const_to_operand t operand in
      let n = length st.locals in
      stepped p (temp scene.image st t c) _ is (λ st₁ e₁ is₁.
      stepped p (try_statement st₁ (constant_row c (next_local st) k)) _ is₁ (λ st₂ e₂ is₂.
      stepped p (temp scene.image st₂ bool_word c) _ is₂ (λ st₃ e₃ is₃.
      stepped p (try_statement st₃ (binary_row c (next_local st₂) BinOp.Eq (Left.Local (next_local st)) place)) _ is₃ (λ st₄ e₄ is₄.
      stepped p (try_block st₄) _ is₄ (λ st₅ e₅ is₅.
      stepped p (else_state st₅ els) _ is₅ (λ st₆ e₆ is₆.
      let m = length st₂.locals in
      let more : suc n ≤ m = omega (arith, temp_locals scene.image st st₁ t c e₁, adds_locals (adds_statement st₁ st₂ c.0 (constant_row c (next_local st) k) (constant_block c (next_local st) k) e₂)) in
      let env₁ : Env = update env n (value (constant_value scene.image k)) in
      let b = compared BinOp.Eq (value_of (env₁ n)) (read scene env₁ (place_path place)) in
      let env₂ : Env = update env₁ m (value (Bool' b)) in
      let told : b ≡ compared BinOp.Eq v w = ap₂ (λ (y z : Value). compared BinOp.Eq y z) (ap value_of (update_same env n (value (constant_value scene.image k))) ∙ worth) (stands_read env₁ s) in
      subst (λ (y : Bool). Lands scene bindings M ctx c.0 env [] r y) told
      (lands_switch ctx c els {f = λ (e : Env). update (update e n (value (constant_value scene.image k))) m (value (Bool' (compared BinOp.Eq (value_of (update e n (value (constant_value scene.image k)) n)) (read scene (update e n (value (constant_value scene.image k))) (place_path place)))))}
      (next_local st₂) 1 0 (next_block st₄) (else_block st₅ els) ctx.visits r h
      (does_seq (does_seq (does_temp scene.image st st₁ t c e₁)
      (does_line c.0 st₁ st₂ (constant_row c (next_local st) k) (puts n (of_constant k)) (constant_back c (next_local st) k small) e₂))
      (does_seq (does_seq (does_temp scene.image st₂ st₃ bool_word c e₃)
      (does_line c.0 st₃ st₄ (binary_row c (next_local st₂) BinOp.Eq (Left.Local (next_local st)) place) (puts m (binary BinOp.Eq (Left.Local (next_local st)) (place_path place)))
      (binary_back c (next_local st₂) BinOp.Eq (Left.Local (next_local st)) place tt s.within s.elements) e₄))
      (does_seq (does_block c.0 st₄ st₅ e₅) (does_else c.0 st₅ st₆ els e₆))))
      (later st st₁ st₂ st₃ st₄ k e₁ e₂ e₃ e₄) (omega arith) (omega arith) is₆ q x env
      (λ j i. update_other env₁ m (value (Bool' b)) j (omega arith) ∙ update_other env n (value (constant_value scene.image k)) j (omega arith)) b
      (ap (λ (y : Held). eqb (switch_number (scalar_of (value_of y))) (1 + 18446744073709551616 * 0)) (update_same env₁ m (value (Bool' b))) ∙ bool_switched b))))))))
    where
      later : (st st₁ st₂ st₃ st₄ : State) (k : Constant) → temp scene.image st t c ≡ done st₁ → try_statement st₁ (constant_row c (next_local st) k) ≡ done st₂ →
          temp scene.image st₂ bool_word c ≡ done st₃ → try_statement st₃ (binary_row c (next_local st₂) BinOp.Eq (Left.Local (next_local st)) place) ≡ done st₄ → count st ≤ count st₄
      later st st₁ st₂ st₃ st₄ k e₁ e₂ e₃ e₄ =
          omega (
            arith,
            (adds_temp scene.image st st₁ t c e₁).same,
            (adds_statement st₁ st₂ c.0 (constant_row c (next_local st) k) (constant_block c (next_local st) k) e₂).same,
            (adds_temp scene.image st₂ st₃ bool_word c e₃).same,
            (adds_statement st₃ st₄ c.0 (binary_row c (next_local st₂) BinOp.Eq (Left.Local (next_local st)) place) (binary_block c (next_local st₂) BinOp.Eq (Left.Local (next_local st)) place) e₄).same,
          )
