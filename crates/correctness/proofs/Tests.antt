-- Each test leads where the value says. Assumes nothing.
use Rattle.std.specs.Prelude.{Some}
use Prim.Native.Nat.{ℕ, ◌+◌, ◌*◌, ◌≤◌, ◌<◌}
use native.Mathlib.Nat.{lt_of_lt_of_le}
use native.Mathlib.Omega.{arith}
use mathlib.Core.Path.{◌≡◌, refl, sym, ap, subst, ◌∙◌}
use mathlib.Core.Logic.{◌≢◌, inl, inr}
use mathlib.Core.Bool.{Bool, true, false, cond}
use mathlib.Core.List.{List, [], ◌∷◌}
use lib.Dec.{eqb}
use lib.ListN.{length}
use Rattle.place.specs.declared.LocalId.{LocalId}
use Rattle.place.specs.declared.Place.{Place}
use Rattle.mir.specs.declared.BasicBlockId.{BasicBlockId}
use Rattle.mir.specs.declared.blocks.Terminator.{Terminator}
use Rattle.mir.specs.declared.rvalues.BinOp.{BinOp}
use Rattle.mir.specs.declared.rvalues.Left.{Left}
use Rattle.mir.specs.Rvalues.{binary_row}
use Rattle.state.specs.State.{State}
use Rattle.state.specs.Steps.{next_local, set_terminator, try_statement}
use Rattle.lower_spec.specs.Results.{OptBlock}
use Rattle.lower_spec.specs.Temps.{temp}
use Rattle.views.specs.Views.{binary, Mir, mir_of}
use Rattle.views.specs.Views.{set as puts}
use Rattle.views.specs.Growing.{Closed, GoesOn}
use Rattle.views.proofs.ReadBack.{SmallLeft, binary_back}
use Rattle.pattern_matching.specs.Walking.{Ctx, Out, ok}
use Rattle.pattern_matching.specs.Tests.{bool_word, compare}
use Rattle.growth.specs.Opened.{count, terminator, lines, Ready, Leaves}
use Rattle.growth.proofs.States.{count_terminator}
use Rattle.growth.proofs.Leaving.{result}
use Rattle.growth.proofs.Walks.{ok_is}
use Rattle.meaning.specs.Values.{Bool'}
use Rattle.meaning.specs.Running.{Held, value, Env, update, value_of, scalar_of, compared, Scene, read, left_value, rvalue_value, execute, switch_number, switched, Run}
use Rattle.correctness.specs.Demand2.{place_path, held_after}
use Rattle.correctness.proofs.Trails.{Landing, trail_one}
use Rattle.correctness.proofs.Walking.{rest, chain, fork, Lands, on, off, walked_enter}
use Rattle.correctness.proofs.Landing.{landing_else}
use Rattle.correctness.proofs.Standing.{stepped}
use Rattle.correctness.proofs.Doing.{Does, does_seq, does_run, does_quiet, does_line, does_temp, terminator_is, update_same, update_other}

-- a Bool as a switch sees it
pub bool_switched : (b : Bool) → eqb (switch_number (scalar_of (value_of (value (Bool' b))))) (1 + 18446744073709551616 * 0) ≡ b
unfolding scalar_of value_of
bool_switched true = refl
bool_switched false = refl

module _ {scene : Scene} {bindings : List ℕ} {M : Mir} (ctx : Ctx) (c : BasicBlockId) (els : OptBlock) where
  -- the end of a test, over any lines before it: the switch goes on at t where the local is the value, and else at e
  pub lands_switch : {st₁ : State} {f : Env → Env} (l : LocalId) (low high : ℕ) (t e : BasicBlockId) (v : List ℕ) (r : Out) → Ready ctx.state c els →
      Does scene ctx.state c.0 st₁ f → count ctx.state ≤ t.0 → low < 18446744073709551616 → high < 18446744073709551616 →
      ok (result (set_terminator st₁ c (Terminator.Switch l low high t e)) v t (Some e)) ≡ ok r → Leaves ctx.state c els r → GoesOn (mir_of r.ctx.state) M →
      (env : Env) → ((k : ℕ) → k < length ctx.state.locals → f env k ≡ env k) →
      (b : Bool) → eqb (switch_number (scalar_of (value_of (f env l.0)))) (low + 18446744073709551616 * high) ≡ b →
      Lands scene bindings M ctx c.0 env [] r b
  unfolding switched held_after set_terminator mir_of rest
  lands_switch {st₁} {f} l low high t e v r h p new small small' is q x env kept b tested =
      subst (λ (y : Out). Leaves ctx.state c els y → GoesOn (mir_of y.ctx.state) M → Lands scene bindings M ctx c.0 env [] y b) (ok_is is) (λ q x. by b tested q x) q x
    where
      end : Terminator
      end = Terminator.Switch l low high t e

      st₂ : State
      st₂ = set_terminator st₁ c end

      out : Out
      out = result st₂ v t (Some e)

      target : Bool → ℕ
      target b = cond b t.0 e.0

      closes : Leaves ctx.state c els out → terminator st₂ c.0 ≡ end
      closes q = terminator_is st₁ c end (omega (arith, count_terminator st₁ c end, q.worked.blocks, h.inside)) (small, small')

      walk : (b : Bool) → eqb (switch_number (scalar_of (value_of (f env l.0)))) (low + 18446744073709551616 * high) ≡ b → Leaves ctx.state c els out → GoesOn (mir_of st₂) M →
          Run scene M c.0 (rest ctx.state M) env (target b) M.lines (f env) (target b ∷ [])
      walk b tested q x =
          chain (does_run M env x.more p x.grown)
          (subst (λ (z : ℕ). Run scene M c.0 (rest st₂ M) (f env) z M.lines (f env) (z ∷ [])) (ap target tested)
          (fork st₂ c.0 l low high t e (f env) x (closes q)))

      shut : Leaves ctx.state c els out → Closed (terminator st₂ c.0)
      shut q = subst Closed (sym (closes q)) tt

      by : (b : Bool) → eqb (switch_number (scalar_of (value_of (f env l.0)))) (low + 18446744073709551616 * high) ≡ b → Leaves ctx.state c els out → GoesOn (mir_of st₂) M →
          Lands scene bindings M ctx c.0 env [] out b
      by true tested q x =
          on (walked_enter (record {
            env' = f env;
            entered = t.0 ∷ [];
            run = walk true tested q x;
            locals = kept;
            trail = trail_one (omega (arith, h.inside)) (shut q) (lt_of_lt_of_le h.inside q.worked.blocks) q.ready.inside;
          }) x (does_quiet t.0 p h.lines h.inside new))
      by false tested q x =
          off e refl (record {
            env' = f env;
            entered = e.0 ∷ [];
            run = walk false tested q x;
            locals = kept;
            trail = trail_one (elsewhere (shut q) (landing_else ctx.state st₂ c els (Some e) e h.else q.else refl)) (shut q) (lt_of_lt_of_le h.inside q.worked.blocks) q.ready.else.0;
          })
        where
          elsewhere : Closed (terminator st₂ c.0) → Landing ctx.state c.0 st₂ e.0 → c.0 ≢ e.0
          elsewhere k (inl opened) z = subst Closed (ap (terminator st₂) z ∙ opened) k
          elsewhere k (inr old) z = old.1 (sym z)

-- what an operator's test adds to what was done before it
abbrev pub comparing : Scene → BinOp → Left → Place → ℕ → (Env → Env) → Env → Env
comparing scene op left place l f env = update (f env) l (value (Bool' (compared op (left_value left scene (f env)) (read scene (f env) (place_path place)))))

module _ {scene : Scene} {bindings : List ℕ} {M : Mir} (image : List ℕ) (p : ℕ) (op : BinOp) (left : Left) (place : Place) (ctx : Ctx) (c : BasicBlockId) (els : OptBlock) where
  -- an operator's test, behind what was done before it
  pub lands_compare : {st : State} {f : Env → Env} (t e : BasicBlockId) (r : Out) → Ready ctx.state c els → Does scene ctx.state c.0 st f → count ctx.state ≤ t.0 →
      length ctx.state.locals ≤ length st.locals → SmallLeft left → place.len ≤ 16 → length place.elems ≡ 16 → compare image p op left place ctx st c t e ≡ ok r →
      Leaves ctx.state c els r → GoesOn (mir_of r.ctx.state) M → (env : Env) → ((k : ℕ) → k < length ctx.state.locals → f env k ≡ env k) →
      Lands scene bindings M ctx c.0 env [] r (compared op (left_value left scene (f env)) (read scene (f env) (place_path place)))
  unfolding compare execute rvalue_value
  lands_compare {st} {f} t e r h p₀ new more small len elems is q x env kept =
      stepped p (temp image st bool_word c) _ is (λ st₁ e₁ is₁.
      stepped p (try_statement st₁ (binary_row c (next_local st) op left place)) _ is₁ (λ st₂ e₂ is₂.
      let b = compared op (left_value left scene (f env)) (read scene (f env) (place_path place)) in
      let l = length st.locals in
      lands_switch ctx c els {f = comparing scene op left place l f} (next_local st) 1 0 t e ctx.visits r h
      (does_seq (does_seq p₀ (does_temp image st st₁ bool_word c e₁))
      (does_line c.0 st₁ st₂ (binary_row c (next_local st) op left place) (puts l (binary op left (place_path place))) (binary_back c (next_local st) op left place small len elems) e₂))
      new (omega arith) (omega arith) is₂ q x env
      (λ k i. update_other (f env) l (value (Bool' b)) k (omega arith) ∙ kept k i) b
      (ap (λ (w : Held). eqb (switch_number (scalar_of (value_of w))) (1 + 18446744073709551616 * 0)) (update_same (f env) l (value (Bool' b))) ∙ bool_switched b)))
