-- Runs from one state of the lowering to another, in a body that goes on from there. Assumes nothing.
use Rattle.std.specs.Prelude.{Some}
use native.Mathlib.Omega.{arith}
use Prim.Native.Nat.{ℕ, ◌≤◌, ◌<◌, ◌+◌}
use native.Mathlib.Nat.{lt_of_lt_of_le}
use mathlib.Core.Path.{◌≡◌, refl, sym, ap, ◌∙◌, subst}
use mathlib.Core.Logic.{◌≢◌}
use mathlib.Core.Bool.{Bool, true, false}
use mathlib.Core.List.{List, [], ◌∷◌, ◌++◌, append-nil, append_assoc}
use lib.ListN.{length, drop, length-map, length-append}
use lib.Seq.{drop-append_seam}
use Rattle.place.specs.declared.LocalId.{LocalId}
use Rattle.mir.specs.declared.BasicBlockId.{BasicBlockId}
use Rattle.mir.specs.declared.blocks.Terminator.{Terminator}
use Rattle.state.specs.State.{State}
use Rattle.views.specs.Views.{Line, Mir, line_of, mir_of}
use Rattle.views.specs.Growing.{Closed, Quiet, GoesOn}
use Rattle.pattern_matching.specs.Walking.{Ctx, Out}
use Rattle.growth.specs.Opened.{count, terminator, lines, From, Worked}
use Rattle.meaning.specs.Running.{Held, Env, Scene, switched, Run, here, skip, step, jump, branch}
use Rattle.meaning.specs.Matching.{Bound}
use Rattle.correctness.specs.Demand2.{held_after}
use Rattle.correctness.proofs.Trails.{Trail, Landing, trail_here, trail_later, trail_seq}

-- the lines of M that came after st
unfoldable pub rest : State → Mir → List Line
rest st M = drop (length st.statements) M.lines

-- the lines that came after are those behind the state's
pub rest_is_lem : (st : State) (M : Mir) (d : List Line) → M.lines ≡ lines st ++ d → rest st M ≡ d
unfolding rest mir_of
rest_is_lem st M d e =
    ap (drop (length st.statements)) e
    ∙ ap (λ (n : ℕ). drop n (lines st ++ d)) (sym (length-map st.statements line_of))
    ∙ drop-append_seam (lines st) d

-- the lines after st are those of the work from there, and then those after it
pub rest_split : {st st₁ : State} {M : Mir} {current : ℕ} (f : Worked st current st₁) → GoesOn (mir_of st₁) M → rest st M ≡ f.more ++ rest st₁ M
rest_split {st} {st₁} {M} f x =
    rest_is_lem st M (f.more ++ x.more) (x.grown ∙ ap (λ (l : List Line). l ++ x.more) f.grown ∙ append_assoc (lines st) f.more x.more)
    ∙ ap (λ (l : List Line). f.more ++ l) (sym (rest_is_lem st₁ M x.more x.grown))

-- states of the same lines
pub rest_same : (st st₁ : State) (M : Mir) → st₁.statements ≡ st.statements → rest st₁ M ≡ rest st M
unfolding rest
rest_same st st₁ M e = ap (λ (rows : List (List ℕ)). drop (length rows) M.lines) e

-- bindings, and then more
pub after_append : (bindings : List ℕ) (bs cs : List Bound) (l : ℕ) (held : Held) → held_after bindings (bs ++ cs) l held ≡ held_after bindings cs l (held_after bindings bs l held)
unfolding held_after
after_append bindings [] cs l held = refl
after_append bindings (b ∷ bs) cs l held = after_append bindings bs cs l _

module _ {scene : Scene} {M : Mir} where
  -- one run after another
  pub chain : {b b₁ b₂ : ℕ} {r r₁ r₂ : List Line} {e e₁ e₂ : Env} {tr tr' : List ℕ} → Run scene M b r e b₁ r₁ e₁ tr → Run scene M b₁ r₁ e₁ b₂ r₂ e₂ tr' →
      Run scene M b r e b₂ r₂ e₂ (tr ++ tr')
  chain here q = q
  chain (skip n p) q = skip n (chain p q)
  chain (step i p) q = step i (chain p q)
  chain (jump i p) q = jump i (chain p q)
  chain (branch i p) q = branch i (chain p q)

  -- over lines of other blocks
  pub over : {b b' : ℕ} {r r' : List Line} {e e' : Env} {tr : List ℕ} (d : List Line) → Quiet b d → Run scene M b r e b' r' e' tr → Run scene M b (d ++ r) e b' r' e' tr
  over [] h p = p
  over (x ∷ d) h p = skip h.0 (over d h.1 p)

  -- over lines of other blocks, all that are left
  over_all : {b b' : ℕ} {r' : List Line} {e e' : Env} {tr : List ℕ} (d : List Line) → Quiet b d → Run scene M b [] e b' r' e' tr → Run scene M b d e b' r' e' tr
  over_all [] h p = p
  over_all (x ∷ d) h p = skip h.0 (over_all d h.1 p)

  -- a block where no work is done
  pub linger : {st st₁ : State} {c : ℕ} (b : ℕ) (env : Env) → Worked st c st₁ → GoesOn (mir_of st₁) M → b < count st → b ≢ c →
      Run scene M b (rest st M) env b (rest st₁ M) env []
  linger {st} {st₁} b env f x i n =
      subst (λ (r : List Line). Run scene M b r env b (rest st₁ M) env []) (sym (rest_split f x)) (over f.more (f.still b i n) here)

  -- at the start of a block that has no line in st
  pub enter : (st : State) (b : ℕ) (env : Env) → GoesOn (mir_of st) M → Quiet b (lines st) → Run scene M b M.lines env b (rest st M) env []
  enter st b env x q =
      subst (λ (r : List Line). Run scene M b r env b (rest st M) env []) (sym x.grown)
      (subst (λ (r : List Line). Run scene M b (lines st ++ r) env b (rest st M) env []) (rest_is_lem st M x.more x.grown) (over (lines st) q here))

  -- from a block that is closed
  leave : (st : State) {b b' : ℕ} {r' : List Line} {e e' : Env} {tr : List ℕ} → GoesOn (mir_of st) M → Closed (terminator st b) → Run scene M b [] e b' r' e' tr →
      Run scene M b (rest st M) e b' r' e' tr
  leave st {b} {b'} {r'} {e} {e'} {tr} x c p =
      subst (λ (r : List Line). Run scene M b r e b' r' e' tr) (sym (rest_is_lem st M x.more x.grown)) (over_all x.more (x.still b c) p)

  -- to where a Goto goes
  pub hop : (st : State) (b : ℕ) (t : BasicBlockId) (env : Env) → GoesOn (mir_of st) M → terminator st b ≡ Terminator.Goto t →
      Run scene M b (rest st M) env t.0 M.lines env (t.0 ∷ [])
  hop st b t env x e =
      let c : Closed (terminator st b) = subst Closed (sym e) tt in
      leave st x c (jump (x.kept b c ∙ e) here)

  -- to where a switch goes
  pub fork : (st : State) (b : ℕ) (l : LocalId) (low high : ℕ) (t f : BasicBlockId) (env : Env) → GoesOn (mir_of st) M → terminator st b ≡ Terminator.Switch l low high t f →
      Run scene M b (rest st M) env (switched (env l.0) low high t.0 f.0) M.lines env (switched (env l.0) low high t.0 f.0 ∷ [])
  fork st b l low high t f env x e =
      let c : Closed (terminator st b) = subst Closed (sym e) tt in
      leave st x c (branch (x.kept b c ∙ e) here)

-- no work loses a local
pub worked_locals : {st st₁ : State} {c : ℕ} → Worked st c st₁ → length st.locals ≤ length st₁.locals
worked_locals {st} {st₁} f =
    let n : length st₁.locals ≡ length st.locals + length f.more_locals = ap length f.locals ∙ length-append st.locals f.more_locals in
    omega (arith, n)

-- A run in M from the block current behind the lines of ctx to the block b with `left` still to be looked at, which the lowering made on its way to ctx₁:
-- the locals of ctx get the bindings bs and are else unchanged
pub record Walked (scene : Scene) (bindings : List ℕ) (M : Mir) (ctx : Ctx) (current : ℕ) (env : Env) (bs : List Bound) (ctx₁ : Ctx) (b : ℕ) (left : List Line) : Type 0 where
  pub env' : Env
  pub entered : List ℕ
  pub run : Run scene M current (rest ctx.state M) env b left env' entered
  pub locals : (l : ℕ) → l < length ctx.state.locals → env' l ≡ held_after bindings bs l (env l)
  pub trail : Trail ctx.state ctx₁.state current entered b

-- with true: to the block that goes on, behind its lines, with the bindings bs; with false: to the else, on reaching it
pub data Lands (scene : Scene) (bindings : List ℕ) (M : Mir) (ctx : Ctx) (current : ℕ) (env : Env) (bs : List Bound) (r : Out) : Bool → Type 0 where
  on : Walked scene bindings M ctx current env bs r.ctx r.then.0 (rest r.ctx.state M) → Lands scene bindings M ctx current env bs r true
  off : (e : BasicBlockId) → r.else ≡ Some e → Walked scene bindings M ctx current env [] r.ctx e.0 M.lines → Lands scene bindings M ctx current env bs r false

module _ {scene : Scene} {bindings : List ℕ} {M : Mir} where
  -- nothing done
  pub walked_here : (ctx : Ctx) (current : ℕ) (env : Env) → current < count ctx.state → Walked scene bindings M ctx current env [] ctx current (rest ctx.state M)
  unfolding held_after
  walked_here ctx current env h = record { env' = env; entered = []; run = here; locals = λ l i. refl; trail = trail_here h }

  module _ {ctx ctx₁ ctx₂ : Ctx} {current b₁ : ℕ} {env : Env} {bs : List Bound} where
    -- one walk after another
    pub walked_seq : {b₂ : ℕ} {left : List Line} {bs' : List Bound} (w : Walked scene bindings M ctx current env bs ctx₁ b₁ (rest ctx₁.state M)) →
        Walked scene bindings M ctx₁ b₁ w.env' bs' ctx₂ b₂ left → length ctx.state.locals ≤ length ctx₁.state.locals → count ctx.state ≤ count ctx₁.state → count ctx₁.state ≤ count ctx₂.state →
        GoesOn (mir_of ctx₁.state) (mir_of ctx₂.state) → Landing ctx.state current ctx₂.state b₂ → From ctx.state current b₁ →
        Walked scene bindings M ctx current env (bs ++ bs') ctx₂ b₂ left
    walked_seq {bs'} w u s h₁ h₂ x o f =
        record {
          env' = u.env';
          entered = w.entered ++ u.entered;
          run = chain w.run u.run;
          locals = λ l i. u.locals l (lt_of_lt_of_le i s) ∙ ap (held_after bindings bs' l) (w.locals l i) ∙ sym (after_append bindings bs bs' l (env l));
          trail = trail_seq w.trail u.trail x h₁ h₂ o f;
        }

    -- the same walk, when the lowering has gone on
    pub walked_later : {left : List Line} → Walked scene bindings M ctx current env bs ctx₁ b₁ left → GoesOn (mir_of ctx₁.state) (mir_of ctx₂.state) →
        count ctx₁.state ≤ count ctx₂.state → Walked scene bindings M ctx current env bs ctx₂ b₁ left
    walked_later w x h = record { env' = w.env'; entered = w.entered; run = w.run; locals = w.locals; trail = trail_later w.trail x h }

  -- a walk, and then a run that enters no block and changes no local
  pub walked_on : {ctx ctx₁ : Ctx} {current b : ℕ} {env : Env} {bs : List Bound} {left left' : List Line} →
      Walked scene bindings M ctx current env bs ctx₁ b left → ((env : Env) → Run scene M b left env b left' env []) →
      Walked scene bindings M ctx current env bs ctx₁ b left'
  walked_on {ctx} {current} {b} {env} {left'} w k =
      record {
        env' = w.env';
        entered = w.entered;
        run = subst (λ (tr : List ℕ). Run scene M current (rest ctx.state M) env b left' w.env' tr) (append-nil w.entered) (chain w.run (k w.env'));
        locals = w.locals;
        trail = w.trail;
      }

  -- a walk that reached a block without lines, behind those of a state
  pub walked_enter : {ctx ctx₁ : Ctx} {current b : ℕ} {env : Env} {bs : List Bound} → Walked scene bindings M ctx current env bs ctx₁ b M.lines →
      GoesOn (mir_of ctx₁.state) M → Quiet b (lines ctx₁.state) → Walked scene bindings M ctx current env bs ctx₁ b (rest ctx₁.state M)
  walked_enter {ctx₁} {b} w x q = walked_on w (λ env. enter ctx₁.state b env x q)
