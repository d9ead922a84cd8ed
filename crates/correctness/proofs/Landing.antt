-- One walk after another, and where they land. Assumes nothing.
use Rattle.std.specs.Prelude.{Some, None}
use Prim.Native.Nat.{ℕ, ◌<◌}
use mathlib.Core.Path.{◌≡◌, refl, sym, ◌∙◌, subst}
use mathlib.Core.Logic.{inl, inr}
use mathlib.Core.Bool.{Bool, true, false, ◌&&◌}
use mathlib.Core.List.{List, [], ◌++◌}
use Rattle.mir.specs.declared.BasicBlockId.{BasicBlockId}
use Rattle.mir.specs.declared.blocks.Terminator.{Terminator}
use Rattle.state.specs.State.{State}
use Rattle.lower_spec.specs.Results.{OptBlock}
use Rattle.views.specs.Views.{Line, Mir}
use Rattle.pattern_matching.specs.Walking.{Ctx, Out}
use Rattle.growth.specs.Opened.{count, terminator, lines, ElseReady, Ready, ElseLeft, Leaves}
use Rattle.growth.proofs.Working.{goes_on_lem}
use Rattle.growth.proofs.Leaving.{some_block, not_none, leaves_seq}
use Rattle.meaning.specs.Running.{Env, Scene}
use Rattle.meaning.specs.Matching.{Bound}
use Rattle.correctness.proofs.Trails.{Landing}
use Rattle.correctness.proofs.Walking.{rest, worked_locals, Walked, Lands, on, off, walked_seq, walked_later}

-- a run may end at the else that a walk leaves
pub landing_else : (st st₁ : State) (c : BasicBlockId) (els left : OptBlock) (e : BasicBlockId) → ElseReady st c els → ElseLeft st els st₁ left → left ≡ Some e →
    Landing st c.0 st₁ e.0
landing_else st st₁ c (Some x) left e h f q =
    let same : x.0 ≡ e.0 = some_block (sym f ∙ q) in
    inr (subst (λ (b : ℕ). b < count st) same h.0, λ k. h.1 (same ∙ k))
landing_else st st₁ c None None e h f q = absurd (not_none q)
landing_else st st₁ c None (Some y) e h f q = inl (subst (λ (b : ℕ). terminator st₁ b ≡ Terminator.Open) (some_block q) f.1)

-- where a walk led on, and where it did not
pub led_on : {scene : Scene} {bindings : List ℕ} {M : Mir} {ctx : Ctx} {c : ℕ} {env : Env} {bs : List Bound} {r : Out} → Lands scene bindings M ctx c env bs r true →
    Walked scene bindings M ctx c env bs r.ctx r.then.0 (rest r.ctx.state M)
led_on (on w) = w

-- and where it led to the else
pub led_off : {scene : Scene} {bindings : List ℕ} {M : Mir} {ctx : Ctx} {c : ℕ} {env : Env} {bs : List Bound} {r : Out} → Lands scene bindings M ctx c env bs r false →
    (e : BasicBlockId) × (r.else ≡ Some e) × Walked scene bindings M ctx c env [] r.ctx e.0 M.lines
led_off (off e i w) = (e, i, w)

-- an else that there is stays
pub else_stays : (st st₁ : State) (els left : OptBlock) (e : BasicBlockId) → els ≡ Some e → ElseLeft st els st₁ left → left ≡ Some e
else_stays st st₁ els left e q f = subst (λ (x : OptBlock). ElseLeft st x st₁ left) q f

module _ {scene : Scene} {bindings : List ℕ} {M : Mir} {ctx : Ctx} {c : BasicBlockId} {els : OptBlock} {env : Env} (r r' : Out)
    (h : Ready ctx.state c els) (q : Leaves ctx.state c els r) (q' : Leaves r.ctx.state r.then r.else r') where
  -- a walk to the block that goes on, and one from there
  pub follow : {bs bs' : List Bound} {b : ℕ} {left : List Line} (w : Walked scene bindings M ctx c.0 env bs r.ctx r.then.0 (rest r.ctx.state M)) →
      Walked scene bindings M r.ctx r.then.0 w.env' bs' r'.ctx b left → Landing ctx.state c.0 r'.ctx.state b →
      Walked scene bindings M ctx c.0 env (bs ++ bs') r'.ctx b left
  follow w u o = walked_seq w u (worked_locals q.worked) q.worked.blocks q'.worked.blocks (goes_on_lem q'.worked q.ready.opened) o q.then

  -- where the first walk led on, it lands where the second does
  pub follows : {bs : List Bound} {b : Bool} (w : Walked scene bindings M ctx c.0 env [] r.ctx r.then.0 (rest r.ctx.state M)) →
      Lands scene bindings M r.ctx r.then.0 w.env' bs r' b → Lands scene bindings M ctx c.0 env bs r' b
  follows w (on u) = on (follow w u (inl q'.ready.opened))
  follows w (off e i u) = off e i (follow w u (landing_else ctx.state r'.ctx.state c els r'.else e h.else (leaves_seq r r' q q').else i))

  -- one walk after another: the second runs only where the first led on
  pub lands_both : {b b' : Bool} → Lands scene bindings M ctx c.0 env [] r b → ((env : Env) → b ≡ true → Lands scene bindings M r.ctx r.then.0 env [] r' b') →
      Lands scene bindings M ctx c.0 env [] r' (b && b')
  lands_both (on w) k = follows w (k w.env' refl)
  lands_both (off e i w) k =
      off e (else_stays r.ctx.state r'.ctx.state r.else r'.else e i q'.else) (walked_later w (goes_on_lem q'.worked q.ready.opened) q'.worked.blocks)

  -- tests, and then what is bound where they led on
  pub lands_bound : {bs : List Bound} {b : Bool} → r'.else ≡ r.else → Lands scene bindings M ctx c.0 env [] r b →
      ((env : Env) → b ≡ true → Walked scene bindings M r.ctx r.then.0 env bs r'.ctx r'.then.0 (rest r'.ctx.state M)) →
      Lands scene bindings M ctx c.0 env bs r' b
  lands_bound e (on w) k = on (follow w (k w.env' refl) (inl q'.ready.opened))
  lands_bound e (off x i w) k = off x (e ∙ i) (walked_later w (goes_on_lem q'.worked q.ready.opened) q'.worked.blocks)
