-- The end of an Or: its alternatives go on at one new block, and what is left of them at the else. Assumes nothing.
use Rattle.std.specs.Prelude.{Some, None}
use Prim.Native.Nat.{ℕ, ◌≤◌, ◌<◌}
use native.Mathlib.Nat.{le_refl, lt_of_lt_of_le}
use native.Mathlib.Decide.{dec_lt, ℕ_discrete}
use native.Mathlib.Omega.{arith}
use mathlib.Core.Path.{◌≡◌, refl, sym, ap, subst, ◌∙◌}
use mathlib.Core.Logic.{◌≢◌}
use mathlib.Core.List.{List}
use Rattle.refusals.specs.Refusals.{done}
use Rattle.mir.specs.declared.BasicBlockId.{BasicBlockId}
use Rattle.mir.specs.declared.blocks.Terminator.{Terminator}
use Rattle.state.specs.State.{State}
use Rattle.state.specs.Steps.{next_block, try_block, set_terminator}
use Rattle.lower_spec.specs.Results.{OptBlock}
use Rattle.views.specs.Growing.{Closed}
use Rattle.pattern_matching.specs.declared.MatchingMode.{MatchingMode}
use Rattle.pattern_matching.specs.Walking.{Ctx, Out, ok, Lowering, with_state, else_state, else_block}
use Rattle.pattern_matching.specs.Patterns.{alternatives, alternatives_end, or_pattern}
use Rattle.growth.specs.Opened.{count, terminator, lines, Below, ElseReady, Ready, From, Worked, ElseLeft, Leaves}
use Rattle.growth.proofs.States.{count_terminator, closes, terminator_other, terminator_past}
use Rattle.growth.proofs.Working.{worked_seq, worked_terminator, lines_below}
use Rattle.growth.proofs.Opening.{Opens, opens_worked, opens_block, count_tried, opens_else, WithElse, count_else}
use Rattle.growth.proofs.Leaving.{some_block, not_none, result, else_same, idle_carry, fresh}
use Rattle.growth.proofs.Walks.{Beyond, ok_is, walked, Good, good_ok, good_step, Grows, AllGrow}
use Rattle.growth.proofs.Alternating.{Tried, tried, tried_all}

-- the alternatives go on at a new block, made before them
leaves_join : {st st₀ st₃ : State} {c : BasicBlockId} {els els₃ : OptBlock} {v : List ℕ} → Ready st c els → try_block st ≡ done st₀ → Worked st₀ c.0 st₃ →
    ElseReady st₃ (next_block st) els₃ → ElseLeft st els st₃ els₃ →
    ((b : ℕ) → b < count st₃ → From st₀ c.0 b → b ≢ count st → (els₃ ≡ Some (record { 0 = b }) → ⊥) → Closed (terminator st₃ b)) →
    Leaves st c els (result st₃ v (next_block st) els₃)
leaves_join {st} {st₀} {st₃} {c} {els} {els₃} h e w r l k =
    let one = count_tried st st₀ e in
    let inn = h.inside in
    let o : Opens st c.0 st₀ = opens_block st st₀ c.0 e in
    let f : Worked st c.0 st₃ = worked_seq (opens_worked inn o) (λ _. refl) w in
    record {
      worked = f;
      then = λ i. absurd (omega arith);
      ready =
          record {
            inside = omega (arith, w.blocks);
            opened = w.kept (count st) (omega arith) (omega arith) ∙ o.terms (count st) ∙ terminator_past st (count st) (le_refl _);
            else = r;
            lines = lines_below f h.lines;
          };
      else = l;
      closed = λ b i g n m. k b i (λ j. g (omega arith)) n m;
    }

-- an else that there was is not the block where the alternatives go on
else_apart : (st st₃ : State) (c : BasicBlockId) (els : OptBlock) → count st ≤ count st₃ → ElseReady st c els → ElseReady st₃ (next_block st) els
else_apart st st₃ c None h r = tt
else_apart st st₃ c (Some e) h r = (lt_of_lt_of_le r.0 h, let k = r.0 in omega arith)

-- the else of st, in a state that has one block more if there was none
made_ready : (st st₁ st₂ st₃ : State) (c : BasicBlockId) (els : OptBlock) → count st < count st₁ → count st₂ ≡ count st₃ → WithElse els (count st₁) (count st₂) → ElseReady st c els →
    ElseReady st₃ (next_block st) (Some (else_block st₁ els))
unfolding else_block
made_ready st st₁ st₂ st₃ c None h k w r = (omega arith, omega arith)
made_ready st st₁ st₂ st₃ c (Some e) h k w r = let i = r.0 in (omega arith, omega arith)

-- an else that is new is open and has no line, where only the block b was closed since
made_left : (st st₁ st₂ st₃ : State) (b : BasicBlockId) (els : OptBlock) → count st ≤ count st₁ → b.0 < count st₁ → Worked st₂ b.0 st₃ → WithElse els (count st₁) (count st₂) →
    Below (count st₁) (lines st₁) → Opens st₁ b.0 st₂ → ElseLeft st els st₃ (Some (else_block st₁ els))
unfolding else_block
made_left st st₁ st₂ st₃ b None h i g w r o =
    let new = fresh (count st₁) o r i (le_refl _) in
    let idle = idle_carry (count st₁) g (omega arith) (omega arith) new.0 new.1 in
    (h, idle.0, idle.1)
made_left st st₁ st₂ st₃ b (Some e) h i g w r o = refl

-- the only block that an else makes
made_only : (st₁ : State) (els : OptBlock) (m b : ℕ) → WithElse els (count st₁) m → count st₁ ≤ b → b < m → else_block st₁ els ≡ record { 0 = b }
unfolding else_block
made_only st₁ None m b w h i = let e : count st₁ ≡ b = omega arith in ap (λ (x : ℕ). record { 0 = x }) e
made_only st₁ (Some e) m b w h i = absurd (omega arith)

-- no alternative is left
leaves_ended : {st st₀ : State} {c : BasicBlockId} {els : OptBlock} (a : Ctx) → Ready st c els → try_block st ≡ done st₀ → Tried st₀ c.0 (tried a None) →
    Leaves st c els (record { ctx = a; then = next_block st; else = els })
leaves_ended {st} {st₀} {c} {els} a h e q =
    leaves_join h e q.worked (else_apart st a.state c els (omega (arith, count_tried st st₀ e, q.worked.blocks)) h.else) (else_same st a.state els)
    (λ b i f n m. q.closed b i f not_none)

-- a mismatch goes on at the else
leaves_mismatch : {st st₀ st₂ : State} {c : BasicBlockId} {els : OptBlock} (a : Ctx) (b : BasicBlockId) → Ready st c els → try_block st ≡ done st₀ →
    Tried st₀ c.0 (tried a (Some b)) → else_state a.state els ≡ done st₂ →
    Leaves st c els (result (set_terminator st₂ b (Terminator.Goto (else_block a.state els))) a.visits (next_block st) (Some (else_block a.state els)))
leaves_mismatch {st} {st₀} {st₂} {c} {els} a b h e q e₂ =
    let one = count_tried st st₀ e in
    let grew = q.worked.blocks in
    let first : Worked st c.0 st₀ = opens_worked h.inside (opens_block st st₀ c.0 e) in
    leaves_join h e (worked_seq q.worked q.left.2 (worked_seq (opens_worked q.left.0 o) (λ _. refl) g))
    (made_ready st st₁ st₂ st₃ c els (omega arith) (sym (count_terminator st₂ b end)) (count_else st₁ st₂ els e₂) h.else)
    (made_left st st₁ st₂ st₃ b els (omega arith) q.left.0 g (count_else st₁ st₂ els e₂) (lines_below q.worked (lines_below first h.lines)) o)
    (λ x i f n m. go x i f m (dec_lt x (count st₁)) (ℕ_discrete x b.0))
  where
    st₁ : State
    st₁ = a.state

    end : Terminator
    end = Terminator.Goto (else_block st₁ els)

    st₃ : State
    st₃ = set_terminator st₂ b end

    o : Opens st₁ b.0 st₂
    o = opens_else st₁ st₂ b.0 els e₂

    g : Worked st₂ b.0 st₃
    g = worked_terminator st₂ b end

    go : (x : ℕ) → x < count st₃ → From st₀ c.0 x → (Some (else_block st₁ els) ≡ Some (record { 0 = x }) → ⊥) → Dec (x < count st₁) → Dec (x ≡ b.0) →
        Closed (terminator st₃ x)
    go x i f m d (yes u) = closes st₂ b x end (lt_of_lt_of_le q.left.0 o.blocks) tt u
    go x i f m (yes j) (no u) =
        subst Closed (sym (terminator_other st₂ b end x u ∙ o.terms x)) (q.closed x j f (λ w. u (sym (some_block w))))
    go x i f m (no j) (no u) =
        absurd (m (ap (λ (y : BasicBlockId). Some y)
        (made_only st₁ els (count st₂) x (count_else st₁ st₂ els e₂) (omega arith) (omega (arith, count_terminator st₂ b end)))))

-- a mismatch cannot be
leaves_unreachable : {st st₀ : State} {c : BasicBlockId} {els : OptBlock} (a : Ctx) (b : BasicBlockId) → Ready st c els → try_block st ≡ done st₀ →
    Tried st₀ c.0 (tried a (Some b)) → Leaves st c els (result (set_terminator a.state b Terminator.Unreachable) a.visits (next_block st) els)
leaves_unreachable {st} {st₀} {c} {els} a b h e q =
    let w : Worked st₀ c.0 st₃ = worked_seq q.worked q.left.2 (worked_terminator a.state b Terminator.Unreachable) in
    leaves_join h e w (else_apart st st₃ c els (omega (arith, count_tried st st₀ e, w.blocks)) h.else) (else_same st st₃ els) (λ x i f n m. go x i f (ℕ_discrete x b.0))
  where
    st₃ : State
    st₃ = set_terminator a.state b Terminator.Unreachable

    go : (x : ℕ) → x < count st₃ → From st₀ c.0 x → Dec (x ≡ b.0) → Closed (terminator st₃ x)
    go x i f (yes u) = closes a.state b x Terminator.Unreachable q.left.0 tt u
    go x i f (no u) =
        subst Closed (sym (terminator_other a.state b Terminator.Unreachable x u))
        (q.closed x (omega (arith, count_terminator a.state b Terminator.Unreachable)) f (λ w. u (sym (some_block w))))

-- the end of the alternatives
good_ended : (p : ℕ) (mode : MatchingMode) {st st₀ : State} {c : BasicBlockId} {els : OptBlock} (a : Ctx) (left : OptBlock) → try_block st ≡ done st₀ →
    Tried st₀ c.0 (tried a left) → Good MatchingMode.Check st c els (alternatives_end p mode (tried a left) (next_block st) els)
unfolding alternatives_end
good_ended p mode {st} {els} a None e q = good_ok (record { ctx = a; then = next_block st; else = els }) (λ h. leaves_ended a h e q) (λ b. absurd b)
good_ended p MatchingMode.Check {els} a (Some b) e q =
    good_step p (else_state a.state els) _ (λ st₂ e₂. good_ok _ (λ h. leaves_mismatch a b h e q e₂) (λ m. absurd m))
good_ended p MatchingMode.Bind a (Some b) e q = good_ok _ (λ h. leaves_unreachable a b h e q) (λ m. absurd m)
good_ended p MatchingMode.Assign a (Some b) e q = good_ok _ (λ h. leaves_unreachable a b h e q) (λ m. absurd m)

-- beyond Check it leaves the else that was supplied
ended_keeps : (p : ℕ) (mode : MatchingMode) (a : Ctx) (left : OptBlock) (join : BasicBlockId) (els : OptBlock) → Beyond mode → (r : Out) → alternatives_end p mode (tried a left) join els ≡ ok r → r.else ≡ els
unfolding alternatives_end
ended_keeps p mode a None join els m r e = sym (ap (λ (x : Out). x.else) (ok_is e))
ended_keeps p MatchingMode.Check a (Some b) join els m r e = absurd m
ended_keeps p MatchingMode.Bind a (Some b) join els m r e = sym (ap (λ (x : Out). x.else) (ok_is e))
ended_keeps p MatchingMode.Assign a (Some b) join els m r e = sym (ap (λ (x : Out). x.else) (ok_is e))

-- an Or
pub grows_or : (p : ℕ) (alts : List Lowering) → AllGrow alts → Grows (or_pattern p alts)
unfolding or_pattern
grows_or p alts g mode ctx c els place =
    let st = ctx.state in
    good_step p (try_block st) _ (λ st₀ e.
    record {
      leaves = λ h r e₁. walked (alternatives p alts mode (with_state ctx st₀) (next_block st) c place) _ e₁ (λ l e₂ e₃.
          let q = tried_all p alts g mode (with_state ctx st₀) (next_block st) c place l (started st₀ h e) e₂ in
          (good_ended p mode l.ctx l.left e q).leaves h r e₃);
      keeps = λ m r e₁. walked (alternatives p alts mode (with_state ctx st₀) (next_block st) c place) _ e₁ (λ l e₂ e₃.
          ended_keeps p mode l.ctx l.left (next_block st) els m r e₃);
    })
  where
    started : (st₀ : State) → Ready ctx.state c els → try_block ctx.state ≡ done st₀ → Ready st₀ c None
    started st₀ h e =
        let o : Opens ctx.state c.0 st₀ = opens_block ctx.state st₀ c.0 e in
        record {
          inside = lt_of_lt_of_le h.inside o.blocks;
          opened = o.terms c.0 ∙ h.opened;
          else = tt;
          lines = lines_below (opens_worked h.inside o) h.lines;
        }
