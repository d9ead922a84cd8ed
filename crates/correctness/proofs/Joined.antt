-- An Or leads where its alternatives do: on where one of them matches, and else to the else. Assumes nothing.
use Rattle.std.specs.Prelude.{Some, None}
use Prim.Native.Nat.{ℕ, suc, ◌≤◌, ◌<◌}
use native.Mathlib.Nat.{le_refl, le_trans, lt_of_lt_of_le}
use native.Mathlib.Omega.{arith}
use mathlib.Core.Path.{◌≡◌, refl, sym, ap, subst, ◌∙◌}
use mathlib.Core.Logic.{◌≢◌, inl, inr}
use mathlib.Core.Bool.{Bool, true, false}
use mathlib.Core.List.{List, []}
use lib.Dec.{ltb}
use lib.ListN.{length}
use Rattle.refusals.specs.Refusals.{done}
use Rattle.place.specs.declared.Place.{Place}
use Rattle.mir.specs.declared.BasicBlockId.{BasicBlockId}
use Rattle.mir.specs.declared.blocks.Terminator.{Terminator}
use Rattle.mir.specs.Blocks.{block_limit}
use Rattle.state.specs.State.{State}
use Rattle.state.specs.Steps.{next_block, new_block, try_block, set_terminator}
use Rattle.lower_spec.specs.Results.{OptBlock}
use Rattle.lower_spec.specs.Merging.{set_goto}
use Rattle.views.specs.Views.{Line, Mir, mir_of}
use Rattle.views.specs.Growing.{Closed, GoesOn}
use Rattle.pattern_matching.specs.declared.MatchingMode.{MatchingMode}
use Rattle.pattern_matching.specs.Walking.{Ctx, Out, ok, Lowering, with_state, else_state, else_block}
use Rattle.pattern_matching.specs.Patterns.{Alternatives, alternatives, alternatives_end, or_pattern}
use Rattle.growth.specs.Opened.{count, terminator, lines, Ready, From, Worked, Leaves}
use Rattle.growth.proofs.States.{count_block}
use Rattle.growth.proofs.Working.{worked_seq, worked_terminator, lines_below, goes_on_lem, goes_on_trans}
use Rattle.growth.proofs.Opening.{Opens, opens_worked, opens_block, opens_else, count_tried}
use Rattle.growth.proofs.Leaving.{some_block, not_none, fresh}
use Rattle.growth.proofs.Walks.{ok_is, walked}
use Rattle.growth.proofs.Alternating.{LeftFrom, Tried, tried, tried_all}
use Rattle.growth.proofs.Joining.{grows_or}
use Rattle.meaning.specs.Running.{Env, Scene}
use Rattle.meaning.specs.Matching.{Bound}
use Rattle.correctness.proofs.Trails.{Landing, trail_earlier}
use Rattle.correctness.proofs.Walking.{rest, worked_locals, Walked, Lands, on, off, walked_later, walked_enter}
use Rattle.correctness.proofs.Landing.{landing_else}
use Rattle.correctness.proofs.Standing.{stepped}
use Rattle.correctness.proofs.Doing.{given, terminator_is}
use Rattle.correctness.proofs.Choosing.{Waits, waits_carry, Tries, found, missed, any_of, first_where, Choices, choices_grow, walked_goto, tries}

-- the start is the state with one block more
walked_start : {scene : Scene} {bindings : List ℕ} {M : Mir} {ctx ctx₁ : Ctx} {c b : ℕ} {env : Env} {bs : List Bound} {left : List Line} (st₀ : State) → try_block ctx.state ≡ done st₀ →
    Walked scene bindings M (with_state ctx st₀) c env bs ctx₁ b left → Walked scene bindings M ctx c env bs ctx₁ b left
unfolding try_block new_block rest
walked_start {scene} {bindings} {M} {ctx} {ctx₁} {c} {b} {env} {bs} {left} st₀ e w =
    subst (λ (s : State). Walked scene bindings M (with_state ctx s) c env bs ctx₁ b left → Walked scene bindings M ctx c env bs ctx₁ b left)
    (given (ltb (length ctx.state.blocks) block_limit) (new_block ctx.state) st₀ e)
    (λ w. record {
      env' = w.env';
      entered = w.entered;
      run = w.run;
      locals = w.locals;
      trail = trail_earlier (let n : count (new_block ctx.state) ≡ suc (count ctx.state) = count_block ctx.state in omega arith) w.trail;
    }) w

-- the lines are the same with an else
else_lines : (M : Mir) (st st₁ : State) (els : OptBlock) → else_state st els ≡ done st₁ → rest st₁ M ≡ rest st M
unfolding else_state try_block new_block rest
else_lines M st st₁ (Some b) e = let same : st₁ ≡ st = cc in ap (λ (s : State). rest s M) same
else_lines M st st₁ None e = ap (λ (s : State). rest s M) (sym (given (ltb (length st.blocks) block_limit) (new_block st) st₁ e))

-- and with a terminator set
set_lines : (M : Mir) (st : State) (b : BasicBlockId) (t : Terminator) → rest (set_terminator st b t) M ≡ rest st M
unfolding set_terminator rest
set_lines M st b t = refl

module _ {scene : Scene} {bindings : List ℕ} {M : Mir} {ctx : Ctx} {c : BasicBlockId} {env : Env} {bs : List Bound} where
  -- at the block where the alternatives join, when the rest is done
  joined : (a : Ctx) (st : State) (join b : BasicBlockId) → Walked scene bindings M ctx c.0 env bs a join.0 M.lines → Waits a.state b.0 join.0 → Worked a.state b.0 st →
      terminator a.state b.0 ≡ Terminator.Open → GoesOn (mir_of st) M → Walked scene bindings M ctx c.0 env bs (with_state a st) join.0 (rest st M)
  joined a st join b w i g o x =
      let later : Walked scene bindings M ctx c.0 env bs (with_state a st) join.0 M.lines = walked_later w (goes_on_lem g o) g.blocks in
      walked_enter later x (waits_carry b.0 join.0 g (λ _. refl) i).quiet

  -- the end of the alternatives, in every mode: where one of them matched
  pub found_ends : (p : ℕ) (mode : MatchingMode) (a : Ctx) (left : OptBlock) (join : BasicBlockId) (els : OptBlock) {st₀ : State} (r : Out) → Tried st₀ c.0 (tried a left) →
      Waits st₀ c.0 join.0 → Walked scene bindings M ctx c.0 env bs a join.0 M.lines → alternatives_end p mode (tried a left) join els ≡ ok r → GoesOn (mir_of r.ctx.state) M →
      Walked scene bindings M ctx c.0 env bs r.ctx r.then.0 (rest r.ctx.state M)
  unfolding alternatives_end
  found_ends p mode a None join els r t i w is x =
      subst (λ (y : Out). GoesOn (mir_of y.ctx.state) M → Walked scene bindings M ctx c.0 env bs y.ctx y.then.0 (rest y.ctx.state M)) (ok_is is)
      (λ x. walked_enter w x (waits_carry c.0 join.0 t.worked (λ _. refl) i).quiet) x
  found_ends p MatchingMode.Check a (Some b) join els r t i w is x =
      let i₁ = waits_carry b.0 join.0 t.worked t.left.2 i in
      stepped p (else_state a.state els) _ is (λ st₂ e₂ is₂.
      let e = else_block a.state els in
      subst (λ (y : Out). GoesOn (mir_of y.ctx.state) M → Walked scene bindings M ctx c.0 env bs y.ctx y.then.0 (rest y.ctx.state M)) (ok_is is₂)
      (λ x. joined a (set_goto st₂ b e) join b w i₁
      (worked_seq (opens_worked t.left.0 (opens_else a.state st₂ b.0 els e₂)) (λ _. refl) (worked_terminator st₂ b (Terminator.Goto e))) t.left.1 x) x)
  found_ends p MatchingMode.Bind a (Some b) join els r t i w is x =
      let i₁ = waits_carry b.0 join.0 t.worked t.left.2 i in
      subst (λ (y : Out). GoesOn (mir_of y.ctx.state) M → Walked scene bindings M ctx c.0 env bs y.ctx y.then.0 (rest y.ctx.state M)) (ok_is is)
      (λ x. joined a (set_terminator a.state b Terminator.Unreachable) join b w i₁ (worked_terminator a.state b Terminator.Unreachable) t.left.1 x) x
  found_ends p MatchingMode.Assign a (Some b) join els r t i w is x =
      let i₁ = waits_carry b.0 join.0 t.worked t.left.2 i in
      subst (λ (y : Out). GoesOn (mir_of y.ctx.state) M → Walked scene bindings M ctx c.0 env bs y.ctx y.then.0 (rest y.ctx.state M)) (ok_is is)
      (λ x. joined a (set_terminator a.state b Terminator.Unreachable) join b w i₁ (worked_terminator a.state b Terminator.Unreachable) t.left.1 x) x

  -- the end of the alternatives in Check: where none of them matched
  missed_ends : (p : ℕ) (a : Ctx) (left : OptBlock) (join : BasicBlockId) (els : OptBlock) (b : BasicBlockId) (r : Out) → left ≡ Some b → count ctx.state ≤ count a.state →
      From ctx.state c.0 b.0 → b.0 < count a.state → terminator a.state b.0 ≡ Terminator.Open → length ctx.state.locals ≤ length a.state.locals →
      Walked scene bindings M ctx c.0 env [] a b.0 (rest a.state M) → Ready ctx.state c els → alternatives_end p MatchingMode.Check (tried a left) join els ≡ ok r →
      Leaves ctx.state c els r → GoesOn (mir_of r.ctx.state) M → Lands scene bindings M ctx c.0 env bs r false
  unfolding alternatives_end
  missed_ends p a None join els b r q grew fb ib o s w h is k x = absurd (not_none q)
  missed_ends p a (Some b') join els b r q grew fb ib o s w h is k x =
      stepped p (else_state a.state els) _ is (λ st₂ e₂ is₂.
      let e = else_block a.state els in
      let same : b'.0 ≡ b.0 = some_block q in
      let is₃ = subst (λ (z : ℕ). ok (record { ctx = with_state a (set_goto st₂ (record { 0 = z }) e); then = join; else = Some e }) ≡ ok r) same is₂ in
      subst (λ (y : Out). Leaves ctx.state c els y → GoesOn (mir_of y.ctx.state) M → Lands scene bindings M ctx c.0 env bs y false) (ok_is is₃)
      (λ k x. by st₂ e (set_goto st₂ b e) e₂ refl k x) k x)
    where
      by : (st₂ : State) (e : BasicBlockId) (st₃ : State) → else_state a.state els ≡ done st₂ → st₃ ≡ set_goto st₂ b e →
          Leaves ctx.state c els (record { ctx = with_state a st₃; then = join; else = Some e }) → GoesOn (mir_of st₃) M →
          Lands scene bindings M ctx c.0 env bs (record { ctx = with_state a st₃; then = join; else = Some e }) false
      by st₂ e st₃ e₂ set k x =
          let u = opens_else a.state st₂ b.0 els e₂ in
          let g : Worked a.state b.0 st₃ = subst (Worked a.state b.0) (sym set) (worked_seq (opens_worked ib u) (λ _. refl) (worked_terminator st₂ b (Terminator.Goto e))) in
          let et : terminator st₃ b.0 ≡ Terminator.Goto e = ap (λ (z : State). terminator z b.0) set ∙ terminator_is st₂ b (Terminator.Goto e) (lt_of_lt_of_le ib u.blocks) tt in
          let land : Landing ctx.state c.0 st₃ e.0 = landing_else ctx.state st₃ c els (Some e) e h.else k.else refl in
          off e refl (walked_goto a (with_state a st₃) b e w s grew fb g.blocks ib k.ready.else.0 (goes_on_lem g o) x
          (ap (λ (z : State). rest z M) set ∙ set_lines M st₂ b (Terminator.Goto e) ∙ else_lines M a.state st₂ els e₂) et (apart (subst Closed (sym et) tt) land) land)
        where
          apart : Closed (terminator st₃ b.0) → Landing ctx.state c.0 st₃ e.0 → b.0 ≢ e.0
          apart z (inl opened) y = subst Closed (ap (terminator st₃) y ∙ opened) z
          apart z (inr old) y = old.1 (sym y ∙ fb (subst (λ (n : ℕ). n < count ctx.state) (sym y) old.0))

-- a body that goes on from the end goes on from the alternatives
end_goes_on : {M : Mir} {st₀ : State} {c : ℕ} (p : ℕ) (mode : MatchingMode) (a : Ctx) (left : OptBlock) (join : BasicBlockId) (els : OptBlock) (r : Out) → Tried st₀ c (tried a left) →
    alternatives_end p mode (tried a left) join els ≡ ok r → GoesOn (mir_of r.ctx.state) M → GoesOn (mir_of a.state) M
unfolding alternatives_end
end_goes_on {M} p mode a None join els r t is x = subst (λ (y : Out). GoesOn (mir_of y.ctx.state) M) (sym (ok_is is)) x
end_goes_on {M} p MatchingMode.Check a (Some b) join els r t is x =
    stepped p (else_state a.state els) _ is (λ st₂ e₂ is₂.
    goes_on_trans (goes_on_lem (worked_seq (opens_worked t.left.0 (opens_else a.state st₂ b.0 els e₂)) (λ _. refl) (worked_terminator st₂ b (Terminator.Goto (else_block a.state els)))) t.left.1)
    (subst (λ (y : Out). GoesOn (mir_of y.ctx.state) M) (sym (ok_is is₂)) x))
end_goes_on {M} p MatchingMode.Bind a (Some b) join els r t is x =
    goes_on_trans (goes_on_lem (worked_terminator a.state b Terminator.Unreachable) t.left.1) (subst (λ (y : Out). GoesOn (mir_of y.ctx.state) M) (sym (ok_is is)) x)
end_goes_on {M} p MatchingMode.Assign a (Some b) join els r t is x =
    goes_on_trans (goes_on_lem (worked_terminator a.state b Terminator.Unreachable) t.left.1) (subst (λ (y : Out). GoesOn (mir_of y.ctx.state) M) (sym (ok_is is)) x)

-- where the alternatives start, and the block where they join
pub record Started (st : State) (c : BasicBlockId) (st₀ : State) : Type 0 where
  pub ready : Ready st₀ c None
  pub waits : Waits st₀ c.0 (count st)
  pub worked : Worked st c.0 st₀

-- with one block more the alternatives may start
started : {st : State} {c : BasicBlockId} {els : OptBlock} (st₀ : State) → Ready st c els → try_block st ≡ done st₀ → Started st c st₀
started {st} {c} st₀ h e =
    let o : Opens st c.0 st₀ = opens_block st st₀ c.0 e in
    let inn = h.inside in
    let new = fresh (count st) o h.lines inn (le_refl _) in
    record {
      ready = record { inside = lt_of_lt_of_le inn o.blocks; opened = o.terms c.0 ∙ h.opened; else = tt; lines = lines_below (opens_worked inn o) h.lines };
      waits = record { inside = omega (arith, count_tried st st₀ e); opened = new.0; quiet = new.1; apart = omega arith };
      worked = opens_worked inn o;
    }

module _ {Inv : Ctx → Type 0} {scene : Scene} {bindings : List ℕ} {M : Mir} {mode : MatchingMode} {place : Place}
    (keep : (ctx ctx₁ : Ctx) (c : ℕ) → Worked ctx.state c ctx₁.state → Inv ctx → Inv ctx₁) where
  -- the parts of an Or that was walked, and what its alternatives lead to
  or_parts : {C : Type 0} {ls : List Lowering} {bs : List Bool} {bss : List (List Bound)} (p : ℕ) → Choices Inv scene bindings M mode place ls bs bss →
      (ctx : Ctx) (c : BasicBlockId) (els : OptBlock) → Inv ctx → Ready ctx.state c els → (r : Out) → or_pattern p ls mode ctx c els place ≡ ok r → GoesOn (mir_of r.ctx.state) M → (env : Env) →
      ((st₀ : State) (a : Ctx) (left : OptBlock) → try_block ctx.state ≡ done st₀ → Started ctx.state c st₀ → Tried st₀ c.0 (tried a left) →
      Tries scene bindings M (with_state ctx st₀) c.0 env (first_where bs bss) (next_block ctx.state) (tried a left) (any_of bs) →
      alternatives_end p mode (tried a left) (next_block ctx.state) els ≡ ok r → C) → C
  unfolding or_pattern
  or_parts {ls = ls} p choices ctx c els inv h r is x env k =
      stepped p (try_block ctx.state) _ is (λ st₀ e₀ is₀.
      walked (alternatives p ls mode (with_state ctx st₀) (next_block ctx.state) c place) _ is₀ (λ l e₁ is₁.
      let b = started st₀ h e₀ in
      let t : Tried st₀ c.0 l = tried_all p ls (choices_grow choices) mode (with_state ctx st₀) (next_block ctx.state) c place l b.ready e₁ in
      let inv₀ : Inv (with_state ctx st₀) = keep ctx (with_state ctx st₀) c.0 b.worked inv in
      k st₀ l.ctx l.left e₀ b t
      (tries keep p choices (with_state ctx st₀) (next_block ctx.state) c inv₀ b.ready b.waits l e₁ (end_goes_on p mode l.ctx l.left (next_block ctx.state) els r t is₁ x) env) is₁))

  -- an Or where one of its alternatives matches, in every mode
  pub walked_or : {ls : List Lowering} {bs : List Bool} {bss : List (List Bound)} (p : ℕ) → Choices Inv scene bindings M mode place ls bs bss →
      (ctx : Ctx) (c : BasicBlockId) (els : OptBlock) → Inv ctx → Ready ctx.state c els → (r : Out) → or_pattern p ls mode ctx c els place ≡ ok r → GoesOn (mir_of r.ctx.state) M → (env : Env) →
      any_of bs ≡ true → Walked scene bindings M ctx c.0 env (first_where bs bss) r.ctx r.then.0 (rest r.ctx.state M)
  walked_or {bs = bs} {bss = bss} p choices ctx c els inv h r is x env e =
      or_parts p choices ctx c els inv h r is x env (λ st₀ a left e₀ b t u is₁.
      found_ends p mode a left (next_block ctx.state) els r t b.waits
      (walked_start st₀ e₀ (led (subst (Tries scene bindings M (with_state ctx st₀) c.0 env (first_where bs bss) (next_block ctx.state) (tried a left)) e u))) is₁ x)
    where
      led : {ctx₀ : Ctx} {join : BasicBlockId} {l : Alternatives} → Tries scene bindings M ctx₀ c.0 env (first_where bs bss) join l true →
          Walked scene bindings M ctx₀ c.0 env (first_where bs bss) l.ctx join.0 M.lines
      led (found w) = w

-- an Or in Check
pub lands_or : {Inv : Ctx → Type 0} {scene : Scene} {bindings : List ℕ} {M : Mir} {place : Place}
    (keep : (ctx ctx₁ : Ctx) (c : ℕ) → Worked ctx.state c ctx₁.state → Inv ctx → Inv ctx₁)
    {ls : List Lowering} {bs : List Bool} {bss : List (List Bound)} (p : ℕ) → Choices Inv scene bindings M MatchingMode.Check place ls bs bss →
    (ctx : Ctx) (c : BasicBlockId) (els : OptBlock) → Inv ctx → Ready ctx.state c els → (r : Out) → or_pattern p ls MatchingMode.Check ctx c els place ≡ ok r →
    GoesOn (mir_of r.ctx.state) M → (env : Env) → Lands scene bindings M ctx c.0 env (first_where bs bss) r (any_of bs)
lands_or {Inv} {scene} {bindings} {M} {place} keep {ls} {bs} {bss} p choices ctx c els inv h r is x env =
    let q : Leaves ctx.state c els r = (grows_or p ls (choices_grow choices) MatchingMode.Check ctx c els place).leaves h r is in
    or_parts keep p choices ctx c els inv h r is x env (λ st₀ a left e₀ b t u is₁. by st₀ a left e₀ b t q is₁ (any_of bs) u)
  where
    by : (st₀ : State) (a : Ctx) (left : OptBlock) → try_block ctx.state ≡ done st₀ → Started ctx.state c st₀ → Tried st₀ c.0 (tried a left) →
        Leaves ctx.state c els r → alternatives_end p MatchingMode.Check (tried a left) (next_block ctx.state) els ≡ ok r → (y : Bool) →
        Tries scene bindings M (with_state ctx st₀) c.0 env (first_where bs bss) (next_block ctx.state) (tried a left) y → Lands scene bindings M ctx c.0 env (first_where bs bss) r y
    by st₀ a left e₀ b t q is₁ _ (found w) = on (found_ends p MatchingMode.Check a left (next_block ctx.state) els r t b.waits (walked_start st₀ e₀ w) is₁ x)
    by st₀ a left e₀ b t q is₁ _ (missed z i w) =
        let f = subst (LeftFrom st₀ c.0 a.state) i t.left in
        missed_ends p a left (next_block ctx.state) els z r i (le_trans b.worked.blocks t.worked.blocks) (λ j. f.2 (lt_of_lt_of_le j b.worked.blocks)) f.0 f.1
        (le_trans (worked_locals b.worked) (worked_locals t.worked)) (walked_start st₀ e₀ w) h is₁ q x
