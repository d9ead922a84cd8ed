-- The alternatives of an Or, in every mode: the first that matches leads to the block where they join. Assumes nothing.
use Rattle.std.specs.Prelude.{Some, None}
use lib.ListN.{length}
use Prim.Native.Nat.{ℕ, ◌≤◌, ◌<◌}
use native.Mathlib.Nat.{lt_of_lt_of_le}
use native.Mathlib.Omega.{arith}
use mathlib.Core.Path.{◌≡◌, refl, sym, subst, ◌∙◌}
use mathlib.Core.Logic.{◌≢◌, inl}
use mathlib.Core.Bool.{Bool, true, false, cond, ◌||◌}
use mathlib.Core.List.{List, [], ◌∷◌, append-nil}
use Rattle.place.specs.declared.Place.{Place}
use Rattle.mir.specs.declared.BasicBlockId.{BasicBlockId}
use Rattle.mir.specs.declared.blocks.Terminator.{Terminator}
use Rattle.state.specs.State.{State}
use Rattle.state.specs.Steps.{set_terminator}
use Rattle.lower_spec.specs.Results.{OptBlock}
use Rattle.lower_spec.specs.Merging.{set_goto}
use Rattle.views.specs.Views.{Line, Mir, mir_of}
use Rattle.views.specs.Growing.{Closed, Quiet, GoesOn}
use Rattle.pattern_matching.specs.declared.MatchingMode.{MatchingMode}
use Rattle.pattern_matching.specs.Walking.{Ctx, Out, ok, Lowering, with_state}
use Rattle.pattern_matching.specs.Patterns.{Alternatives, behind, alternative, alternatives}
use Rattle.growth.specs.Opened.{count, terminator, lines, ElseReady, Ready, From, Worked, ElseLeft, Leaves}
use Rattle.growth.proofs.Working.{other, worked_seq, worked_terminator, goes_on_lem, goes_on_trans}
use Rattle.growth.proofs.Leaving.{some_block, not_none, idle_carry}
use Rattle.growth.proofs.Walks.{ok_is, walked, Grows, AllGrow}
use Rattle.growth.proofs.Alternating.{good_alternative, LeftFrom, Tried, tried, tried_one, tried_ready, tried_all}
use Rattle.meaning.specs.Running.{Env, Scene, Run}
use Rattle.meaning.specs.Matching.{Bound}
use Rattle.correctness.specs.Demand2.{held_after}
use Rattle.correctness.proofs.Trails.{Landing, trail_one}
use Rattle.correctness.proofs.Walking.{rest, hop, worked_locals, Walked, Lands, on, off, walked_here, walked_seq, walked_later, walked_enter}
use Rattle.correctness.proofs.Doing.{terminator_is}

-- a block that waits: it is open, has no line, and is not current
pub record Waits (st : State) (current b : ℕ) : Type 0 where
  pub inside : b < count st
  pub opened : terminator st b ≡ Terminator.Open
  pub quiet : Quiet b (lines st)
  pub apart : b ≢ current

-- it waits while work is done elsewhere
pub waits_carry : {st st₁ : State} {current : ℕ} (next b : ℕ) → Worked st current st₁ → From st current next → Waits st current b → Waits st₁ next b
waits_carry {st} {st₁} {current} next b w f i =
    let idle = idle_carry b w i.inside i.apart i.opened i.quiet in
    record { inside = lt_of_lt_of_le i.inside w.blocks; opened = idle.0; quiet = idle.1; apart = other st current b next i.inside i.apart f }

-- what the loop over alternatives leads to: the block where they join, on reaching it, or the block where the last of them does not match, behind its lines
pub data Tries (scene : Scene) (bindings : List ℕ) (M : Mir) (ctx : Ctx) (current : ℕ) (env : Env) (bs : List Bound) (join : BasicBlockId) (l : Alternatives) : Bool → Type 0 where
  found : Walked scene bindings M ctx current env bs l.ctx join.0 M.lines → Tries scene bindings M ctx current env bs join l true
  missed : (b : BasicBlockId) → l.left ≡ Some b → Walked scene bindings M ctx current env [] l.ctx b.0 (rest l.ctx.state M) →
      Tries scene bindings M ctx current env bs join l false

-- one of them holds
unfoldable pub any_of : List Bool → Bool
any_of [] = false
any_of (b ∷ bs) = b || any_of bs

-- what the first that holds binds
unfoldable pub first_where : List Bool → List (List Bound) → List Bound
first_where [] bss = []
first_where (b ∷ bs) [] = []
first_where (b ∷ bs) (x ∷ bss) = cond b x (first_where bs bss)

-- In a mode, an alternative at a place leads on with the bindings bs where b says, from every context of which Inv holds
pub record Choice (Inv : Ctx → Type 0) (scene : Scene) (bindings : List ℕ) (M : Mir) (mode : MatchingMode) (place : Place) (l : Lowering) (b : Bool) (bs : List Bound) : Type 0 where
  pub grows : Grows l
  pub lands : (ctx : Ctx) (c : BasicBlockId) → Inv ctx → Ready ctx.state c None → (r : Out) → alternative l mode ctx c place ≡ ok r → GoesOn (mir_of r.ctx.state) M →
      (env : Env) → Lands scene bindings M ctx c.0 env bs r b

pub data Choices (Inv : Ctx → Type 0) (scene : Scene) (bindings : List ℕ) (M : Mir) (mode : MatchingMode) (place : Place) : List Lowering → List Bool → List (List Bound) → Type 0 where
  nil : Choices Inv scene bindings M mode place [] [] []
  cons : {l : Lowering} {b : Bool} {x : List Bound} {ls : List Lowering} {bs : List Bool} {bss : List (List Bound)} → Choice Inv scene bindings M mode place l b x →
      Choices Inv scene bindings M mode place ls bs bss → Choices Inv scene bindings M mode place (l ∷ ls) (b ∷ bs) (x ∷ bss)

module _ {Inv : Ctx → Type 0} {scene : Scene} {bindings : List ℕ} {M : Mir} {mode : MatchingMode} {place : Place} where
  -- all choices grow a body well
  pub choices_grow : {ls : List Lowering} {bs : List Bool} {bss : List (List Bound)} → Choices Inv scene bindings M mode place ls bs bss → AllGrow ls
  choices_grow nil = tt
  choices_grow (cons h a) = (h.grows, choices_grow a)

module _ {scene : Scene} {bindings : List ℕ} {M : Mir} {ctx : Ctx} {c : BasicBlockId} {env : Env} where
  -- a block closed by a jump to another: a walk that came to the first comes to the second
  pub walked_goto : {bs : List Bound} (ctx₁ ctx₂ : Ctx) (b t : BasicBlockId) → Walked scene bindings M ctx c.0 env bs ctx₁ b.0 (rest ctx₁.state M) → length ctx.state.locals ≤ length ctx₁.state.locals →
      count ctx.state ≤ count ctx₁.state → From ctx.state c.0 b.0 → count ctx₁.state ≤ count ctx₂.state → b.0 < count ctx₁.state → t.0 < count ctx₂.state →
      GoesOn (mir_of ctx₁.state) (mir_of ctx₂.state) → GoesOn (mir_of ctx₂.state) M → rest ctx₂.state M ≡ rest ctx₁.state M →
      terminator ctx₂.state b.0 ≡ Terminator.Goto t → b.0 ≢ t.0 → Landing ctx.state c.0 ctx₂.state t.0 →
      Walked scene bindings M ctx c.0 env bs ctx₂ t.0 M.lines
  unfolding held_after
  walked_goto {bs} ctx₁ ctx₂ b t w s h f h₁ ib it x y er et ne o =
      let u : Walked scene bindings M ctx₁ b.0 w.env' [] ctx₂ t.0 M.lines =
      record {
        env' = w.env';
        entered = t.0 ∷ [];
        run = subst (λ (r : List Line). Run scene M b.0 r w.env' t.0 M.lines w.env' (t.0 ∷ [])) er (hop ctx₂.state b.0 t w.env' y et);
        locals = λ l i. refl;
        trail = trail_one ne (subst Closed (sym et) tt) (lt_of_lt_of_le ib h₁) it;
      } in
      subst (λ (z : List Bound). Walked scene bindings M ctx c.0 env z ctx₂ t.0 M.lines) (append-nil bs) (walked_seq w u s h h₁ x o f)

  -- an alternative that matched, at the block where the alternatives join
  matched : {bs : List Bound} (join : BasicBlockId) (r : Out) → Leaves ctx.state c None r → Waits ctx.state c.0 join.0 →
      GoesOn (mir_of (set_goto r.ctx.state r.then join)) M → Walked scene bindings M ctx c.0 env bs r.ctx r.then.0 (rest r.ctx.state M) →
      Walked scene bindings M ctx c.0 env bs (with_state r.ctx (set_goto r.ctx.state r.then join)) join.0 M.lines
  unfolding set_terminator rest
  matched join r q i x w =
      let st₁ = r.ctx.state in
      let g = worked_terminator st₁ r.then (Terminator.Goto join) in
      let i₁ : Waits st₁ r.then.0 join.0 = waits_carry r.then.0 join.0 q.worked q.then i in
      let i₂ : Waits (set_goto st₁ r.then join) r.then.0 join.0 = waits_carry r.then.0 join.0 g (λ _. refl) i₁ in
      walked_goto r.ctx (with_state r.ctx (set_goto st₁ r.then join)) r.then join w (worked_locals q.worked) q.worked.blocks q.then g.blocks q.ready.inside i₂.inside
      (goes_on_lem g q.ready.opened) x refl (terminator_is st₁ r.then (Terminator.Goto join) q.ready.inside tt) (λ e. i₁.apart (sym e)) (inl i₂.opened)

  -- from where an alternative did not match, what the ones behind it lead to
  resumed : {bs : List Bound} {b : Bool} (join : BasicBlockId) (ctx₁ : Ctx) (e : BasicBlockId) (l : Alternatives) → Worked ctx.state c.0 ctx₁.state →
      From ctx.state c.0 e.0 → terminator ctx₁.state e.0 ≡ Terminator.Open → Tried ctx₁.state e.0 l → Waits ctx₁.state e.0 join.0 →
      (w : Walked scene bindings M ctx c.0 env [] ctx₁ e.0 (rest ctx₁.state M)) → Tries scene bindings M ctx₁ e.0 w.env' bs join l b →
      Tries scene bindings M ctx c.0 env bs join l b
  resumed join ctx₁ e l f fe o t i w (found u) =
      found (walked_seq w u (worked_locals f) f.blocks t.worked.blocks (goes_on_lem t.worked o) (inl (waits_carry e.0 join.0 t.worked (λ _. refl) i).opened) fe)
  resumed join ctx₁ e l f fe o t i w (missed b q u) =
      missed b q (walked_seq w u (worked_locals f) f.blocks t.worked.blocks (goes_on_lem t.worked o)
      (inl (subst (LeftFrom ctx₁.state e.0 l.ctx.state) q t.left).1) fe)

  -- an alternative behind which there is none
  pub tries_last : {bs : List Bound} {b : Bool} (bs' : List Bound) (b' : Bool) (join : BasicBlockId) (r : Out) → r.else ≡ None → Leaves ctx.state c None r →
      Waits ctx.state c.0 join.0 → GoesOn (mir_of (set_goto r.ctx.state r.then join)) M → Lands scene bindings M ctx c.0 env bs r b →
      Tries scene bindings M ctx c.0 env (cond b bs bs') join (tried (with_state r.ctx (set_goto r.ctx.state r.then join)) None) (b || b')
  tries_last bs' b' join r none q i x (on w) = found (matched join r q i x w)
  tries_last bs' b' join r none q i x (off e k w) = absurd (not_none (sym none ∙ k))

  -- an alternative that can fail, and those behind it
  pub tries_more : {bs bs' : List Bound} {b b' : Bool} (join : BasicBlockId) (r : Out) (e : BasicBlockId) (l : Alternatives) → r.else ≡ Some e →
      Leaves ctx.state c None r → Waits ctx.state c.0 join.0 →
      Tried (set_goto r.ctx.state r.then join) e.0 l → Ready (set_goto r.ctx.state r.then join) e None → GoesOn (mir_of l.ctx.state) M →
      Lands scene bindings M ctx c.0 env bs r b →
      ((env : Env) → Waits (set_goto r.ctx.state r.then join) e.0 join.0 →
      Tries scene bindings M (with_state r.ctx (set_goto r.ctx.state r.then join)) e.0 env bs' join l b') →
      Tries scene bindings M ctx c.0 env (cond b bs bs') join l (b || b')
  unfolding set_terminator mir_of
  tries_more join r e l is q i t h x (on w) k =
      let y = goes_on_trans (goes_on_lem t.worked h.opened) x in
      found (walked_later (matched join r q i y w) (goes_on_lem t.worked h.opened) t.worked.blocks)
  tries_more join r e l is q i t h x (off e' is' w) k =
      let st₁ = r.ctx.state in
      let g = worked_terminator st₁ r.then (Terminator.Goto join) in
      let ctx₁ = with_state r.ctx (set_goto st₁ r.then join) in
      let new : ElseLeft ctx.state None st₁ (Some e) = subst (ElseLeft ctx.state None st₁) is q.else in
      let there : ElseReady st₁ r.then (Some e) = subst (ElseReady st₁ r.then) is q.ready.else in
      let same : e'.0 ≡ e.0 = some_block (sym is' ∙ is) in
      let idle = idle_carry e.0 g there.0 there.1 new.1 new.2 in
      let w₁ : Walked scene bindings M ctx c.0 env [] r.ctx e.0 M.lines = subst (λ (z : ℕ). Walked scene bindings M ctx c.0 env [] r.ctx z M.lines) same w in
      let w₂ : Walked scene bindings M ctx c.0 env [] ctx₁ e.0 M.lines = walked_later w₁ (goes_on_lem g q.ready.opened) g.blocks in
      let w₃ = walked_enter w₂ (goes_on_trans (goes_on_lem t.worked h.opened) x) idle.1 in
      let fe : From ctx.state c.0 e.0 = λ j. absurd (let n = new.0 in omega arith) in
      let f = worked_seq q.worked q.then g in
      let i₁ : Waits ctx₁.state e.0 join.0 = waits_carry e.0 join.0 f fe i in
      resumed join ctx₁ e l f fe h.opened t i₁ w₃ (k w₃.env' i₁)

module _ {Inv : Ctx → Type 0} {scene : Scene} {bindings : List ℕ} {M : Mir} {mode : MatchingMode} {place : Place}
    (keep : (ctx ctx₁ : Ctx) (c : ℕ) → Worked ctx.state c ctx₁.state → Inv ctx → Inv ctx₁) where
  -- the loop over alternatives
  pub tries : {ls : List Lowering} {bs : List Bool} {bss : List (List Bound)} (p : ℕ) → Choices Inv scene bindings M mode place ls bs bss → (ctx : Ctx) (join c : BasicBlockId) → Inv ctx →
      Ready ctx.state c None → Waits ctx.state c.0 join.0 → (l : Alternatives) → alternatives p ls mode ctx join c place ≡ ok l → GoesOn (mir_of l.ctx.state) M →
      (env : Env) → Tries scene bindings M ctx c.0 env (first_where bs bss) join l (any_of bs)
  unfolding alternatives any_of first_where
  tries p nil ctx join c inv h i l is x env =
      subst (λ (y : Alternatives). Tries scene bindings M ctx c.0 env [] join y false) (ok_is is) (missed c refl (walked_here ctx c.0 env h.inside))
  tries {ls = alt ∷ ls} {bs = b ∷ bs} {bss = xs ∷ bss} p (cons m a) ctx join c inv h i l is x env =
      walked (alternative alt mode ctx c place) _ is (λ r e₁ e₂.
      let q : Leaves ctx.state c None r = (good_alternative alt m.grows mode ctx c place).leaves h r e₁ in
      let ctx₁ = with_state r.ctx (set_goto r.ctx.state r.then join) in
      let f = worked_seq q.worked q.then (worked_terminator r.ctx.state r.then (Terminator.Goto join)) in
      let inv₁ : Inv ctx₁ = keep ctx ctx₁ c.0 f inv in
      ended r r.else refl q (m.lands ctx c inv h r e₁)
      (λ e h₁ e₃ env i₁. tries p a ctx₁ join e inv₁ h₁ i₁ l e₃ x env) e₂)
    where
      ended : (r : Out) (els : OptBlock) → r.else ≡ els → Leaves ctx.state c None r →
          (GoesOn (mir_of r.ctx.state) M → (env : Env) → Lands scene bindings M ctx c.0 env xs r b) →
          ((e : BasicBlockId) → Ready (set_goto r.ctx.state r.then join) e None → alternatives p ls mode (with_state r.ctx (set_goto r.ctx.state r.then join)) join e place ≡ ok l → (env : Env) →
          Waits (set_goto r.ctx.state r.then join) e.0 join.0 →
          Tries scene bindings M (with_state r.ctx (set_goto r.ctx.state r.then join)) e.0 env (first_where bs bss) join l (any_of bs)) →
          behind els (with_state r.ctx (set_goto r.ctx.state r.then join)) (λ e. alternatives p ls mode (with_state r.ctx (set_goto r.ctx.state r.then join)) join e place) ≡ ok l →
          Tries scene bindings M ctx c.0 env (cond b xs (first_where bs bss)) join l (b || any_of bs)
      ended r None none q lands k is =
          let g = worked_terminator r.ctx.state r.then (Terminator.Goto join) in
          subst (λ (y : Alternatives). GoesOn (mir_of y.ctx.state) M → Tries scene bindings M ctx c.0 env (cond b xs (first_where bs bss)) join y (b || any_of bs)) (ok_is is)
          (λ x. tries_last (first_where bs bss) (any_of bs) join r none q i x (lands (goes_on_trans (goes_on_lem g q.ready.opened) x) env)) x
      ended r (Some e) some q lands k is =
          let ctx₁ = with_state r.ctx (set_goto r.ctx.state r.then join) in
          let g = worked_terminator r.ctx.state r.then (Terminator.Goto join) in
          let one : Tried ctx.state c.0 (tried ctx₁ (Some e)) = subst (λ (y : OptBlock). Tried ctx.state c.0 (tried ctx₁ y)) some (tried_one join r q) in
          let h₁ : Ready ctx₁.state e None = tried_ready ctx₁ e h one in
          let t : Tried ctx₁.state e.0 l = tried_all p ls (choices_grow a) mode ctx₁ join e place l h₁ is in
          let y = goes_on_trans (goes_on_lem t.worked h₁.opened) x in
          tries_more join r e l some q i t h₁ x (lands (goes_on_trans (goes_on_lem g q.ready.opened) y) env) (k e h₁ is)
