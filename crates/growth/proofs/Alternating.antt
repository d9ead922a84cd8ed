-- An Or grows a body well, if its alternatives do. Assumes nothing.
use Rattle.std.specs.Prelude.{Some, None}
use Prim.Native.Nat.{ℕ, ◌<◌}
use native.Mathlib.Decide.{dec_lt, ℕ_discrete}
use native.Mathlib.Omega.{arith}
use mathlib.Core.Path.{◌≡◌, refl, sym, ap, subst, ◌∙◌}
use mathlib.Core.Logic.{◌≢◌}
use mathlib.Core.List.{List, [], ◌∷◌}
use Rattle.place.specs.declared.Place.{Place}
use Rattle.mir.specs.declared.BasicBlockId.{BasicBlockId}
use Rattle.mir.specs.declared.blocks.Terminator.{Terminator}
use Rattle.state.specs.State.{State}
use Rattle.state.specs.Steps.{set_terminator}
use Rattle.lower_spec.specs.Results.{OptBlock}
use Rattle.lower_spec.specs.Merging.{set_goto}
use Rattle.views.specs.Growing.{Closed}
use Rattle.pattern_matching.specs.declared.MatchingMode.{MatchingMode}
use Rattle.pattern_matching.specs.Walking.{Ctx, Out, Walk, ok, Lowering, next, out, with_state}
use Rattle.pattern_matching.specs.Patterns.{Alternatives, behind, alternative, alternatives}
use Rattle.growth.specs.Opened.{count, terminator, lines, ElseReady, Ready, From, Worked, ElseLeft, Leaves}
use Rattle.growth.proofs.States.{count_terminator, closes, terminator_other}
use Rattle.growth.proofs.Working.{from_seq, worked_same, worked_seq, worked_terminator, lines_below}
use Rattle.growth.proofs.Leaving.{some_block, not_none, else_carry, idle_carry}
use Rattle.growth.proofs.Walks.{Beyond, ok_is, walked, Good, good_next, good_out, Grows, AllGrow}

-- an else that is new stays idle while an alternative is walked again
else_frame : (st st₁ st₂ : State) (c : BasicBlockId) (els : OptBlock) → Worked st₁ c.0 st₂ → ElseReady st₁ c els → ElseLeft st None st₁ els → ElseLeft st None st₂ els
else_frame st st₁ st₂ c None w r f = tt
else_frame st st₁ st₂ c (Some e) w r f = let idle = idle_carry e.0 w r.0 r.1 f.1 f.2 in (f.0, idle.0, idle.1)

-- an alternative is walked again behind its tests: the block where those fail is not touched
leaves_frame : {st : State} {c : BasicBlockId} (r b : Out) → Leaves st c None r → Leaves r.ctx.state r.then None b → b.else ≡ None →
    Leaves st c None (record { ctx = b.ctx; then = b.then; else = r.else })
leaves_frame {st} {c} r b p q e =
    record {
      worked = worked_seq p.worked p.then q.worked;
      then = from_seq st st₁ c.0 r.then.0 b.then.0 p.worked.blocks p.then q.then;
      ready =
          record {
            inside = q.ready.inside;
            opened = q.ready.opened;
            else = else_carry r.then b.then r.else q.worked q.then p.ready.else;
            lines = q.ready.lines;
          };
      else = else_frame st st₁ st₂ r.then r.else q.worked p.ready.else p.else;
      closed = λ x i f m k. go x i f m k (dec_lt x (count st₁)) (ℕ_discrete x r.then.0);
    }
  where
    st₁ : State
    st₁ = r.ctx.state

    st₂ : State
    st₂ = b.ctx.state

    go : (x : ℕ) → x < count st₂ → From st c.0 x → x ≢ b.then.0 → (r.else ≡ Some (record { 0 = x }) → ⊥) → Dec (x < count st₁) → Dec (x ≡ r.then.0) →
        Closed (terminator st₂ x)
    go x i f m k (no h) d = q.closed x i (λ h'. absurd (h h')) m (λ u. not_none (sym e ∙ u))
    go x i f m k (yes h) (yes u) = q.closed x i (λ _. u) m (λ u. not_none (sym e ∙ u))
    go x i f m k (yes h) (no u) = subst Closed (sym (q.worked.kept x h u)) (p.closed x h f u k)

-- an alternative, tested and then walked in the mode that is asked for
good_twice : (alt : Lowering) → Grows alt → (mode : MatchingMode) → Beyond mode → (ctx : Ctx) (c : BasicBlockId) (place : Place) →
    Good MatchingMode.Check ctx.state c None
    (next (alt MatchingMode.Check ctx c None place) (λ r.
    next (alt mode r.ctx r.then None place) (λ b. out b.ctx b.then r.else)))
good_twice alt g mode m ctx c place =
    record {
      leaves = λ h x e. walked (alt MatchingMode.Check ctx c None place) _ e (λ r e₁ e₂.
          walked (alt mode r.ctx r.then None place) _ e₂ (λ b e₃ e₄.
          let p = (g MatchingMode.Check ctx c None place).leaves h r e₁ in
          let again = g mode r.ctx r.then None place in
          let h₁ : Ready r.ctx.state r.then None =
          record { inside = p.ready.inside; opened = p.ready.opened; else = tt; lines = p.ready.lines } in
          subst (λ (y : Out). Leaves ctx.state c None y) (ok_is e₄) (leaves_frame r b p (again.leaves h₁ b e₃) (again.keeps m b e₃))));
      keeps = λ b. absurd b;
    }

-- an alternative in each mode
pub good_alternative : (alt : Lowering) → Grows alt → (mode : MatchingMode) (ctx : Ctx) (c : BasicBlockId) (place : Place) →
    Good MatchingMode.Check ctx.state c None (alternative alt mode ctx c place)
good_alternative alt g MatchingMode.Check ctx c place =
    good_next (alt MatchingMode.Check ctx c None place) _ (g MatchingMode.Check ctx c None place) (λ r. good_out r.ctx r.then r.else)
good_alternative alt g MatchingMode.Bind ctx c place = good_twice alt g MatchingMode.Bind tt ctx c place
good_alternative alt g MatchingMode.Assign ctx c place = good_twice alt g MatchingMode.Assign tt ctx c place

-- the block where the last alternative does not match: open, and from current
abbrev pub LeftFrom : State → ℕ → State → OptBlock → Type 0
LeftFrom st current st₁ None = Unit {0}
LeftFrom st current st₁ (Some b) = (b.0 < count st₁) × (terminator st₁ b.0 ≡ Terminator.Open) × From st current b.0

-- what the alternatives so far leave
pub record Tried (st : State) (current : ℕ) (l : Alternatives) : Type 0 where
  pub worked : Worked st current l.ctx.state
  pub left : LeftFrom st current l.ctx.state l.left
  pub closed : (b : ℕ) → b < count l.ctx.state → From st current b → (l.left ≡ Some (record { 0 = b }) → ⊥) → Closed (terminator l.ctx.state b)

-- what the loop over alternatives leaves
abbrev pub tried : Ctx → OptBlock → Alternatives
tried ctx left = record { ctx = ctx; left = left }

-- an alternative that matched goes on at join
pub tried_one : {st : State} {c : BasicBlockId} (join : BasicBlockId) (r : Out) → Leaves st c None r →
    Tried st c.0 (tried (with_state r.ctx (set_goto r.ctx.state r.then join)) r.else)
tried_one {st} {c} join r p =
    record {
      worked = worked_seq p.worked p.then (worked_terminator st₁ r.then (Terminator.Goto join));
      left = left_of_lem r.else p.ready.else p.else;
      closed = λ b i f m. go b i f m (ℕ_discrete b r.then.0);
    }
  where
    st₁ : State
    st₁ = r.ctx.state

    st₂ : State
    st₂ = set_terminator st₁ r.then (Terminator.Goto join)

    left_of_lem : (els : OptBlock) → ElseReady st₁ r.then els → ElseLeft st None st₁ els → LeftFrom st c.0 st₂ els
    left_of_lem None h f = tt
    left_of_lem (Some e) h f =
        (omega (arith, count_terminator st₁ r.then (Terminator.Goto join), h.0), terminator_other st₁ r.then (Terminator.Goto join) e.0 h.1 ∙ f.1, λ k. absurd (omega (arith, f.0)))

    go : (b : ℕ) → b < count st₂ → From st c.0 b → (r.else ≡ Some (record { 0 = b }) → ⊥) → Dec (b ≡ r.then.0) → Closed (terminator st₂ b)
    go b i f m (yes u) = closes st₁ r.then b (Terminator.Goto join) p.ready.inside tt u
    go b i f m (no u) =
        subst Closed (sym (terminator_other st₁ r.then (Terminator.Goto join) b u))
        (p.closed b (omega (arith, count_terminator st₁ r.then (Terminator.Goto join))) f u m)

-- no alternative
tried_none : {ctx : Ctx} {c : BasicBlockId} → Ready ctx.state c None → Tried ctx.state c.0 (tried ctx (Some c))
tried_none {ctx} {c} h =
    record {
      worked = worked_same ctx.state c.0;
      left = (h.inside, h.opened, λ _. refl);
      closed = λ b i f m. absurd (m (ap (λ (x : ℕ). Some (record { 0 = x })) (sym (f i))));
    }

-- alternatives, and then those behind them
tried_seq : {st : State} {c : ℕ} (ctx₁ : Ctx) (e : BasicBlockId) (l : Alternatives) → Tried st c (tried ctx₁ (Some e)) → Tried ctx₁.state e.0 l → Tried st c l
tried_seq {st} {c} ctx₁ e l p q =
    record {
      worked = worked_seq p.worked p.left.2 q.worked;
      left = left_of_lem l.left q.left;
      closed = λ b i f m. go b i f m (dec_lt b (count st₁)) (ℕ_discrete b e.0);
    }
  where
    st₁ : State
    st₁ = ctx₁.state

    left_of_lem : (x : OptBlock) → LeftFrom st₁ e.0 l.ctx.state x → LeftFrom st c l.ctx.state x
    left_of_lem None h = tt
    left_of_lem (Some b) h = (h.0, h.1, from_seq st st₁ c e.0 b.0 p.worked.blocks p.left.2 h.2)

    go : (b : ℕ) → b < count l.ctx.state → From st c b → (l.left ≡ Some (record { 0 = b }) → ⊥) → Dec (b < count st₁) → Dec (b ≡ e.0) → Closed (terminator l.ctx.state b)
    go b i f m (no h) d = q.closed b i (λ h'. absurd (h h')) m
    go b i f m (yes h) (yes u) = q.closed b i (λ _. u) m
    go b i f m (yes h) (no u) = subst Closed (sym (q.worked.kept b h u)) (p.closed b h f (λ w. u (sym (some_block w))))

-- the next alternative may start
pub tried_ready : {st : State} {c : BasicBlockId} (ctx₁ : Ctx) (e : BasicBlockId) → Ready st c None → Tried st c.0 (tried ctx₁ (Some e)) → Ready ctx₁.state e None
tried_ready ctx₁ e h p = record { inside = p.left.0; opened = p.left.1; else = tt; lines = lines_below p.worked h.lines }

-- behind an alternative that can fail
tried_behind : {st : State} {c : BasicBlockId} (els : OptBlock) (ctx₁ : Ctx) (rest : BasicBlockId → Walk Alternatives) (l : Alternatives) → Ready st c None →
    Tried st c.0 (tried ctx₁ els) → ((b : BasicBlockId) → Ready ctx₁.state b None → rest b ≡ ok l → Tried ctx₁.state b.0 l) → behind els ctx₁ rest ≡ ok l →
    Tried st c.0 l
tried_behind {st} {c} None ctx₁ rest l h p k e = subst (λ (x : Alternatives). Tried st c.0 x) (ok_is e) p
tried_behind {st} {c} (Some b) ctx₁ rest l h p k e = tried_seq ctx₁ b l p (k b (tried_ready ctx₁ b h p) e)

-- all alternatives
pub tried_all : (p : ℕ) (alts : List Lowering) → AllGrow alts → (mode : MatchingMode) (ctx : Ctx) (join c : BasicBlockId) (place : Place) (l : Alternatives) → Ready ctx.state c None →
    alternatives p alts mode ctx join c place ≡ ok l → Tried ctx.state c.0 l
unfolding alternatives
tried_all p [] g mode ctx join c place l h e = subst (λ (x : Alternatives). Tried ctx.state c.0 x) (ok_is e) (tried_none h)
tried_all p (alt ∷ alts) g mode ctx join c place l h e =
    walked (alternative alt mode ctx c place) _ e (λ r e₁ e₂.
    let ctx₁ = with_state r.ctx (set_goto r.ctx.state r.then join) in
    tried_behind r.else ctx₁ _ l h (tried_one join r ((good_alternative alt g.0 mode ctx c place).leaves h r e₁))
    (λ b h₁ e₃. tried_all p alts g.1 mode ctx₁ join b place l h₁ e₃) e₂)
