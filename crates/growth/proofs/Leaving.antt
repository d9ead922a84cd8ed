-- What a walk leaves: where nothing is closed, where a test is made, and one walk after another. Assumes nothing.
use Rattle.std.specs.Prelude.{Some, None}
use Prim.Native.Nat.{ℕ, suc, ◌≤◌, ◌<◌}
use native.Mathlib.Nat.{le_trans, lt_of_lt_of_le}
use native.Mathlib.Decide.{dec_lt, ℕ_discrete}
use native.Mathlib.Omega.{arith}
use mathlib.Core.Path.{◌≡◌, refl, sym, ap, subst, ◌∙◌}
use mathlib.Core.Logic.{◌≢◌}
use mathlib.Core.List.{List}
use Rattle.mir.specs.declared.BasicBlockId.{BasicBlockId}
use Rattle.mir.specs.declared.blocks.Terminator.{Terminator}
use Rattle.state.specs.State.{State}
use Rattle.state.specs.Steps.{set_terminator}
use Rattle.lower_spec.specs.Results.{OptBlock}
use Rattle.views.specs.Growing.{Closed, Quiet}
use Rattle.pattern_matching.specs.Walking.{Out}
use Rattle.growth.specs.Opened.{count, terminator, lines, Below, ElseReady, Ready, From, Worked, ElseLeft, Leaves}
use Rattle.growth.proofs.States.{count_terminator, closes, terminator_past}
use Rattle.growth.proofs.Working.{quiet_append, below_quiet, other, from_seq, worked_seq, worked_terminator, lines_below}
use Rattle.growth.proofs.Opening.{own_quiet, Opens, Adds, opens_worked}

-- a block that is named
pub some_block : {a b : BasicBlockId} → Some a ≡ Some b → a.0 ≡ b.0
some_block e = cc

-- none is no block
pub not_none : {b : BasicBlockId} → None ≡ Some b → ⊥
not_none e = let z : ◌≡◌ {A = ℕ} 0 1 = cc in omega arith

-- a walk's result
abbrev pub result : State → List ℕ → BasicBlockId → OptBlock → Out
result st visits then els = record { ctx = record { state = st; visits = visits }; then = then; else = els }

-- an else stays one that a call may have
pub else_carry : {st st₁ : State} (c c₁ : BasicBlockId) (els : OptBlock) → Worked st c.0 st₁ → From st c.0 c₁.0 → ElseReady st c els → ElseReady st₁ c₁ els
else_carry c c₁ None w f h = tt
else_carry {st} {st₁} c c₁ (Some e) w f h = (lt_of_lt_of_le h.0 w.blocks, other st c.0 e.0 c₁.0 h.0 h.1 f)

-- a block that is open and has no line stays so, if the work is done elsewhere
pub idle_carry : {st st₁ : State} {current : ℕ} (b : ℕ) → Worked st current st₁ → b < count st → b ≢ current → terminator st b ≡ Terminator.Open → Quiet b (lines st) →
    (terminator st₁ b ≡ Terminator.Open) × Quiet b (lines st₁)
idle_carry {st} {st₁} b w i n o q =
    (w.kept b i n ∙ o, subst (Quiet b) (sym w.grown) (quiet_append b (lines st) w.more q (w.still b i n)))

-- an else that is handed on
pub else_same : (st st₁ : State) (els : OptBlock) → ElseLeft st els st₁ els
else_same st st₁ None = tt
else_same st st₁ (Some e) = refl

-- a block that is new where no terminator was set
pub fresh : {st st₁ : State} {current : ℕ} (b : ℕ) → Opens st current st₁ → Below (count st) (lines st) → current < count st → count st ≤ b →
    (terminator st₁ b ≡ Terminator.Open) × Quiet b (lines st₁)
fresh {st} {current} b o l i h = (
  o.terms b ∙ terminator_past st b h,
  subst (Quiet b) (sym o.grown) (quiet_append b (lines st) o.more (below_quiet (lines st) h l) (own_quiet current b o.more (omega arith) o.own)),
)

-- lines at the end of the block: it goes on there
pub leaves_lines : {st st₁ : State} {c : BasicBlockId} {els : OptBlock} {v : List ℕ} → Ready st c els → Adds st c.0 st₁ → Leaves st c els (result st₁ v c els)
leaves_lines {st} {st₁} {c} {els} p a =
    let w : Worked st c.0 st₁ = opens_worked p.inside a.opens in
    record {
      worked = w;
      then = λ h. refl;
      ready =
          record {
            inside = lt_of_lt_of_le p.inside w.blocks;
            opened = a.opens.terms c.0 ∙ p.opened;
            else = else_carry c c els w (λ h. refl) p.else;
            lines = lines_below w p.lines;
          };
      else = else_same st st₁ els;
      closed = λ b i f n m. absurd (n (f (omega (arith, a.same))));
    }

-- a test of n blocks made two of them, or, with an else supplied, one: where a match goes on, and where a mismatch does
abbrev pub Forks : ℕ → OptBlock → ℕ → ℕ → ℕ → Type 0
Forks n None m then els = (m ≡ suc (suc n)) × (n ≤ then) × (then < m) × (n ≤ els) × (els < m) × (then ≢ els)
Forks n (Some e) m then els = (m ≡ suc n) × (then ≡ n) × (els ≡ e.0)

-- the block where a match goes on is new
fork_then : (n : ℕ) (els : OptBlock) (m t e : ℕ) → Forks n els m t e → (n ≤ t) × (t < m)
fork_then n None m t e f = (f.1, f.2)
fork_then n (Some x) m t e f = (let h = f.1 in omega arith, let h = f.1 in let k = f.0 in omega arith)

-- the block where a mismatch goes on is another one
fork_ready : (st st₁ : State) (c : BasicBlockId) (els : OptBlock) (t e : BasicBlockId) → Forks (count st) els (count st₁) t.0 e.0 → ElseReady st c els → ElseReady st₁ t (Some e)
fork_ready st st₁ c None t e f h = (f.4, λ q. f.5 (sym q))
fork_ready st st₁ c (Some x) t e f h =
    let k : x.0 < count st = h.0 in
    (omega (arith, f.0, f.2), omega (arith, f.1, f.2))

-- it is the else supplied, or new
fork_else : (st st₁ st₂ : State) (c : BasicBlockId) (els : OptBlock) (t e : BasicBlockId) → Forks (count st) els (count st₁) t.0 e.0 →
    (count st ≤ e.0 → (terminator st₂ e.0 ≡ Terminator.Open) × Quiet e.0 (lines st₂)) → ElseLeft st els st₂ (Some e)
fork_else st st₁ st₂ c None t e f idle = (f.3, (idle f.3).0, (idle f.3).1)
fork_else st st₁ st₂ c (Some x) t e f idle = ap (λ (b : ℕ). Some (record { 0 = b })) f.2

-- no other block is new
fork_only : (n : ℕ) (els : OptBlock) (m t e b : ℕ) → Forks n els m t e → n ≤ b → b < m → b ≢ t → b ≢ e → ⊥
fork_only n None m t e b f i j p q = omega (arith, f.0, f.1, f.2, f.3, f.4, f.5)
fork_only n (Some x) m t e b f i j p q = omega (arith, f.0, f.1)

-- a test: the block is closed, and goes on at the two
pub leaves_fork : {st st₁ : State} {c : BasicBlockId} {els : OptBlock} {v : List ℕ} (t e : BasicBlockId) (end : Terminator) → Closed end → Ready st c els →
    Opens st c.0 st₁ → Forks (count st) els (count st₁) t.0 e.0 → Leaves st c els (result (set_terminator st₁ c end) v t (Some e))
leaves_fork {st} {st₁} {c} {els} t e end z p o f =
    let w : Worked st c.0 st₂ = worked_seq (opens_worked p.inside o) (λ h. refl) (worked_terminator st₁ c end) in
    let same = count_terminator st₁ c end in
    let inn = p.inside in
    let ft = fork_then (count st) els (count st₁) t.0 e.0 f in
    let er = fork_ready st st₁ c els t e f p.else in
    record {
      worked = w;
      then = λ h. absurd (omega (arith, ft.0));
      ready =
          record {
            inside = omega (arith, ft.1);
            opened = (idle t.0 ft.0 ft.1).0;
            else = (omega (arith, er.0), er.1);
            lines = lines_below w p.lines;
          };
      else = fork_else st st₁ st₂ c els t e f (λ h. idle e.0 h er.0);
      closed = λ b i g n m. go b i g n m (ℕ_discrete b c.0);
    }
  where
    st₂ : State
    st₂ = set_terminator st₁ c end

    idle : (b : ℕ) → count st ≤ b → b < count st₁ → (terminator st₂ b ≡ Terminator.Open) × Quiet b (lines st₂)
    idle b h k =
        let new = fresh b o p.lines p.inside h in
        idle_carry b (worked_terminator st₁ c end) k (omega (arith, p.inside)) new.0 new.1

    go : (b : ℕ) → b < count st₂ → From st c.0 b → b ≢ t.0 → (Some e ≡ Some (record { 0 = b }) → ⊥) → Dec (b ≡ c.0) → Closed (terminator st₂ b)
    go b i g n m (yes q) = closes st₁ c b end (omega (arith, p.inside, o.blocks)) z q
    go b i g n m (no q) =
        let k : ¬ (b < count st) = λ j. q (g j) in
        absurd (fork_only (count st) els (count st₁) t.0 e.0 b f (omega arith) (omega (arith, count_terminator st₁ c end)) n
        (λ r. m (ap (λ (x : ℕ). Some (record { 0 = x })) (sym r))))

-- the else after one walk and another
else_seq : (st st₁ st₂ : State) (c₁ : BasicBlockId) (els els₁ els₂ : OptBlock) → count st ≤ count st₁ → Worked st₁ c₁.0 st₂ → ElseReady st₁ c₁ els₁ → ElseLeft st els st₁ els₁ →
    ElseLeft st₁ els₁ st₂ els₂ → ElseLeft st els st₂ els₂
else_seq st st₁ st₂ c₁ (Some e) els₁ els₂ h w r f g = subst (λ (x : OptBlock). ElseLeft st₁ x st₂ els₂) f g
else_seq st st₁ st₂ c₁ None None None h w r f g = tt
else_seq st st₁ st₂ c₁ None None (Some e) h w r f g = (le_trans h g.0, g.1, g.2)
else_seq st st₁ st₂ c₁ None (Some e) els₂ h w r f g =
    let idle = idle_carry e.0 w r.0 r.1 f.1 f.2 in
    subst (λ (x : OptBlock). ElseLeft st None st₂ x) (sym g) (f.0, idle.0, idle.1)

-- an else that did not come back was not there
else_not : (st st₁ : State) (els els₁ : OptBlock) (b : BasicBlockId) → ElseLeft st els st₁ els₁ → (els₁ ≡ Some b → ⊥) → els ≡ Some b → ⊥
else_not st st₁ None els₁ b f n e = not_none e
else_not st st₁ (Some x) els₁ b f n e = n (f ∙ e)

-- one walk after another
pub leaves_seq : {st : State} {c : BasicBlockId} {els : OptBlock} (r r' : Out) → Leaves st c els r → Leaves r.ctx.state r.then r.else r' → Leaves st c els r'
leaves_seq {st} {c} {els} r r' p q =
    record {
      worked = worked_seq p.worked p.then q.worked;
      then = from_seq st st₁ c.0 r.then.0 r'.then.0 p.worked.blocks p.then q.then;
      ready = q.ready;
      else = else_seq st st₁ st₂ r.then els r.else r'.else p.worked.blocks q.worked p.ready.else p.else q.else;
      closed = λ b i f n m. go b i f n m (dec_lt b (count st₁)) (ℕ_discrete b r.then.0);
    }
  where
    st₁ : State
    st₁ = r.ctx.state

    st₂ : State
    st₂ = r'.ctx.state

    go : (b : ℕ) → b < count st₂ → From st c.0 b → b ≢ r'.then.0 → (r'.else ≡ Some (record { 0 = b }) → ⊥) → Dec (b < count st₁) → Dec (b ≡ r.then.0) →
        Closed (terminator st₂ b)
    go b i f n m (no h) d = q.closed b i (λ h'. absurd (h h')) n m
    go b i f n m (yes h) (yes e) = q.closed b i (λ _. e) n m
    go b i f n m (yes h) (no e) =
        subst Closed (sym (q.worked.kept b h e)) (p.closed b h f e (else_not st₁ st₂ r.else r'.else (record { 0 = b }) q.else m))
