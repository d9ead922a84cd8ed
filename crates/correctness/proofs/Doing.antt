-- Lines at the end of a block, and what they do to the locals. Assumes nothing.
use Rattle.std.specs.Prelude.{Some, None}
use Prim.Native.Nat.{ℕ, suc, ◌≤◌, ◌<◌, ◌+◌}
use native.Mathlib.Omega.{arith}
use mathlib.Core.Path.{◌≡◌, refl, sym, ap, subst, ◌∙◌}
use mathlib.Core.Logic.{◌≢◌}
use mathlib.Core.Bool.{Bool, true, false, cond}
use mathlib.Core.List.{List, [], ◌∷◌, ◌++◌, map, append_assoc, append-nil}
use borrow.Author.Tests.{eq-eqb, ne_eqb}
use lib.Dec.{eqb, ltb}
use lib.ListN.{length, length-append}
use lib.Seq.{get_or-set_same}
use Rattle.refusals.specs.declared.MirLowerError.{MirLowerError}
use Rattle.refusals.specs.Refusals.{Result, done, stopped, and_then}
use Rattle.place.specs.declared.LocalId.{LocalId}
use Rattle.mir.specs.declared.BasicBlockId.{BasicBlockId}
use Rattle.mir.specs.declared.blocks.Terminator.{Terminator}
use Rattle.mir.specs.Blocks.{block_limit}
use Rattle.mir.specs.Statements.{statement_limit}
use Rattle.mir.specs.Locals.{local_limit}
use Rattle.mir.specs.Scopes.{entry_limit}
use Rattle.mir.specs.Rvalues.{live_row}
use Rattle.state.specs.State.{State}
use Rattle.state.specs.Steps.{within, next_local, new_block, push_statement, new_local, push_entry, set_terminator, try_block, try_statement, try_local, try_entry}
use Rattle.lower_spec.specs.Results.{OptBlock}
use Rattle.lower_spec.specs.Temps.{is_slice, record_unless, mark_live, temp}
use Rattle.views.specs.Views.{Statement, live, Line, Mir, line_of, mir_of}
use Rattle.views.specs.Growing.{terminator_at, put_terminator, Quiet}
use Rattle.views.proofs.ReadBack.{Halved, live_back}
use Rattle.views.proofs.Building.{mir_terminator}
use Rattle.pattern_matching.specs.Walking.{else_state}
use Rattle.growth.specs.Opened.{count, terminator, lines, Below}
use Rattle.growth.proofs.States.{count_is, lines_statement}
use Rattle.growth.proofs.Working.{quiet_append, below_quiet}
use Rattle.growth.proofs.Opening.{Own, own_quiet, Opens, Adds}
use Rattle.meaning.specs.Running.{Held, Env, update, Scene, execute, Run, here, step}
use Rattle.correctness.proofs.Walking.{rest, rest_is_lem, chain}

-- a local set
pub update_same : (env : Env) (l : ℕ) (held : Held) → update env l held l ≡ held
unfolding update
update_same env l held = ap (λ (b : Bool). cond b held (env l)) (eq-eqb l l refl)

-- any other local
pub update_other : (env : Env) (l : ℕ) (held : Held) (k : ℕ) → k ≢ l → update env l held k ≡ env k
unfolding update
update_other env l held k h = ap (λ (b : Bool). cond b held (env k)) (ne_eqb k l h)

-- lines of a block and then more of it
own_append : (b : ℕ) (l l' : List Line) → Own b l → Own b l' → Own b (l ++ l')
own_append b [] l' h h' = h'
own_append b (x ∷ l) l' h h' = (h.0, own_append b l l' h.1 h')

-- from a state to another lines are added to the block c, and a run over them makes f of what the locals hold
pub record Does (scene : Scene) (st : State) (c : ℕ) (st₁ : State) (f : Env → Env) : Type 0 where
  pub more : List Line
  pub grown : lines st₁ ≡ lines st ++ more
  pub own : Own c more
  pub runs : (M : Mir) (left : List Line) (env : Env) → Run scene M c (more ++ left) env c left (f env) []

module _ {scene : Scene} {c : ℕ} where
  -- nothing added
  pub does_same : (st : State) → Does scene st c st (λ env. env)
  does_same st = record { more = []; grown = sym (append-nil (lines st)); own = tt; runs = λ M left env. here }

  -- one after another
  pub does_seq : {st st₁ st₂ : State} {f g : Env → Env} → Does scene st c st₁ f → Does scene st₁ c st₂ g → Does scene st c st₂ (λ env. g (f env))
  does_seq {st} {st₁} {st₂} {f} {g} p q =
      record {
        more = p.more ++ q.more;
        grown = q.grown ∙ ap (λ (l : List Line). l ++ q.more) p.grown ∙ append_assoc (lines st) p.more q.more;
        own = own_append c p.more q.more p.own q.own;
        runs = λ M left env.
            subst (λ (l : List Line). Run scene M c l env c left (g (f env)) []) (sym (append_assoc p.more q.more left))
            (chain (p.runs M (q.more ++ left) env) (q.runs M left (f env)));
      }

  -- the same lines
  does_none : (st st₁ : State) → st₁.statements ≡ st.statements → Does scene st c st₁ (λ env. env)
  unfolding mir_of
  does_none st st₁ e = record { more = []; grown = ap (map line_of) e ∙ sym (append-nil (lines st)); own = tt; runs = λ M left env. here }

  -- a run over what was added
  pub does_run : {st st₁ : State} {f : Env → Env} (M : Mir) (env : Env) (d : List Line) → Does scene st c st₁ f → M.lines ≡ lines st₁ ++ d →
      Run scene M c (rest st M) env c (rest st₁ M) (f env) []
  does_run {st} {st₁} {f} M env d p e =
      let split : rest st M ≡ p.more ++ rest st₁ M =
      rest_is_lem st M (p.more ++ d) (e ∙ ap (λ (l : List Line). l ++ d) p.grown ∙ append_assoc (lines st) p.more d)
      ∙ ap (λ (l : List Line). p.more ++ l) (sym (rest_is_lem st₁ M d e)) in
      subst (λ (l : List Line). Run scene M c l env c (rest st₁ M) (f env) []) (sym split) (p.runs M (rest st₁ M) env)

  -- a block that is new has no line
  pub does_quiet : {st st₁ : State} {f : Env → Env} (b : ℕ) → Does scene st c st₁ f → Below (count st) (lines st) → c < count st → count st ≤ b → Quiet b (lines st₁)
  does_quiet {st} b p l i h =
      subst (Quiet b) (sym p.grown) (quiet_append b (lines st) p.more (below_quiet (lines st) h l) (own_quiet c b p.more (omega arith) p.own))

-- a refusal gives nothing
refused_not_ok : {A : Type 0} {x : MirLowerError} {b : A} → stopped x ≡ done b → ⊥
refused_not_ok e = let z : ◌≡◌ {A = ℕ} 0 1 = cc in omega arith

-- what was given where there was room
pub given : {A : Type 0} (room : Bool) (a b : A) → within room a ≡ done b → a ≡ b
given true a b e = cc
given false a b e = absurd (refused_not_ok e)

-- what follows where nothing was refused
unrefused : {A : Type 0} (test : Bool) (x : MirLowerError) (w : Result A) {b : A} → cond test (stopped x) w ≡ done b → w ≡ done b
unrefused true x w e = absurd (refused_not_ok e)
unrefused false x w e = e

-- what one step gave, and what followed it
followed : {A B C : Type 0} (w : Result A) (next : A → Result B) {b : B} → and_then w next ≡ done b → ((a : A) → w ≡ done a → next a ≡ done b → C) → C
followed (done a) next e k = k a refl e
followed (stopped x) next e k = absurd (refused_not_ok e)

module _ {scene : Scene} (c : ℕ) where
  -- a new block
  pub does_block : (st st₁ : State) → try_block st ≡ done st₁ → Does scene st c st₁ (λ env. env)
  unfolding try_block new_block
  does_block st st₁ e =
      does_none st st₁ (ap (λ (s : State). s.statements) (sym (given (ltb (length st.blocks) block_limit) (new_block st) st₁ e)))

  -- the else that there is, or a new block
  pub does_else : (st st₁ : State) (els : OptBlock) → else_state st els ≡ done st₁ → Does scene st c st₁ (λ env. env)
  unfolding else_state
  does_else st st₁ (Some b) e = let same : st₁ ≡ st = cc in does_none st st₁ (ap (λ (s : State). s.statements) same)
  does_else st st₁ None e = does_block st st₁ e

  -- a line, read back from its row
  pub does_line : (st st₁ : State) (row : List ℕ) (s : Statement) → line_of row ≡ record { block = c; statement = s } → try_statement st row ≡ done st₁ →
      Does scene st c st₁ (λ env. execute s scene env)
  unfolding try_statement
  does_line st st₁ row s q e =
      let same = given (ltb (length st.statements) statement_limit) (push_statement st row) st₁ e in
      record {
        more = record { block = c; statement = s } ∷ [];
        grown = ap (λ (x : State). lines x) (sym same) ∙ lines_statement st row ∙ ap (λ (x : Line). lines st ++ (x ∷ [])) q;
        own = (refl, tt);
        runs = λ M left env. step refl here;
      }

-- a local that is held, or one entry more, adds no line
does_recorded : {scene : Scene} {c : ℕ} (held : Bool) (st st₁ : State) (l : LocalId) → record_unless held st l ≡ done st₁ → Does scene st c st₁ (λ env. env)
unfolding try_entry push_entry
does_recorded true st st₁ l e = let same : st₁ ≡ st = cc in does_none st st₁ (ap (λ (s : State). s.statements) same)
does_recorded false st st₁ l e =
    does_none st st₁ (ap (λ (s : State). s.statements) (sym (given (ltb (length st.entries) entry_limit) (push_entry st l) st₁ e)))

-- a local made live, held or not
pub does_live : {scene : Scene} (held : Bool) (st st₁ : State) (l : LocalId) (block : BasicBlockId) → mark_live held st l block ≡ done st₁ →
    Does scene st block.0 st₁ (λ env. env)
unfolding mark_live execute
does_live held st st₁ l block e =
    followed (record_unless held st l) _ (unrefused (eqb (length st.scopes) 0) MirLowerError.NoScope _ e) (λ st₂ e₂ e₃.
    does_seq (does_recorded held st st₂ l e₂) (does_line block.0 st₂ st₁ (live_row block l) (live l.0) (live_back block l) e₃))

-- a temporary
pub does_temp : {scene : Scene} (image : List ℕ) (st st₁ : State) (word : ℕ) (block : BasicBlockId) → temp image st word block ≡ done st₁ → Does scene st block.0 st₁ (λ env. env)
unfolding temp try_local new_local
does_temp image st st₁ word block e =
    followed (try_local st word) _ (unrefused (is_slice image word) MirLowerError.UnsizedTemporary _ e) (λ st₂ e₂ e₃.
    does_seq (does_none st st₂ (ap (λ (s : State). s.statements) (sym (given (ltb (length st.locals) local_limit) (new_local st word) st₂ e₂))))
    (does_live false st₂ st₁ (next_local st) block e₃))

-- a list with more behind it is not shorter
longer : (xs ys zs : List ℕ) → ys ≡ xs ++ zs → length xs ≤ length ys
longer xs ys zs e = let n : length ys ≡ length xs + length zs = ap length e ∙ length-append xs zs in omega arith

-- steps lose no local
pub opens_locals : {st st₁ : State} {c : ℕ} → Opens st c st₁ → length st.locals ≤ length st₁.locals
opens_locals {st} {st₁} o = longer st.locals st₁.locals o.more_locals o.locals

-- nor do lines
pub adds_locals : {st st₁ : State} {c : ℕ} → Adds st c st₁ → length st.locals ≤ length st₁.locals
adds_locals a = opens_locals a.opens

-- a temporary is one local more
pub temp_locals : (image : List ℕ) (st st₁ : State) (word : ℕ) (block : BasicBlockId) → temp image st word block ≡ done st₁ → length st₁.locals ≡ suc (length st.locals)
unfolding temp try_local new_local mark_live try_entry push_entry try_statement push_statement
temp_locals image st st₁ word block e =
    followed (try_local st word) _ (unrefused (is_slice image word) MirLowerError.UnsizedTemporary _ e) (λ st₂ e₂ e₃.
    followed (try_entry st₂ (next_local st)) _ (unrefused (eqb (length st₂.scopes) 0) MirLowerError.NoScope _ e₃) (λ st₃ e₄ e₅.
    let a : st₂.locals ≡ st.locals ++ (word ∷ []) = ap (λ (s : State). s.locals) (sym (given (ltb (length st.locals) local_limit) (new_local st word) st₂ e₂)) in
    let b : st₃.locals ≡ st₂.locals = ap (λ (s : State). s.locals) (sym (given (ltb (length st₂.entries) entry_limit) (push_entry st₂ (next_local st)) st₃ e₄)) in
    let d : st₁.locals ≡ st₃.locals = ap (λ (s : State). s.locals) (sym (given (ltb (length st₃.statements) statement_limit) (push_statement st₃ (live_row block (next_local st))) st₁ e₅)) in
    ap length (d ∙ b ∙ a) ∙ length_snoc st.locals word))
  where
    length_snoc : (l : List ℕ) (x : ℕ) → length (l ++ (x ∷ [])) ≡ suc (length l)
    length_snoc [] x = refl
    length_snoc (y ∷ l) x = ap suc (length_snoc l x)

-- the terminator that was set
pub terminator_is : (st : State) (c : BasicBlockId) (t : Terminator) → c.0 < count st → Halved t → terminator (set_terminator st c t) c.0 ≡ t
unfolding put_terminator
terminator_is st c t h k =
    let i : c.0 < length (mir_of st).terminators = omega (arith, count_is st) in
    ap (λ (m : Mir). terminator_at m c.0) (mir_terminator st c t k) ∙ get_or-set_same (mir_of st).terminators c.0 t Terminator.Open i
