-- Where a scope's entries begin, how all of them leave, and how the last scope is closed. Assumes nothing.
use Rattle.std.specs.Prelude.{Ok, Err}
use Prim.Native.Nat.{ℕ, zero, suc, ◌+◌, ◌-◌, ◌<◌, ◌≤◌}
use mathlib.Core.Path.{◌≡◌, refl, sym, ap, ap₂, subst, ◌∙◌}
use mathlib.Core.Bool.{cond}
use mathlib.Core.Logic.{⊎_elim}
use mathlib.Core.List.{List, [], ◌∷◌}
use native.Mathlib.Nat.{le_refl, eq-zero-or-pos}
use native.Mathlib.Omega.{arith}
use borrow.Author.Tests.{lt-ltb, le-ltb, le-leb, lt-leb, eq-eqb, ne_eqb}
use lib.Dec.{ltb}
use lib.ListN.{length, length-set, get_or, take, set, get_or-eq_default}
use lib.Seq.{get_or-take, take-take}
use Rattle.refusals.specs.declared.MirLowerError.{MirLowerError}
use Rattle.refusals.specs.Refusals.{Result, done, and_then}
use Rattle.row_tables.specs.Rows.{zeros, rows_of, stored}
use Rattle.row_tables.proofs.Zeros.{length_zeros}
use Rattle.row_tables.proofs.Tables.{before_stored, length_stored}
use Rattle.mir.specs.declared.BasicBlockId.{BasicBlockId}
use Rattle.mir.specs.declared.Counts.{Counts}
use Rattle.state.specs.State.{Body, State, decode}
use Rattle.state.specs.Steps.{scope_start, pop_scope}
use Rattle.state.specs.Promises.{Ready}
use Rattle.state.proofs.Words.{words_before}
use Rattle.state.proofs.Answering.{scope_count, entry_count, refuses, kept_refl}
use Rattle.state.proofs.Stepping.{ready_scopes, ready_entries}
use Rattle.drop_scopes_spec.specs.Results.{AtBlock}
use Rattle.drop_scopes_spec.specs.Dropping.{At, leave_all, last_first, entries_from, drop_until_scope, pop_and_drop, pop_assume_dropped}
use Rattle.drop_scopes_spec.specs.Promises.{ScopesNamed, Pops}
use Rattle.mir.specs.Blocks.{block_width}
use Rattle.mir.specs.Statements.{statement_width}
use Rattle.body_tables.specs.Layout.{with_scopes, with_entries}
use Rattle.body_leaving.specs.Promises.{Beside, Leaves}
use Rattle.body_scopes.specs.Promises.{Closed, Closes}
use Rattle.body_scopes.proofs.Emptying.{blank_last, blank_emptied}
use Rattle.body_leaving.proofs.Departing.{beside_refl}

-- a word that a table has, whatever stands for one that it has not
any_default : (t : List ℕ) (i d d' : ℕ) → i < length t → get_or t i d ≡ get_or t i d'
any_default [] i d d' h = absurd (omega arith)
any_default (x ∷ t) zero d d' h = refl
any_default (x ∷ t) (suc i) d d' h = any_default t i d d' (omega arith)

-- where the entries of a scope begin, by the table
start_of_lem : (b : Body) (c : Counts) (i : ℕ) → Ready b c → cond (ltb i c.scopes) (get_or b.scopes i 0) c.entries ≡ scope_start (decode b c) i
unfolding scope_start decode
start_of_lem b c i R =
    ⊎_elim
    (λ (over : c.scopes - i ≡ 0).
    rw (le-ltb i c.scopes (omega arith))
    (sym (get_or-eq_default (take c.scopes b.scopes) (length (take c.entries b.entries)) {n = i} (omega (arith, scope_count b c R)) ∙ entry_count b c R)))
    (λ (under : 0 < c.scopes - i).
    rw (lt-ltb i c.scopes (omega arith))
    (sym (get_or-take c.scopes b.scopes i (length (take c.entries b.entries)) (omega arith)
    ∙ any_default b.scopes i (length (take c.entries b.entries)) 0 (omega (arith, R.scopes, R.scope_count)))))
    (eq-zero-or-pos (c.scopes - i))

-- they begin at an entry, or behind the last
pub start_below : (sc : List ℕ) (c : Counts) (i start : ℕ) → ScopesNamed sc c → start ≡ cond (ltb i c.scopes) (get_or sc i 0) c.entries → start ≤ c.entries
start_below sc c i start named is =
    ⊎_elim
    (λ (over : c.scopes - i ≡ 0). let at_end_lem = rw (le-ltb i c.scopes (omega arith)) at is in omega arith)
    (λ (under : 0 < c.scopes - i). let at_entry_lem = rw (lt-ltb i c.scopes (omega arith)) at is in omega (arith, named i (omega arith)))
    (eq-zero-or-pos (c.scopes - i))

-- words among the first m
last_first_taken : (e : List ℕ) (m start n : ℕ) → start + n ≤ m → last_first (take m e) start n ≡ last_first e start n
unfolding last_first
last_first_taken e m start zero h = refl
last_first_taken e m start (suc n) h =
    ap₂ (λ (x : ℕ) (l : List ℕ). x ∷ l) (get_or-take m e (start + n) 0 (omega arith)) (last_first_taken e m start n (omega arith))

-- the entries that leave, by the table
entries_of_lem : (b : Body) (c : Counts) (i start : ℕ) → Ready b c → start ≡ scope_start (decode b c) i → start ≤ c.entries → last_first b.entries start (c.entries - start) ≡ entries_from (decode b c) i
unfolding decode
entries_of_lem b c i start R is le =
    sym (last_first_taken b.entries c.entries start (c.entries - start) (omega arith))
    ∙ ap₂ (λ (k n : ℕ). last_first (take c.entries b.entries) k (n - k)) is (sym (entry_count b c R))

-- b₀ is the body at entry, and c has its counts
module _ (image : List ℕ) (b₀ : Body) (c : Counts) (block : BasicBlockId) where
  -- a scope that there is not
  pub until_refused : (i : ℕ) → c.scopes < i → Leaves (λ st. drop_until_scope image st i block) c block b₀ (Err MirLowerError.NoScope) b₀
  unfolding drop_until_scope
  until_refused i h =
      record { answers = λ R. refuses MirLowerError.NoScope (rw (scope_count b₀ c R, lt-leb i c.scopes h) refl); left = tt; beside = beside_refl b₀ }

  -- the locals of a scope and of those opened after it
  pub until_drops : (i start : ℕ) {r : AtBlock} {b : Body} → i ≤ c.scopes → start ≡ cond (ltb i c.scopes) (get_or b₀.scopes i 0) c.entries → start ≤ c.entries →
      Leaves (λ st. leave_all image st block (last_first b₀.entries start (c.entries - start))) c block b₀ r b → Leaves (λ st. drop_until_scope image st i block) c block b₀ r b
  unfolding drop_until_scope
  until_drops i start h is le L =
      record {
        answers = λ R. rw (scope_count b₀ c R, le-leb i c.scopes h, ← entries_of_lem b₀ c i start R (is ∙ start_of_lem b₀ c i R) le) (L.answers R);
        left = L.left;
        beside = L.beside;
      }

  -- no scope to close
  pub no_pop : c.scopes ≡ 0 → Pops (λ st. pop_and_drop image st block) c block b₀ (Err MirLowerError.NoScope) b₀
  unfolding pop_and_drop
  no_pop h =
      record {
        says = λ R. rw (scope_count b₀ c R, eq-eqb c.scopes 0 h) refl;
        goes = λ R. tt;
        kept = λ R none_left. kept_refl c block.0 b₀;
      }

  module _ (start : ℕ) (pos : 0 < c.scopes) (is : start ≡ get_or b₀.scopes (c.scopes - 1) 0) (le : start ≤ c.entries) where
    -- what the last scope's locals leave
    pop_says : {r : Result At} → Ready b₀ c → r ≡ leave_all image (decode b₀ c) block (last_first b₀.entries start (c.entries - start)) →
        and_then r (λ at. done (record { state = pop_scope at.state; block = at.block })) ≡ pop_and_drop image (decode b₀ c) block
    unfolding pop_and_drop
    pop_says R says =
        let last = start_of_lem b₀ c (c.scopes - 1) R in
        rw (scope_count b₀ c R, ne_eqb c.scopes 0 (λ none_left. omega arith))
        (ap (λ (x : Result At). and_then x (λ at. done (record { state = pop_scope at.state; block = at.block })))
        (says ∙ ap (leave_all image (decode b₀ c) block)
        (entries_of_lem b₀ c (c.scopes - 1) start R (is ∙ rw (lt-ltb (c.scopes - 1) c.scopes (omega arith)) at last) le)))

    -- a refusal while they leave
    pub pop_refused : {err : MirLowerError} {b : Body} → Leaves (λ st. leave_all image st block (last_first b₀.entries start (c.entries - start))) c block b₀ (Err err) b →
        Pops (λ st. pop_and_drop image st block) c block b₀ (Err err) b
    pop_refused L =
        record {
          says = λ R. pop_says R (L.answers R).says;
          goes = λ R. tt;
          kept = λ R none_left. (L.answers R).kept;
        }

    -- they have left, and the scope is closed
    pub pop_drops : {c₁ c₂ : Counts} {at : BasicBlockId} {b₁ b₂ : Body} →
        Leaves (λ st. leave_all image st block (last_first b₀.entries start (c.entries - start))) c block b₀ (Ok (c₁, at)) b₁ → Closed c₁ b₁ c₂ b₂ →
        Pops (λ st. pop_and_drop image st block) c block b₀ (Ok (c₂, at)) b₂
    pop_drops {at = at} L C =
        record {
          says = λ R.
              let A = L.answers R in
              ap (λ (st : State). done (record { state = st; block = at })) (C.says A.goes.0) ∙ pop_says R A.says;
          goes = λ R. C.goes (L.answers R).goes.0;
          kept = λ R none_left. absurd (let z : ◌≡◌ {A = ℕ} 0 1 = cc in omega arith);
        }

-- the word of a scope is as it was before locals left
pub scope_same : {b₀ b : Body} → Beside b₀ b → (i : ℕ) → get_or b.scopes i 0 ≡ get_or b₀.scopes i 0
scope_same B i = ap (λ (t : List ℕ). get_or t i 0) B.scopes

-- b is the body at entry, and c has its counts
module _ (b : Body) (c : Counts) where
  -- the body without the last scope's word, and without its entries
  abbrev without : ℕ → Body
  without start = with_entries (with_scopes b (set b.scopes (c.scopes - 1) 0)) (stored b.entries start (zeros (c.entries - start)))

  -- its counts
  abbrev fewer : ℕ → Counts
  fewer start = record { blocks = c.blocks; statements = c.statements; locals = c.locals; scopes = c.scopes - 1; entries = start }

  module _ (start : ℕ) (pos : 0 < c.scopes) (is : start ≡ get_or b.scopes (c.scopes - 1) 0) (le : start ≤ c.entries) where
    -- it is the state without the last scope
    closed_says : Ready b c → decode (without start) (fewer start) ≡ pop_scope (decode b c)
    unfolding pop_scope decode
    closed_says R =
        let n = c.scopes in
        let m = c.entries in
        let row = zeros (m - start) in
        let last = rw (lt-ltb (n - 1) n (omega arith)) at (start_of_lem b c (n - 1) R) in
        let scopes-left : take (n - 1) (set b.scopes (n - 1) 0) ≡ take (length (take n b.scopes) - 1) (take n b.scopes) =
        words_before b.scopes (n - 1) (n - 1) 0 (le_refl (n - 1)) ∙ sym (ap (λ (k : ℕ). take (k - 1) (take n b.scopes)) (scope_count b c R) ∙ take-take (n - 1) n b.scopes (omega arith)) in
        let entries-left : take start (stored b.entries start row) ≡ take (scope_start (decode b c) (length (take n b.scopes) - 1)) (take m b.entries) =
        before_stored b.entries start row start (le_refl start) (omega (arith, R.entries, R.entry_count))
        ∙ sym (ap (λ (k : ℕ). take k (take m b.entries)) (ap (λ (k : ℕ). scope_start (decode b c) (k - 1)) (scope_count b c R) ∙ sym last ∙ sym is) ∙ take-take start m b.entries le) in
        λ i. record { blocks = rows_of block_width b.blocks c.blocks; statements = rows_of statement_width b.statements c.statements; locals = take c.locals b.locals; scopes = scopes-left i; entries = entries-left i }

    -- it is ready for the next step
    closed_goes : Ready b c → Ready (without start) (fewer start)
    closed_goes R =
        let n = c.scopes in
        let m = c.entries in
        let row = zeros (m - start) in
        let bl = b.blocks in
        let s = b.statements in
        let l = b.locals in
        let sc = b.scopes in
        let e = b.entries in
        let c₁ : Counts = record { blocks = c.blocks; statements = c.statements; locals = c.locals; scopes = n - 1; entries = m } in
        let R₁ = ready_scopes bl s l sc e c (set sc (n - 1) 0) (n - 1) (length-set sc (n - 1) 0 ∙ R.scopes) (omega (arith, R.scope_count)) (blank_last sc n pos (omega (arith, R.scopes, R.scope_count)) R.blank_scopes) R in
        ready_entries bl s l (set sc (n - 1) 0) e c₁ (stored e start row) start
        (length_stored e start row (omega (arith, length_zeros (m - start), R.entries, R.entry_count)) ∙ R.entries)
        (omega (arith, R.entry_count))
        (blank_emptied e start m le (omega (arith, R.entries, R.entry_count)) R.blank_entries)
        R₁

    -- `pop_scope`: the last scope is closed
    pub closed : {b₁ b₂ : Body} → b₁ ≡ with_scopes b (set b.scopes (c.scopes - 1) 0) → b₂ ≡ with_entries b₁ (stored b₁.entries start (zeros (c.entries - start))) → Closed c b (fewer start) b₂
    closed first second =
        subst (λ (x : Body). Closed c b (fewer start) x) (sym (second ∙ ap (λ (x : Body). with_entries x (stored x.entries start (zeros (c.entries - start)))) first))
        (record { says = closed_says; goes = closed_goes })

  -- where there is a scope
  pub closes : {c₁ : Counts} {b₁ : Body} → 0 < c.scopes → Closed c b c₁ b₁ → Closes c b (Ok c₁) b₁
  unfolding pop_assume_dropped
  closes pos C =
      record {
        says = λ R. rw (scope_count b c R, ne_eqb c.scopes 0 (λ none_left. omega arith)) (ap done (C.says R));
        goes = C.goes;
        untouched = λ none_left. absurd (let z : ◌≡◌ {A = ℕ} 0 1 = cc in omega arith);
      }

  -- where there is none
  pub closes_none : c.scopes ≡ 0 → Closes c b (Err MirLowerError.NoScope) b
  unfolding pop_assume_dropped
  closes_none h =
      record {
        says = λ R. rw (scope_count b c R, eq-eqb c.scopes 0 h) refl;
        goes = λ R. tt;
        untouched = λ none_left. refl;
      }
