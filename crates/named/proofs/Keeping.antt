-- No step of the building of a state names a local that there is not. Assumes nothing.
use Rattle.std.specs.Prelude.{Some, None}
use Prim.Native.Nat.{ℕ, suc, ◌+◌, ◌≤◌, ◌<◌}
use native.Mathlib.Nat.{le_refl, le_trans, lt_of_lt_of_le}
use native.Mathlib.Omega.{arith}
use mathlib.Core.Path.{◌≡◌, refl, sym, ap, subst, ◌∙◌}
use mathlib.Core.Bool.{Bool, true, false, cond}
use mathlib.Core.List.{List, [], ◌∷◌, ◌++◌}
use borrow.Author.Tests.{eqb-false}
use lib.Dec.{eqb, ltb}
use lib.ListN.{length, get_or, length-append}
use Rattle.refusals.specs.declared.MirLowerError.{MirLowerError}
use Rattle.refusals.specs.Refusals.{Result, done, stopped, and_then}
use Rattle.row_tables.specs.Rows.{zeros}
use Rattle.place.specs.declared.LocalId.{LocalId}
use Rattle.mir.specs.declared.BasicBlockId.{BasicBlockId}
use Rattle.mir.specs.declared.blocks.Terminator.{Terminator}
use Rattle.mir.specs.Blocks.{block_limit, term_row}
use Rattle.mir.specs.Statements.{statement_limit}
use Rattle.mir.specs.Locals.{local_limit}
use Rattle.mir.specs.Scopes.{entry_limit}
use Rattle.mir.specs.Rvalues.{live_row}
use Rattle.state.specs.State.{State}
use Rattle.state.specs.Steps.{new_block, set_terminator, push_statement, new_local, push_entry, within, try_block, try_statement, try_local, try_entry, next_local}
use Rattle.lower_spec.specs.Results.{OptBlock}
use Rattle.lower_spec.specs.Temps.{is_slice, is_held, record_unless, mark_live, push_storage_live_for_local, temp, binding_local}
use Rattle.lower_spec.specs.Recorded.{recorded, occurs, OncePerLocal}
use Rattle.views.specs.Views.{Line, terminator_of, line_of, mir_of}
use Rattle.pattern_matching.specs.Walking.{else_state}
use Rattle.counting.proofs.Holding.{Gives, gives, stops, gives_then}
use Rattle.named.specs.Named.{StatementBelow, TerminatorBelow, NamesBelow, NamedBelow, WordsBelow}
use Rattle.named.proofs.Recording.{Made, made_nothing, made_beside, made_line, none_above, once_recorded}
use Rattle.named.proofs.Rows.{each_as, each_more, each_made, each_set, statement_more, terminator_more, terminator_row, RowBelow, live_row_lem, live_marks}

-- a state with at least n locals, in which nothing names one that there is not, and what was made of it from a state s₀ on
pub record Kept (s₀ : State) (n : ℕ) (st : State) : Type 0 where
  pub more : n ≤ length st.locals
  pub named : NamedBelow st
  pub made : Made s₀ st

-- where a lowering starts
pub kept_start : (st : State) → NamedBelow st → Kept st (length st.locals) st
kept_start st named = record { more = le_refl _; named = named; made = made_nothing st }

-- with fewer asked for
pub kept_less : {s₀ : State} {m n : ℕ} {st : State} → m ≤ n → Kept s₀ n st → Kept s₀ m st
kept_less l k = record { more = le_trans l k.more; named = k.named; made = k.made }

-- what is below a number is below a greater one
names_more : {m n : ℕ} (st : State) → m ≤ n → NamesBelow m st → NamesBelow n st
names_more st l h =
    record {
      statements = each_as (λ (x : Line). statement_more l x.statement) (mir_of st).lines h.statements;
      terminators = each_as (λ (t : Terminator). terminator_more l t) (mir_of st).terminators h.terminators;
      entries = each_as (λ (x : ℕ). λ i. lt_of_lt_of_le i l) st.entries h.entries;
    }

module _ {s₀ : State} {n : ℕ} (st : State) where
  -- one block more
  kept_block : Kept s₀ n st → Kept s₀ n (new_block st)
  unfolding new_block mir_of terminator_of
  kept_block k =
      record {
        more = k.more;
        named = record {
          statements = k.named.statements;
          terminators = each_made (TerminatorBelow (length st.locals)) terminator_of st.blocks (zeros 12) k.named.terminators tt;
          entries = k.named.entries;
        };
        made = made_beside (new_block st) k.made refl refl refl;
      }

  -- a terminator
  pub kept_terminator : (b : BasicBlockId) (t : Terminator) → TerminatorBelow n t → Kept s₀ n st → Kept s₀ n (set_terminator st b t)
  unfolding set_terminator mir_of
  kept_terminator b t h k =
      record {
        more = k.more;
        named = record {
          statements = k.named.statements;
          terminators = each_set (TerminatorBelow (length st.locals)) terminator_of st.blocks b.0 (term_row t) k.named.terminators
              (terminator_row (length st.locals) t (terminator_more k.more t h));
          entries = k.named.entries;
        };
        made = made_beside (set_terminator st b t) k.made refl refl refl;
      }

  -- one statement more, no live mark
  kept_statement : (row : List ℕ) → RowBelow n row → Kept s₀ n st → Kept s₀ n (push_statement st row)
  unfolding push_statement mir_of recorded
  kept_statement row h k =
      record {
        more = k.more;
        named = record {
          statements = each_made (λ (x : Line). StatementBelow (length st.locals) x.statement) line_of st.statements row k.named.statements
              (statement_more k.more (line_of row).statement h.below);
          terminators = k.named.terminators;
          entries = k.named.entries;
        };
        made = made_line (push_statement st row) row k.made refl refl (ap (recorded st.entries) (sym h.unmarked));
      }

  -- one local more
  kept_local : (word : ℕ) → Kept s₀ n st → Kept s₀ (suc (length st.locals)) (new_local st word)
  unfolding new_local mir_of
  kept_local word k =
      let long : length (st.locals ++ (word ∷ [])) ≡ length st.locals + 1 = length-append st.locals (word ∷ []) in
      let h = names_more {m = length st.locals} {n = length (st.locals ++ (word ∷ []))} st (omega (arith, long)) k.named in
      record {
        more = omega (arith, long);
        named = record { statements = h.statements; terminators = h.terminators; entries = h.entries };
        made = made_beside (new_local st word) k.made refl refl refl;
      }

-- a step within a limit
room : {A : Type 0} (P : A → Type 0) (b : Bool) (a : A) → P a → Gives P (within b a)
room P true a p = gives P a p
room P false a p = stops P MirLowerError.Limit

-- a test that refuses, or what follows
pub guarded : {A : Type 0} {P : A → Type 0} (b : Bool) (e : MirLowerError) (x : Result A) → Gives P x → Gives P (cond b (stopped e) x)
guarded {P = P} true e x h = stops P e
guarded false e x h = h

module _ {s₀ : State} {n : ℕ} (st : State) (k : Kept s₀ n st) where
  pub keeps_block : Gives (Kept s₀ n) (try_block st)
  unfolding try_block
  keeps_block = room (Kept s₀ n) (ltb (length st.blocks) block_limit) (new_block st) (kept_block st k)

  pub keeps_statement : (row : List ℕ) → RowBelow n row → Gives (Kept s₀ n) (try_statement st row)
  unfolding try_statement
  keeps_statement row h = room (Kept s₀ n) (ltb (length st.statements) statement_limit) (push_statement st row) (kept_statement st row h k)

  -- the else that there is, or a new block
  pub keeps_else : (els : OptBlock) → Gives (Kept s₀ n) (else_state st els)
  unfolding else_state
  keeps_else None = keeps_block
  keeps_else (Some b) = gives (Kept s₀ n) st k

-- no scope holds a local that is just made
pub unheld_new : (st : State) (word : ℕ) → NamedBelow st → is_held (new_local st word) (next_local st) ≡ false
unfolding is_held new_local
unheld_new st word h = none_above (length st.locals) st.entries h.entries

-- what the record of a live mark adds to a state: an entry at most, the one that the mark records
record Entered (s₀ : State) (n : ℕ) (st : State) (l : LocalId) (st₁ : State) : Type 0 where
  more : n ≤ length st₁.locals
  named : NamedBelow st₁
  statements : st₁.statements ≡ st.statements
  scopes : st₁.scopes ≡ st.scopes
  entries : st₁.entries ≡ recorded st.entries (l.0 ∷ [])

module _ {s₀ : State} {n : ℕ} (st : State) (l : LocalId) (below : l.0 < n) (k : Kept s₀ n st) where
  -- one entry more
  entered_new : is_held st l ≡ false → Entered s₀ n st l (push_entry st l)
  unfolding push_entry mir_of recorded is_held
  entered_new e =
      record {
        more = k.more;
        named = record {
          statements = k.named.statements;
          terminators = k.named.terminators;
          entries = each_more (λ (x : ℕ). x < length st.locals) st.entries l.0 k.named.entries (lt_of_lt_of_le below k.more);
        };
        statements = refl;
        scopes = refl;
        entries = ap (λ (b : Bool). cond b st.entries (st.entries ++ (l.0 ∷ []))) (sym e);
      }

  -- the local is held, or not
  enters : (held : Bool) → is_held st l ≡ held → Gives (Entered s₀ n st l) (record_unless held st l)
  unfolding try_entry recorded is_held
  enters true e =
      gives (Entered s₀ n st l) st
      (record { more = k.more; named = k.named; statements = refl; scopes = refl; entries = ap (λ (b : Bool). cond b st.entries (st.entries ++ (l.0 ∷ []))) (sym e) })
  enters false e = room (Entered s₀ n st l) (ltb (length st.entries) entry_limit) (push_entry st l) (entered_new e)

  -- the mark itself behind that
  kept_mark : (st₁ : State) (block : BasicBlockId) → Entered s₀ n st l st₁ → Kept s₀ n (push_statement st₁ (live_row block l))
  unfolding push_statement mir_of
  kept_mark st₁ block r =
      let row = live_row block l in
      record {
        more = r.more;
        named = record {
          statements = each_made (λ (x : Line). StatementBelow (length st₁.locals) x.statement) line_of st₁.statements row r.named.statements
              (statement_more r.more (line_of row).statement (live_row_lem block l below));
          terminators = r.named.terminators;
          entries = r.named.entries;
        };
        made = made_line (push_statement st₁ row) row k.made (ap (λ (x : List (List ℕ)). x ++ (row ∷ [])) r.statements) r.scopes
            (r.entries ∙ ap (recorded st.entries) (sym (live_marks block l)));
      }

  -- a mark that a local is live, which a scope holds or not
  pub keeps_live : (block : BasicBlockId) (held : Bool) → is_held st l ≡ held → Gives (Kept s₀ n) (mark_live held st l block)
  unfolding mark_live try_statement
  keeps_live block held e =
      guarded (eqb (length st.scopes) 0) MirLowerError.NoScope (and_then (record_unless held st l) (λ st₁. try_statement st₁ (live_row block l)))
      (gives_then {Q = Kept s₀ n} (record_unless held st l) (λ st₁. try_statement st₁ (live_row block l)) (enters held e) (λ st₁ r.
      room (Kept s₀ n) (ltb (length st₁.statements) statement_limit) (push_statement st₁ (live_row block l)) (kept_mark st₁ block r)))

-- a temporary: it is the local that comes next, which no scope holds
pub keeps_temp : {s₀ : State} {n : ℕ} (image : List ℕ) (st : State) (word : ℕ) (block : BasicBlockId) → Kept s₀ n st → Gives (Kept s₀ (suc (length st.locals))) (temp image st word block)
unfolding temp try_local
keeps_temp {s₀} image st word block k =
    guarded (is_slice image word) MirLowerError.UnsizedTemporary (and_then (try_local st word) (λ st₁. mark_live false st₁ (next_local st) block)) (by (ltb (length st.locals) local_limit))
  where
    by : (b : Bool) → Gives (Kept s₀ (suc (length st.locals))) (and_then (within b (new_local st word)) (λ st₁. mark_live false st₁ (next_local st) block))
    by true = keeps_live (new_local st word) (next_local st) (omega arith) (kept_local st word k) block false (unheld_new st word k.named)
    by false = stops (Kept s₀ (suc (length st.locals))) MirLowerError.Limit

-- "a temporary's local is new, so no scope holds it": its mark is that of a local that is looked for in the scopes
pub temp_looked_for : (image : List ℕ) (st : State) (word : ℕ) (block : BasicBlockId) → NamedBelow st →
    temp image st word block ≡ cond (is_slice image word) (stopped MirLowerError.UnsizedTemporary) (and_then (try_local st word) (λ st₁. push_storage_live_for_local st₁ (next_local st) block))
unfolding temp try_local
temp_looked_for image st word block h =
    ap (λ (x : Result State). cond (is_slice image word) (stopped MirLowerError.UnsizedTemporary) x) (by (ltb (length st.locals) local_limit))
  where
    by : (b : Bool) → and_then (within b (new_local st word)) (λ st₁. mark_live false st₁ (next_local st) block)
        ≡ and_then (within b (new_local st word)) (λ st₁. push_storage_live_for_local st₁ (next_local st) block)
    by true = ap (λ (held : Bool). mark_live held (new_local st word) (next_local st) block) (sym (unheld_new st word h))
    by false = refl

-- a local is made
pub named_local : (st : State) (word : ℕ) → NamedBelow st → NamedBelow (new_local st word)
named_local st word h = (kept_local st word (kept_start st h)).named

-- a local is made and recorded without a live mark, as a parameter's is: it is new, so a local stands in the entries at most once if it did
pub entered_local : (st : State) (word : ℕ) → NamedBelow st → NamedBelow (push_entry (new_local st word) (next_local st)) × OncePerLocal st (push_entry (new_local st word) (next_local st))
unfolding new_local
entered_local st word h =
    let r = entered_new (new_local st word) (next_local st) (omega arith) (kept_local st word (kept_start st h)) (unheld_new st word h) in
    (r.named, λ l few. subst (λ (es : List ℕ). occurs l es ≤ 1) (sym r.entries) (once_recorded st.entries (length st.locals ∷ []) l few))

-- the local of a binding that has one
pub bound_local : {n : ℕ} (bindings : List ℕ) (b : ℕ) → WordsBelow bindings n → Gives (λ (l : LocalId). l.0 < n) (binding_local bindings b)
unfolding binding_local
bound_local {n = n} bindings b h = by (eqb (get_or bindings b 65535) 65535) refl
  where
    by : (t : Bool) → eqb (get_or bindings b 65535) 65535 ≡ t →
        Gives (λ (l : LocalId). l.0 < n) (cond t (stopped MirLowerError.InaccessibleLocal) (done (record { 0 = get_or bindings b 65535 })))
    by true e = stops (λ (l : LocalId). l.0 < n) MirLowerError.InaccessibleLocal
    by false e = gives (λ (l : LocalId). l.0 < n) _ (h b (eqb-false (get_or bindings b 65535) 65535 e))
