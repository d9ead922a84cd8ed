-- What each step of the builder adds to a state. Assumes nothing.
use Rattle.std.specs.Prelude.{Some, None}
use mathlib.Core.Path.{◌≡◌, refl}
use mathlib.Core.Bool.{Bool, true, false, cond}
use mathlib.Core.List.{List, [], ◌∷◌, ◌++◌}
use Prim.Native.Nat.{ℕ, ◌+◌}
use native.Mathlib.Nat.{le_refl}
use native.Mathlib.Omega.{arith}
use lib.Dec.{eqb, ltb}
use lib.ListN.{length, length-set, length-append, get_or-append}
use Rattle.refusals.specs.declared.MirLowerError.{MirLowerError}
use Rattle.refusals.specs.Refusals.{Result, stopped, and_then}
use Rattle.row_tables.specs.Rows.{zeros}
use Rattle.place.specs.declared.LocalId.{LocalId}
use Rattle.mir.specs.declared.BasicBlockId.{BasicBlockId}
use Rattle.mir.specs.declared.blocks.Terminator.{Terminator}
use Rattle.mir.specs.Blocks.{block_limit, term_row}
use Rattle.mir.specs.Statements.{statement_limit}
use Rattle.mir.specs.Locals.{local_limit}
use Rattle.mir.specs.Scopes.{entry_limit}
use Rattle.mir.specs.Rvalues.{live_row}
use Rattle.state.specs.State.{State}
use Rattle.state.specs.Steps.{new_block, set_terminator, push_statement, new_local, push_entry, within, try_block, try_statement, try_local, try_entry, next_local}
use Rattle.lower_spec.specs.Results.{OptBlock}
use Rattle.lower_spec.specs.Temps.{is_slice, record_unless, mark_live, temp}
use Rattle.pattern_matching.specs.Walking.{else_state}
use Rattle.counting.specs.Counting.{else_made}
use Rattle.counting.proofs.Holding.{Gives, gives, stops, gives_then}
use Rattle.counting.proofs.Going.{Built, built_on, built_none}

-- one element more
longer : {A : Type 0} (l : List A) (a : A) → length (l ++ (a ∷ [])) ≡ length l + 1
longer l a = length-append l (a ∷ [])

-- one block
built_block : (st : State) → Built st (new_block st) 1 0
unfolding new_block
built_block st = record { blocks = longer st.blocks (zeros 12); statements = omega arith; locals = le_refl _; kept = λ i l. refl }

-- a terminator
pub built_terminator : (st : State) (b : BasicBlockId) (t : Terminator) → Built st (set_terminator st b t) 0 0
unfolding set_terminator
built_terminator st b t =
    record { blocks = let e = length-set st.blocks b.0 (term_row t) in omega (arith, e); statements = omega arith; locals = le_refl _; kept = λ i l. refl }

-- one statement
built_statement : (st : State) (row : List ℕ) → Built st (push_statement st row) 0 1
unfolding push_statement
built_statement st row = record { blocks = omega arith; statements = longer st.statements row; locals = le_refl _; kept = λ i l. refl }

-- a local
built_local : (st : State) (word : ℕ) → Built st (new_local st word) 0 0
unfolding new_local
built_local st word =
    record {
      blocks = omega arith;
      statements = omega arith;
      locals = let e = longer st.locals word in omega (arith, e);
      kept = λ i l. get_or-append st.locals (word ∷ []) 0 i l;
    }

-- an entry of a scope
built_entry : (st : State) (l : LocalId) → Built st (push_entry st l) 0 0
unfolding push_entry
built_entry st l = record { blocks = omega arith; statements = omega arith; locals = le_refl _; kept = λ i h. refl }

-- a step within a limit
room : {A : Type 0} (P : A → Type 0) (b : Bool) (a : A) → P a → Gives P (within b a)
room P true a p = gives P a p
room P false a p = stops P MirLowerError.Limit

-- a test that refuses, or what follows
guarded : {A : Type 0} {P : A → Type 0} (b : Bool) (e : MirLowerError) (x : Result A) → Gives P x → Gives P (cond b (stopped e) x)
guarded {P = P} true e x h = stops P e
guarded false e x h = h

-- one block, within its limit
pub gives_block : (st : State) → Gives (λ st₁. Built st st₁ 1 0) (try_block st)
unfolding try_block
gives_block st = room (λ st₁. Built st st₁ 1 0) (ltb (length st.blocks) block_limit) (new_block st) (built_block st)

-- one statement, within its limit
pub gives_statement : (st : State) (row : List ℕ) → Gives (λ st₁. Built st st₁ 0 1) (try_statement st row)
unfolding try_statement
gives_statement st row = room (λ st₁. Built st st₁ 0 1) (ltb (length st.statements) statement_limit) (push_statement st row) (built_statement st row)

-- a local's entry, unless it is held
gives_record : (held : Bool) (st : State) (l : LocalId) → Gives (λ st₁. Built st st₁ 0 0) (record_unless held st l)
unfolding try_entry
gives_record true st l = gives (λ st₁. Built st st₁ 0 0) st (built_none st)
gives_record false st l = room (λ st₁. Built st st₁ 0 0) (ltb (length st.entries) entry_limit) (push_entry st l) (built_entry st l)

-- a mark that a local, held or not, is live
pub gives_live : (held : Bool) (st : State) (l : LocalId) (block : BasicBlockId) → Gives (λ st₁. Built st st₁ 0 1) (mark_live held st l block)
unfolding mark_live
gives_live held st l block =
    guarded (eqb (length st.scopes) 0) MirLowerError.NoScope (and_then (record_unless held st l) (λ st₁. try_statement st₁ (live_row block l)))
    (gives_then {Q = λ st₁. Built st st₁ 0 1} (record_unless held st l) (λ st₁. try_statement st₁ (live_row block l)) (gives_record held st l) (λ st₁ g.
    record { at = λ st₂ e. built_on g ((gives_statement st₁ (live_row block l)).at st₂ e) }))

-- a temporary: the mark that it is live
pub gives_temp : (image : List ℕ) (st : State) (word : ℕ) (block : BasicBlockId) → Gives (λ st₁. Built st st₁ 0 1) (temp image st word block)
unfolding temp try_local
gives_temp image st word block =
    guarded (is_slice image word) MirLowerError.UnsizedTemporary (and_then (try_local st word) (λ st₁. mark_live false st₁ (next_local st) block))
    (gives_then {Q = λ st₁. Built st st₁ 0 1} (try_local st word) (λ st₁. mark_live false st₁ (next_local st) block) (room (λ st₁. Built st st₁ 0 0) (ltb (length st.locals) local_limit) (new_local st word) (built_local st word)) (λ st₁ g.
    record { at = λ st₂ e. built_on g ((gives_live false st₁ (next_local st) block).at st₂ e) }))

-- an else, where there is none
pub gives_else : (st : State) (els : OptBlock) → Gives (λ st₁. Built st st₁ (else_made true els) 0) (else_state st els)
unfolding else_state
gives_else st None = gives_block st
gives_else st (Some b) = gives (λ st₁. Built st st₁ 0 0) st (built_none st)
