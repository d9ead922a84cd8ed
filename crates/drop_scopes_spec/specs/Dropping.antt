-- Drop scopes, as lower.rs leaves them, with the rules of the Reference's chapter "Destructors" in brackets; where the Rust leaves them for another order is listed in
-- docs/DIFFERENCES.md. Assumes nothing: these are definitions.
use Rattle.std.specs.Prelude.{ℕ, zero, suc, ◌+◌, ◌-◌, Bool, true, cond, List, [], ◌∷◌, eqb, ltb, leb, length, get_or}
use Rattle.refusals.specs.declared.MirLowerError.{MirLowerError}
use Rattle.refusals.specs.Refusals.{Result, done, stopped, and_then}
use Rattle.image.specs.Tables.{type_count}
use Rattle.image.specs.Rows.{type_at}
use Rattle.place.specs.declared.LocalId.{LocalId}
use Rattle.mir.specs.declared.BasicBlockId.{BasicBlockId}
use Rattle.mir.specs.declared.blocks.Terminator.{Terminator}
use Rattle.mir.specs.Rvalues.{dead_row}
use Rattle.state.specs.State.{State}
use Rattle.state.specs.Steps.{next_block, try_block, try_statement, set_terminator, scope_start, pop_scope}

-- a state, and the block that goes on
pub record At : Type 0 where
  pub state : State
  pub block : BasicBlockId

-- the word of a local's type says a copy type: bool, usize and i128 are, and a type of the table by its flag
unfoldable pub is_copy : List ℕ → ℕ → Bool
is_copy image word = cond (ltb word (type_count image)) (eqb (type_at image word).copy 1) true

-- StorageDead of a local, at the end of a block
unfoldable pub mark_dead : State → BasicBlockId → LocalId → Result At
mark_dead st block l = and_then (try_statement st (dead_row block l)) (λ st₁. done (record { state = st₁; block = block }))

-- a local leaves: one that is not copy is dropped by the block's terminator ("When an initialized variable or temporary goes out of scope, its destructor is run"
-- [destructors.intro]), and a new block goes on; then it is dead there
unfoldable pub emit_drop_and_storage_dead : List ℕ → State → BasicBlockId → LocalId → Result At
emit_drop_and_storage_dead image st block l =
    cond (is_copy image (get_or st.locals l.0 0)) (mark_dead st block l)
    (and_then (try_block st) (λ st₁. mark_dead (set_terminator st₁ block (Terminator.Drop l (next_block st))) (next_block st) l))

-- locals leave, in the order of the list
unfoldable pub leave_all : List ℕ → State → BasicBlockId → List ℕ → Result At
leave_all image st block [] = done (record { state = st; block = block })
leave_all image st block (l ∷ ls) = and_then (emit_drop_and_storage_dead image st block (record { 0 = l })) (λ at. leave_all image at.state at.block ls)

-- n words from `start` on, the last first
unfoldable pub last_first : List ℕ → ℕ → ℕ → List ℕ
last_first words start zero = []
last_first words start (suc n) = get_or words (start + n) 0 ∷ last_first words start n

-- the entries of the scope i and of those opened after it: "Locals leave last first.", "in reverse order of declaration (for variables) or creation (for temporaries)"
-- [destructors.scope.intro]
abbrev pub entries_from : State → ℕ → List ℕ
entries_from st i = last_first st.entries (scope_start st i) (length st.entries - scope_start st i)

-- all locals of the scope i and of those opened after it leave, and the scopes stay open; "at an index equal to the scope count does nothing; one more
-- refuses 14"
unfoldable pub drop_until_scope : List ℕ → State → ℕ → BasicBlockId → Result At
drop_until_scope image st i block =
    cond (leb i (length st.scopes)) (leave_all image st block (entries_from st i)) (stopped MirLowerError.NoScope)

-- the last scope is closed, and its locals leave
unfoldable pub pop_and_drop : List ℕ → State → BasicBlockId → Result At
pop_and_drop image st block =
    cond (eqb (length st.scopes) 0) (stopped MirLowerError.NoScope)
    (and_then (leave_all image st block (entries_from st (length st.scopes - 1))) (λ at. done (record { state = pop_scope at.state; block = at.block })))

-- the last scope is closed, its locals having left before
unfoldable pub pop_assume_dropped : State → Result State
pop_assume_dropped st = cond (eqb (length st.scopes) 0) (stopped MirLowerError.NoScope) (done (pop_scope st))
