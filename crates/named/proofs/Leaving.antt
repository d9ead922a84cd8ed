-- Each step on scopes, and `temp` and `merge_blocks`, leaves a local that stands in the entries at most once so: "every scope operation preserves that". Assumes nothing.
use Rattle.std.specs.Prelude.{Some, None}
use Prim.Native.Nat.{ℕ, ◌-◌, ◌≤◌}
use native.Mathlib.Nat.{le_trans}
use mathlib.Core.Path.{◌≡◌, refl, sym, ap, subst}
use mathlib.Core.Bool.{Bool, true, false, cond}
use mathlib.Core.List.{List, [], ◌∷◌}
use lib.Dec.{eqb, ltb, leb}
use lib.ListN.{length, get_or}
use Rattle.refusals.specs.declared.MirLowerError.{MirLowerError}
use Rattle.refusals.specs.Refusals.{done, stopped, and_then}
use Rattle.place.specs.declared.LocalId.{LocalId}
use Rattle.mir.specs.declared.BasicBlockId.{BasicBlockId}
use Rattle.mir.specs.declared.blocks.Terminator.{Terminator}
use Rattle.mir.specs.Blocks.{block_limit}
use Rattle.mir.specs.Statements.{statement_limit}
use Rattle.mir.specs.Scopes.{scope_limit}
use Rattle.mir.specs.Rvalues.{dead_row}
use Rattle.state.specs.State.{State}
use Rattle.state.specs.Steps.{within, next_block, new_block, push_statement, push_scope, set_terminator, scope_start, pop_scope, try_block, try_statement, try_scope}
use Rattle.lower_spec.specs.Results.{OptBlock}
use Rattle.lower_spec.specs.Merging.{set_goto, merge_blocks}
use Rattle.lower_spec.specs.Recorded.{recorded, occurs, OncePerLocal}
use Rattle.lower_spec.specs.Temps.{temp}
use Rattle.drop_scopes_spec.specs.Dropping.{At, is_copy, mark_dead, emit_drop_and_storage_dead, leave_all, entries_from, drop_until_scope, pop_and_drop, pop_assume_dropped}
use Rattle.counting.proofs.Holding.{Gives, gives, stops, gives_then}
use Rattle.named.specs.Named.{NamedBelow}
use Rattle.named.specs.Marked.{MarksRecorded}
use Rattle.named.proofs.Recording.{Made, made_nothing, made_beside, made_line, made_recorded, occurs_take, once_made}
use Rattle.named.proofs.Rows.{dead_unmarked}
use Rattle.named.proofs.Keeping.{kept_start, keeps_temp, guarded}

-- the entries are the same
abbrev SameEntries : State → State → Type 0
SameEntries st st₁ = st₁.entries ≡ st.entries

-- what was made, up to a state and the block that goes on
abbrev MadeAt : State → At → Type 0
MadeAt s₀ at = Made s₀ at.state

-- entries that are the same
pub same_once : (st st₁ : State) → SameEntries st st₁ → OncePerLocal st st₁
same_once st st₁ e l h = subst (λ (es : List ℕ). occurs l es ≤ 1) (sym e) h

-- a step within a limit
same_within : (b : Bool) (st st₁ : State) → SameEntries st st₁ → Gives (SameEntries st) (within b st₁)
same_within true st st₁ e = gives (SameEntries st) st₁ e
same_within false st st₁ e = stops (SameEntries st) MirLowerError.Limit

-- one block more
made_block : (s₀ st : State) → Made s₀ st → Gives (Made s₀) (try_block st)
unfolding try_block new_block
made_block s₀ st m = by (ltb (length st.blocks) block_limit)
  where
    by : (b : Bool) → Gives (Made s₀) (within b (new_block st))
    by true = gives (Made s₀) (new_block st) (made_beside (new_block st) m refl refl refl)
    by false = stops (Made s₀) MirLowerError.Limit

-- a dead mark: it records nothing
made_dead : (s₀ st : State) (block : BasicBlockId) (l : LocalId) → Made s₀ st → Gives (MadeAt s₀) (mark_dead st block l)
unfolding mark_dead try_statement push_statement recorded
made_dead s₀ st block l m = by (ltb (length st.statements) statement_limit)
  where
    row : List ℕ
    row = dead_row block l

    by : (b : Bool) → Gives (MadeAt s₀) (and_then (within b (push_statement st (dead_row block l))) (λ st₁. done (record { state = st₁; block = block })))
    by true = gives (MadeAt s₀) _ (made_line (push_statement st row) row m refl refl (ap (recorded st.entries) (sym (dead_unmarked block l))))
    by false = stops (MadeAt s₀) MirLowerError.Limit

-- a local leaves
made_drop : (image : List ℕ) (s₀ st : State) (block : BasicBlockId) (l : LocalId) → Made s₀ st → Gives (MadeAt s₀) (emit_drop_and_storage_dead image st block l)
unfolding emit_drop_and_storage_dead set_terminator
made_drop image s₀ st block l m = by (is_copy image (get_or st.locals l.0 0))
  where
    by : (b : Bool) → Gives (MadeAt s₀) (cond b (mark_dead st block l) (and_then (try_block st) (λ st₁. mark_dead (set_terminator st₁ block (Terminator.Drop l (next_block st))) (next_block st) l)))
    by true = made_dead s₀ st block l m
    by false =
        gives_then {Q = MadeAt s₀} (try_block st) _ (made_block s₀ st m) (λ st₁ m₁.
        let st₂ = set_terminator st₁ block (Terminator.Drop l (next_block st)) in
        made_dead s₀ st₂ (next_block st) l (made_beside st₂ m₁ refl refl refl))

-- locals leave
made_leaving : (image : List ℕ) (s₀ st : State) (block : BasicBlockId) (ls : List ℕ) → Made s₀ st → Gives (MadeAt s₀) (leave_all image st block ls)
unfolding leave_all
made_leaving image s₀ st block [] m = gives (MadeAt s₀) _ m
made_leaving image s₀ st block (l ∷ ls) m =
    gives_then {Q = MadeAt s₀} (emit_drop_and_storage_dead image st block (record { 0 = l })) _ (made_drop image s₀ st block (record { 0 = l }) m) (λ at m₁.
    made_leaving image s₀ at.state at.block ls m₁)

-- `drop_until_scope`: it makes dead marks, and these record nothing
made_until : (image : List ℕ) (st : State) (i : ℕ) (block : BasicBlockId) → Gives (MadeAt st) (drop_until_scope image st i block)
unfolding drop_until_scope
made_until image st i block = by (leb i (length st.scopes))
  where
    by : (b : Bool) → Gives (MadeAt st) (cond b (leave_all image st block (entries_from st i)) (stopped MirLowerError.NoScope))
    by true = made_leaving image st st block (entries_from st i) (made_nothing st)
    by false = stops (MadeAt st) MirLowerError.NoScope

pub drop_until_recorded : (image : List ℕ) (st : State) (i : ℕ) (block : BasicBlockId) → Gives (λ (at : At). MarksRecorded st at.state) (drop_until_scope image st i block)
drop_until_recorded image st i block = record { at = λ at e. made_recorded ((made_until image st i block).at at e) }

pub drop_until_once : (image : List ℕ) (st : State) (i : ℕ) (block : BasicBlockId) → Gives (λ (at : At). OncePerLocal st at.state) (drop_until_scope image st i block)
drop_until_once image st i block = record { at = λ at e. once_made ((made_until image st i block).at at e) }

-- without the last scope
popped : (st₀ st : State) → OncePerLocal st₀ st → OncePerLocal st₀ (pop_scope st)
unfolding pop_scope
popped st₀ st once l h = le_trans (occurs_take l (scope_start st (length st.scopes - 1)) st.entries) (once l h)

-- `pop_and_drop`
pub pop_and_drop_once : (image : List ℕ) (st : State) (block : BasicBlockId) → Gives (λ (at : At). OncePerLocal st at.state) (pop_and_drop image st block)
unfolding pop_and_drop
pop_and_drop_once image st block =
    guarded (eqb (length st.scopes) 0) MirLowerError.NoScope _
    (gives_then {Q = λ (at : At). OncePerLocal st at.state} (leave_all image st block (entries_from st (length st.scopes - 1))) _
    (made_leaving image st st block (entries_from st (length st.scopes - 1)) (made_nothing st)) (λ at m.
    gives (λ (at : At). OncePerLocal st at.state) _ (popped st at.state (once_made m))))

-- `pop_assume_dropped`
pub pop_assume_dropped_once : (st : State) → Gives (OncePerLocal st) (pop_assume_dropped st)
unfolding pop_assume_dropped
pop_assume_dropped_once st = guarded (eqb (length st.scopes) 0) MirLowerError.NoScope _ (gives (OncePerLocal st) (pop_scope st) (popped st st (λ l h. h)))

-- `push_drop_scope`
pub push_once : (st : State) → Gives (OncePerLocal st) (try_scope st)
unfolding try_scope push_scope
push_once st = record { at = λ st₁ e. same_once st st₁ ((same_within (ltb (length st.scopes) scope_limit) st (push_scope st) refl).at st₁ e) }

-- `merge_blocks`
pub merge_once : (st : State) (x y : OptBlock) → Gives (OncePerLocal st) (merge_blocks st x y)
unfolding merge_blocks set_terminator
merge_once st None y = gives (OncePerLocal st) st (same_once st st refl)
merge_once st (Some a) None = gives (OncePerLocal st) st (same_once st st refl)
merge_once st (Some a) (Some b) =
    gives_then {Q = OncePerLocal st} (try_block st) _ (made_block st st (made_nothing st)) (λ st₁ m.
    let st₂ = set_goto (set_goto st₁ a (next_block st)) b (next_block st) in
    gives (OncePerLocal st) st₂ (once_made (made_beside st₂ m refl refl refl)))

-- `temp`
pub temp_once : (image : List ℕ) (st : State) (word : ℕ) (block : BasicBlockId) → NamedBelow st → Gives (OncePerLocal st) (temp image st word block)
temp_once image st word block named = record { at = λ st₁ e. once_made ((keeps_temp image st word block (kept_start st named)).at st₁ e).made }
