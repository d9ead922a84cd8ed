-- The steps that build a body refuse with a limit, or for want of a scope; the locals that there were stay. Assumes nothing.
use Rattle.std.specs.Prelude.{Some, None}
use mathlib.Core.Path.{◌≡◌, refl, ◌∙◌}
use mathlib.Core.Bool.{Bool, true, false}
use mathlib.Core.List.{List, [], ◌∷◌}
use Prim.Native.Nat.{ℕ, ◌≤◌, ◌<◌}
use native.Mathlib.Nat.{le_refl, le_trans, lt_of_lt_of_le}
use native.Mathlib.Omega.{arith}
use borrow.Author.Tests.{le-ltb}
use lib.Dec.{eqb, ltb}
use lib.ListN.{length, get_or, length-append, get_or-append}
use Rattle.image.specs.Tables.{type_count}
use Rattle.refusals.specs.declared.MirLowerError.{MirLowerError}
use Rattle.refusals.specs.Refusals.{and_then}
use Rattle.place.specs.declared.LocalId.{LocalId}
use Rattle.mir.specs.declared.BasicBlockId.{BasicBlockId}
use Rattle.mir.specs.declared.blocks.Terminator.{Terminator}
use Rattle.mir.specs.Blocks.{block_limit}
use Rattle.mir.specs.Statements.{statement_limit}
use Rattle.mir.specs.Locals.{local_limit}
use Rattle.mir.specs.Scopes.{entry_limit}
use Rattle.mir.specs.Rvalues.{live_row}
use Rattle.state.specs.State.{State}
use Rattle.state.specs.Steps.{new_block, set_terminator, push_statement, new_local, push_entry, within, try_block, try_statement, try_local, try_entry, next_local}
use Rattle.lower_spec.specs.Results.{OptBlock}
use Rattle.lower_spec.specs.Temps.{is_slice, record_unless, mark_live, temp}
use Rattle.pattern_matching.specs.Walking.{else_state}
use Rattle.fitted.proofs.Stopping.{Fair, fair_done, fair_stopped, fair_then, fair_as, fair_cond}

-- the locals that there were stay
pub record Kept (st st' : State) : Type 0 where
  pub locals : length st.locals ≤ length st'.locals
  pub kept : (i : ℕ) → i < length st.locals → get_or st'.locals i 0 ≡ get_or st.locals i 0

-- nothing is done
pub kept_same : (st : State) → Kept st st
kept_same st = record { locals = le_refl _; kept = λ i l. refl }

-- one step, and then another
pub kept_on : {st st₁ st₂ : State} → Kept st st₁ → Kept st₁ st₂ → Kept st st₂
kept_on g h = record { locals = le_trans g.locals h.locals; kept = λ i l. h.kept i (lt_of_lt_of_le l g.locals) ∙ g.kept i l }

-- a terminator
pub kept_terminator : (st : State) (b : BasicBlockId) (t : Terminator) → Kept st (set_terminator st b t)
unfolding set_terminator
kept_terminator st b t = record { locals = le_refl _; kept = λ i l. refl }

-- a step within a limit
room : {A : Type 0} (Q : A → Type 0) (b : Bool) (a : A) → Q a → Fair Q (within b a)
room Q true a q = fair_done Q a q
room Q false a q = fair_stopped Q MirLowerError.Limit tt

-- one block
pub fair_block : (st : State) → Fair (Kept st) (try_block st)
unfolding try_block new_block
fair_block st = room (Kept st) (ltb (length st.blocks) block_limit) (new_block st) (record { locals = le_refl _; kept = λ i l. refl })

-- one statement
pub fair_statement : (st : State) (row : List ℕ) → Fair (Kept st) (try_statement st row)
unfolding try_statement push_statement
fair_statement st row = room (Kept st) (ltb (length st.statements) statement_limit) (push_statement st row) (record { locals = le_refl _; kept = λ i l. refl })

-- one entry
fair_entry : (st : State) (l : LocalId) → Fair (Kept st) (try_entry st l)
unfolding try_entry push_entry
fair_entry st l = room (Kept st) (ltb (length st.entries) entry_limit) (push_entry st l) (record { locals = le_refl _; kept = λ i h. refl })

-- one local
fair_local : (st : State) (word : ℕ) → Fair (Kept st) (try_local st word)
unfolding try_local new_local
fair_local st word =
    room (Kept st) (ltb (length st.locals) local_limit) (new_local st word)
    (record {
      locals = let e = length-append st.locals (word ∷ []) in omega (arith, e);
      kept = λ i l. get_or-append st.locals (word ∷ []) 0 i l;
    })

-- a local that is held, or one entry
fair_recorded : (held : Bool) (st : State) (l : LocalId) → Fair (Kept st) (record_unless held st l)
fair_recorded true st l = fair_done (Kept st) st (kept_same st)
fair_recorded false st l = fair_entry st l

-- a local made live, held or not
pub fair_live : (held : Bool) (st : State) (l : LocalId) (block : BasicBlockId) → Fair (Kept st) (mark_live held st l block)
unfolding mark_live
fair_live held st l block =
    fair_cond (eqb (length st.scopes) 0) MirLowerError.NoScope (and_then (record_unless held st l) (λ st₁. try_statement st₁ (live_row block l))) tt
    (fair_then {Q = Kept st} (record_unless held st l) (λ st₁. try_statement st₁ (live_row block l)) (fair_recorded held st l) (λ st₁ g.
    fair_as (λ st₂ h. kept_on g h) (fair_statement st₁ (live_row block l))))

-- a temporary whose type is no slice
pub fair_temp : (image : List ℕ) (st : State) (word : ℕ) (block : BasicBlockId) → is_slice image word ≡ false → Fair (Kept st) (temp image st word block)
unfolding temp
fair_temp image st word block e =
    rw e
    (fair_then {Q = Kept st} (try_local st word) (λ st₁. mark_live false st₁ (next_local st) block) (fair_local st word) (λ st₁ g.
    fair_as (λ st₂ h. kept_on g h) (fair_live false st₁ (next_local st) block)))

-- the words of the types that tests make are beyond the type table
pub no_slice : (image : List ℕ) (word : ℕ) → type_count image ≤ word → is_slice image word ≡ false
unfolding is_slice
no_slice image word h = rw (le-ltb word (type_count image) h)

-- the else that there is, or a new block
pub fair_else : (st : State) (els : OptBlock) → Fair (Kept st) (else_state st els)
unfolding else_state
fair_else st (Some b) = fair_done (Kept st) st (kept_same st)
fair_else st None = fair_block st
