-- Temporaries and live marks, as lower.rs makes them. Assumes nothing: these are definitions.
use Rattle.std.specs.Prelude.{ℕ, Bool, false, cond, ◌&&◌, List, eqb, ltb, length, get_or}
use Rattle.refusals.specs.declared.MirLowerError.{MirLowerError}
use Rattle.refusals.specs.Refusals.{Result, done, stopped, and_then}
use Rattle.image.specs.Lists.{member}
use Rattle.image.specs.Tables.{type_count}
use Rattle.image.specs.Rows.{type_at}
use Rattle.place.specs.declared.LocalId.{LocalId}
use Rattle.mir.specs.declared.BasicBlockId.{BasicBlockId}
use Rattle.mir.specs.Rvalues.{live_row}
use Rattle.state.specs.State.{State}
use Rattle.state.specs.Steps.{next_local, try_local, try_entry, try_statement}

-- the word of a local's type says a slice, kind 9 of the type table; str is none
unfoldable pub is_slice : List ℕ → ℕ → Bool
is_slice image word = ltb word (type_count image) && eqb (type_at image word).kind 9

-- an open scope holds the local: the entries are those of the open scopes
unfoldable pub is_held : State → LocalId → Bool
is_held st l = member l.0 st.entries

-- a local that is held as it is, or another as the last entry of the last scope
abbrev pub record_unless : Bool → State → LocalId → Result State
record_unless held st l = cond held (done st) (try_entry st l)

-- a local, held or not, live from the end of a block on; without a scope document 01's number 14
unfoldable pub mark_live : Bool → State → LocalId → BasicBlockId → Result State
mark_live held st l block =
    cond (eqb (length st.scopes) 0) (stopped MirLowerError.NoScope)
    (and_then (record_unless held st l) (λ st₁. try_statement st₁ (live_row block l)))

-- request S-4: "A live mark now records its local in the last scope unless an open scope already holds it."
abbrev pub push_storage_live_for_local : State → LocalId → BasicBlockId → Result State
push_storage_live_for_local st l block = mark_live (is_held st l) st l block

-- a temporary of the type that the word says, live from the end of a block on: its number is `next_local st`; one of slice type is refused. No scope holds a new local
-- (crate `named`), so none is looked through
unfoldable pub temp : List ℕ → State → ℕ → BasicBlockId → Result State
temp image st word block =
    cond (is_slice image word) (stopped MirLowerError.UnsizedTemporary)
    (and_then (try_local st word) (λ st₁. mark_live false st₁ (next_local st) block))

-- the local of a binding: a word of the bindings' table, in which 65535 stands for none
unfoldable pub binding_local : List ℕ → ℕ → Result LocalId
binding_local locals b = cond (eqb (get_or locals b 65535) 65535) (stopped MirLowerError.InaccessibleLocal) (done (record { 0 = get_or locals b 65535 }))

-- a binding's local, live from the end of a block on
unfoldable pub push_storage_live : State → List ℕ → ℕ → BasicBlockId → Result State
push_storage_live st locals b block = and_then (binding_local locals b) (λ l. push_storage_live_for_local st l block)

-- the local of a test of an enum: a temporary of its own, of type i128 (word 258)
abbrev pub discr_temp_place : List ℕ → State → BasicBlockId → Result State
discr_temp_place image st block = temp image st 258 block
