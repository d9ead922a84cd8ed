-- What each step of the building of a state does to the body that is read out of it. Assumes nothing.
use Prim.Native.Nat.{ℕ, zero, suc, ◌≤◌}
use mathlib.Core.Path.{◌≡◌, refl, ap, ◌∙◌}
use mathlib.Core.List.{List, [], ◌∷◌, map, map-append}
use lib.ListN.{length, set}
use Rattle.place.specs.declared.LocalId.{LocalId}
use Rattle.place.specs.declared.Place.{Place}
use Rattle.mir.specs.declared.BasicBlockId.{BasicBlockId}
use Rattle.mir.specs.declared.blocks.Terminator.{Terminator}
use Rattle.mir.specs.declared.rvalues.Constant.{Constant}
use Rattle.mir.specs.declared.rvalues.BinOp.{BinOp}
use Rattle.mir.specs.declared.rvalues.PlaceRvalue.{PlaceRvalue}
use Rattle.mir.specs.declared.rvalues.Left.{Left}
use Rattle.mir.specs.Blocks.{term_row}
use Rattle.mir.specs.Rvalues.{live_row, dead_row, place_rvalue_row, constant_row, binary_row}
use Rattle.state.specs.State.{State}
use Rattle.state.specs.Steps.{new_block, set_terminator, push_statement, new_local, push_scope, push_entry}
use Rattle.views.specs.Views.{of_place, of_constant, binary, live, dead, Line, terminator_of, line_of, mir_of}
use Rattle.views.specs.Views.{set as puts}
use Rattle.views.specs.Growing.{add_block, put_terminator, add_line, add_local, Closed}
use Rattle.views.proofs.ReadBack.{Halved, Small, SmallLeft, path_to, terminator_back, live_back, dead_back, place_rvalue_back, constant_back, binary_back}

-- a list with one element put, mapped
map_set : {A B : Type 0} (f : A → B) (l : List A) (i : ℕ) (a : A) → map f (set l i a) ≡ set (map f l) i (f a)
map_set f [] i a = refl
map_set f (x ∷ l) zero a = refl
map_set {B} f (x ∷ l) (suc i) a = ap (λ (t : List B). f x ∷ t) (map_set f l i a)

-- one block more
pub mir_block : (st : State) → mir_of (new_block st) ≡ add_block (mir_of st)
unfolding mir_of new_block add_block terminator_of
mir_block st =
    ap (λ (ts : List Terminator). record { terminators = ts; lines = map line_of st.statements; locals = st.locals })
    (map-append terminator_of st.blocks _)

-- the terminator of a block, as its row has it
pub mir_row : (st : State) (b : BasicBlockId) (t : Terminator) → mir_of (set_terminator st b t) ≡ put_terminator (mir_of st) b.0 (terminator_of (term_row t))
unfolding mir_of set_terminator put_terminator
mir_row st b t =
    ap (λ (ts : List Terminator). record { terminators = ts; lines = map line_of st.statements; locals = st.locals })
    (map_set terminator_of st.blocks b.0 (term_row t))

-- the terminator of a block
pub mir_terminator : (st : State) (b : BasicBlockId) (t : Terminator) → Halved t → mir_of (set_terminator st b t) ≡ put_terminator (mir_of st) b.0 t
mir_terminator st b t h = mir_row st b t ∙ ap (λ (x : Terminator). put_terminator (mir_of st) b.0 x) (terminator_back t h)

-- a terminator that is set is read back as one that is set, whatever the size of its value
pub closed_row : (t : Terminator) → Closed t → Closed (terminator_of (term_row t))
unfolding terminator_of term_row
closed_row Terminator.Open c = c
closed_row (Terminator.Goto b) c = tt
closed_row (Terminator.Switch l low high then else) c = tt
closed_row Terminator.Unreachable c = tt
closed_row (Terminator.Drop l b) c = tt

-- one statement more, of any row
pub mir_statement : (st : State) (row : List ℕ) → mir_of (push_statement st row) ≡ add_line (mir_of st) (line_of row).block (line_of row).statement
unfolding mir_of push_statement add_line
mir_statement st row =
    ap (λ (ls : List Line). record { terminators = map terminator_of st.blocks; lines = ls; locals = st.locals }) (map-append line_of st.statements (row ∷ []))

-- one statement more, of a row that is read as this line
mir_line : (st : State) (row : List ℕ) (line : Line) → line_of row ≡ line → mir_of (push_statement st row) ≡ add_line (mir_of st) line.block line.statement
mir_line st row line e = mir_statement st row ∙ ap (λ (x : Line). add_line (mir_of st) x.block x.statement) e

-- a live mark more
pub mir_live : (st : State) (block : BasicBlockId) (l : LocalId) → mir_of (push_statement st (live_row block l)) ≡ add_line (mir_of st) block.0 (live l.0)
mir_live st block l = mir_line st (live_row block l) _ (live_back block l)

-- a dead mark more
pub mir_dead : (st : State) (block : BasicBlockId) (l : LocalId) → mir_of (push_statement st (dead_row block l)) ≡ add_line (mir_of st) block.0 (dead l.0)
mir_dead st block l = mir_line st (dead_row block l) _ (dead_back block l)

-- a local set to what is made of a place
pub mir_place_rvalue : (st : State) (block : BasicBlockId) (target : LocalId) (rvalue : PlaceRvalue) (place : Place) → place.len ≤ 16 → length place.elems ≡ 16 →
    mir_of (push_statement st (place_rvalue_row block target rvalue place)) ≡ add_line (mir_of st) block.0 (puts target.0 (of_place rvalue (path_to place)))
mir_place_rvalue st block target rvalue place h k = mir_line st (place_rvalue_row block target rvalue place) _ (place_rvalue_back block target rvalue place h k)

-- a local set to a constant
pub mir_constant : (st : State) (block : BasicBlockId) (target : LocalId) (c : Constant) → Small c →
    mir_of (push_statement st (constant_row block target c)) ≡ add_line (mir_of st) block.0 (puts target.0 (of_constant c))
mir_constant st block target c h = mir_line st (constant_row block target c) _ (constant_back block target c h)

-- a local set to what an operator makes
pub mir_binary : (st : State) (block : BasicBlockId) (target : LocalId) (op : BinOp) (left : Left) (place : Place) → SmallLeft left → place.len ≤ 16 → length place.elems ≡ 16 →
    mir_of (push_statement st (binary_row block target op left place)) ≡ add_line (mir_of st) block.0 (puts target.0 (binary op left (path_to place)))
mir_binary st block target op left place s h k = mir_line st (binary_row block target op left place) _ (binary_back block target op left place s h k)

-- one local more
pub mir_local : (st : State) (word : ℕ) → mir_of (new_local st word) ≡ add_local (mir_of st) word
unfolding mir_of new_local add_local
mir_local st word = refl

-- an entry more: none of the body's
pub mir_entry : (st : State) (l : LocalId) → mir_of (push_entry st l) ≡ mir_of st
unfolding mir_of push_entry
mir_entry st l = refl

-- a scope more: none of the body's
pub mir_scope : (st : State) → mir_of (push_scope st) ≡ mir_of st
unfolding mir_of push_scope
mir_scope st = refl
