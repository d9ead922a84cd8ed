-- What each step of the building of a state does to its count of blocks, to their terminators and to its lines. Assumes nothing.
use Prim.Native.Nat.{ℕ, zero, suc, ◌≤◌, ◌<◌}
use native.Mathlib.Numerals.{add-one}
use native.Mathlib.Omega.{arith}
use mathlib.Core.Path.{◌≡◌, refl, ap, ◌∙◌}
use mathlib.Core.Logic.{◌≢◌}
use mathlib.Core.List.{List, [], ◌∷◌, ◌++◌, map-append}
use lib.ListN.{length, get_or, length-append, length-set, length-map, get_or-eq_default}
use lib.Seq.{get_or-set_same, get_or-set_other}
use Rattle.mir.specs.declared.BasicBlockId.{BasicBlockId}
use Rattle.mir.specs.declared.blocks.Terminator.{Terminator}
use Rattle.mir.specs.Blocks.{term_row}
use Rattle.state.specs.State.{State}
use Rattle.state.specs.Steps.{new_block, set_terminator, push_statement}
use Rattle.views.specs.Views.{Mir, terminator_of, line_of, mir_of}
use Rattle.views.specs.Growing.{terminator_at, add_block, put_terminator, Closed}
use Rattle.views.proofs.ReadBack.{Halved, terminator_back}
use Rattle.views.proofs.Building.{mir_block, mir_row, closed_row}
use Rattle.growth.specs.Opened.{count, terminator, lines}

-- a body has as many blocks as its state
pub count_is : (st : State) → length (mir_of st).terminators ≡ count st
unfolding mir_of
count_is st = length-map st.blocks terminator_of

-- one block more is one more
pub count_block : (st : State) → count (new_block st) ≡ suc (count st)
unfolding new_block
count_block st = length-append st.blocks _ ∙ add-one (count st)

-- a terminator set is no block more
pub count_terminator : (st : State) (b : BasicBlockId) (t : Terminator) → count (set_terminator st b t) ≡ count st
unfolding set_terminator
count_terminator st b t = length-set st.blocks b.0 (term_row t)

-- a block that is new was open before too, as all blocks past the last
pub terminator_block : (st : State) (b : ℕ) → terminator (new_block st) b ≡ terminator st b
unfolding add_block
terminator_block st b = ap (λ (m : Mir). terminator_at m b) (mir_block st) ∙ go (mir_of st).terminators b
  where
    go : (l : List Terminator) (b : ℕ) → get_or (l ++ (Terminator.Open ∷ [])) b Terminator.Open ≡ get_or l b Terminator.Open
    go [] zero = refl
    go [] (suc b) = refl
    go (x ∷ l) zero = refl
    go (x ∷ l) (suc b) = go l b

-- the block whose terminator is set, as its row has it
terminator_row : (st : State) (c : BasicBlockId) (t : Terminator) → c.0 < count st → terminator (set_terminator st c t) c.0 ≡ terminator_of (term_row t)
unfolding put_terminator
terminator_row st c t h =
    let i : c.0 < length (mir_of st).terminators = omega (arith, count_is st) in
    ap (λ (m : Mir). terminator_at m c.0) (mir_row st c t) ∙ get_or-set_same (mir_of st).terminators c.0 (terminator_of (term_row t)) Terminator.Open i

-- the block whose terminator is set has it, if its value has 16 bytes
pub terminator_set : (st : State) (c : BasicBlockId) (t : Terminator) → c.0 < count st → Halved t → terminator (set_terminator st c t) c.0 ≡ t
terminator_set st c t h k = terminator_row st c t h ∙ terminator_back t k

-- the block whose terminator is set is closed
pub closes : (st : State) (c : BasicBlockId) (b : ℕ) (t : Terminator) → c.0 < count st → Closed t → b ≡ c.0 → Closed (terminator (set_terminator st c t) b)
closes st c b t h k e =
    let is : terminator (set_terminator st c t) b ≡ terminator_of (term_row t) = ap (terminator (set_terminator st c t)) e ∙ terminator_row st c t h in
    rw is (closed_row t k)

-- any other block
pub terminator_other : (st : State) (c : BasicBlockId) (t : Terminator) (b : ℕ) → b ≢ c.0 → terminator (set_terminator st c t) b ≡ terminator st b
unfolding put_terminator
terminator_other st c t b h =
    ap (λ (m : Mir). terminator_at m b) (mir_row st c t) ∙ get_or-set_other (mir_of st).terminators c.0 b (terminator_of (term_row t)) Terminator.Open h

-- past the last block nothing is closed
pub terminator_past : (st : State) (b : ℕ) → count st ≤ b → terminator st b ≡ Terminator.Open
terminator_past st b h = get_or-eq_default (mir_of st).terminators Terminator.Open (omega (arith, count_is st))

-- one statement more is one line more
pub lines_statement : (st : State) (row : List ℕ) → lines (push_statement st row) ≡ lines st ++ (line_of row ∷ [])
unfolding mir_of push_statement
lines_statement st row = map-append line_of st.statements (row ∷ [])
