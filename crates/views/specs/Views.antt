-- A body as MIR has it: its rows, read as terminators and statements. Assumes nothing: these are definitions.
use Rattle.std.specs.Prelude.{ℕ, zero, suc, ◌+◌, ◌*◌, List, [], ◌∷◌, map, get_or}
use Rattle.place.specs.declared.elems.ProjectionElem.{ProjectionElem}
use Rattle.place.specs.Elems.{elem_of}
use Rattle.mir.specs.declared.blocks.Terminator.{Terminator}
use Rattle.mir.specs.declared.rvalues.Constant.{Constant}
use Rattle.mir.specs.declared.rvalues.BinOp.{BinOp}
use Rattle.mir.specs.declared.rvalues.PlaceRvalue.{PlaceRvalue}
use Rattle.mir.specs.declared.rvalues.Left.{Left}
use Rattle.state.specs.State.{State}

-- a local, and the way from it to a part of its value
pub record Path : Type 0 where
  pub local : ℕ
  pub elems : List ProjectionElem

-- what a local is set to: what is made of a place, a constant, or what an operator makes of two operands
pub data Rvalue : Type 0 where
  of_place : PlaceRvalue → Path → Rvalue
  of_constant : Constant → Rvalue
  binary : BinOp → Left → Path → Rvalue
  unknown_rvalue : Rvalue

pub data Statement : Type 0 where
  live : ℕ → Statement
  dead : ℕ → Statement
  set : ℕ → Rvalue → Statement

-- a statement, and the block that it stands in
pub record Line : Type 0 where
  pub block : ℕ
  pub statement : Statement

-- a body: the terminators of its blocks, all its statements in order of creation, and the words of its locals' types
pub record Mir : Type 0 where
  pub terminators : List Terminator
  pub lines : List Line
  pub locals : List ℕ

-- the word k of a row
abbrev pub word : List ℕ → ℕ → ℕ
word row k = get_or row k 0

-- four words as a number below 2^64, the lowest first
abbrev pub four_words_at : List ℕ → ℕ → ℕ
four_words_at row k = word row k + 65536 * word row (k + 1) + 4294967296 * word row (k + 2) + 281474976710656 * word row (k + 3)

-- the terminators of each kind with a row's numbers, the kinds numbered from 0
abbrev pub terminator_kinds : List ℕ → List Terminator
terminator_kinds row =
    Terminator.Open
    ∷ Terminator.Goto (record { 0 = word row 2 })
    ∷ Terminator.Switch (record { 0 = word row 1 }) (four_words_at row 4) (four_words_at row 8) (record { 0 = word row 2 }) (record { 0 = word row 3 })
    ∷ Terminator.Unreachable
    ∷ Terminator.Drop (record { 0 = word row 1 }) (record { 0 = word row 2 })
    ∷ []

unfoldable pub terminator_of : List ℕ → Terminator
terminator_of row = get_or (terminator_kinds row) (word row 0) Terminator.Open

-- n elements of a place, each of two words, from the word k of a row on
unfoldable pub elems_at : List ℕ → ℕ → ℕ → List ProjectionElem
elems_at row k zero = []
elems_at row k (suc n) = elem_of (word row k + 65536 * word row (k + 1)) ∷ elems_at row (k + 2) n

unfoldable pub path_of : List ℕ → Path
path_of row = record { local = word row 15; elems = elems_at row 17 (word row 16) }

unfoldable pub constant_at : List ℕ → Constant
constant_at row = record { count = word row 4; ty = word row 5; offset = word row 6; low = four_words_at row 7; high = four_words_at row 11 }

-- the left operand: 1 a local, 2 a constant
unfoldable pub left_of : List ℕ → Left
left_of row = get_or (Left.Constant (constant_at row) ∷ Left.Local (record { 0 = word row 4 }) ∷ []) (word row 3) (Left.Constant (constant_at row))

-- the statements of each kind with a row's numbers, the kinds numbered from 0, which is none
abbrev pub statement_kinds : List ℕ → List Statement
statement_kinds row =
    set (word row 2) unknown_rvalue
    ∷ live (word row 2)
    ∷ dead (word row 2)
    ∷ set (word row 2) (of_place PlaceRvalue.Copy (path_of row))
    ∷ set (word row 2) (of_place PlaceRvalue.Ref (path_of row))
    ∷ set (word row 2) (of_place PlaceRvalue.Mut (path_of row))
    ∷ set (word row 2) (of_place PlaceRvalue.Len (path_of row))
    ∷ set (word row 2) (of_place PlaceRvalue.Discr (path_of row))
    ∷ set (word row 2) (of_constant (constant_at row))
    ∷ set (word row 2) (binary BinOp.Eq (left_of row) (path_of row))
    ∷ set (word row 2) (binary BinOp.Le (left_of row) (path_of row))
    ∷ set (word row 2) (binary BinOp.Ge (left_of row) (path_of row))
    ∷ set (word row 2) (binary BinOp.Gt (left_of row) (path_of row))
    ∷ []

unfoldable pub line_of : List ℕ → Line
line_of row = record { block = word row 0; statement = get_or (statement_kinds row) (word row 1) (set (word row 2) unknown_rvalue) }

-- the body of a state
unfoldable pub mir_of : State → Mir
mir_of st = record { terminators = map terminator_of st.blocks; lines = map line_of st.statements; locals = st.locals }
