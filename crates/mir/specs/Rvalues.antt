-- The rows of the statements of the listing. A kind is 1 live, 2 dead, 3 copy, 4 ref, 5 mut, 6 len, 7 discr, 8 constant, 9 eq, 10 le, 11 ge, 12 gt. The left
-- operand begins with 0 where there is none, 1 for a local, 2 for a constant. Assumes nothing: these are definitions.
use Rattle.std.specs.Prelude.{ℕ, List, [], ◌∷◌, ◌++◌}
use Rattle.row_tables.specs.Rows.{zeros}
use Rattle.place.specs.declared.LocalId.{LocalId}
use Rattle.place.specs.declared.Place.{Place}
use Rattle.mir.specs.declared.BasicBlockId.{BasicBlockId}
use Rattle.mir.specs.declared.rvalues.Constant.{Constant}
use Rattle.mir.specs.declared.rvalues.PlaceRvalue.{PlaceRvalue}
use Rattle.mir.specs.declared.rvalues.BinOp.{BinOp}
use Rattle.mir.specs.declared.rvalues.Left.{Left}
use Rattle.mir.specs.Blocks.{four_words}
use Rattle.mir.specs.Statements.{place_words}

-- a constant: its count of bytes, its type's word, a string's offset in the data, and its 16 bytes, the lowest first
unfoldable pub constant_words : Constant → List ℕ
constant_words c = 2 ∷ c.count ∷ c.ty ∷ c.offset ∷ (four_words c.low ++ four_words c.high)

-- the left operand of an operator
unfoldable pub left_words : Left → List ℕ
left_words (Left.Local l) = 1 ∷ l.0 ∷ zeros 10
left_words (Left.Constant c) = constant_words c

-- the kind of what is made of a place
unfoldable pub place_rvalue_kind : PlaceRvalue → ℕ
place_rvalue_kind PlaceRvalue.Copy = 3
place_rvalue_kind PlaceRvalue.Ref = 4
place_rvalue_kind PlaceRvalue.Mut = 5
place_rvalue_kind PlaceRvalue.Len = 6
place_rvalue_kind PlaceRvalue.Discr = 7

-- the kind of an operator
unfoldable pub binary_kind : BinOp → ℕ
binary_kind BinOp.Eq = 9
binary_kind BinOp.Le = 10
binary_kind BinOp.Ge = 11
binary_kind BinOp.Gt = 12

-- a row: its block, its kind and a local, a left operand and a place
abbrev pub statement_row : BasicBlockId → ℕ → LocalId → List ℕ → List ℕ → List ℕ
statement_row block kind l operand place = (block.0 ∷ kind ∷ l.0 ∷ []) ++ (operand ++ place)

-- StorageLive of a local
unfoldable pub live_row : BasicBlockId → LocalId → List ℕ
live_row block l = statement_row block 1 l (zeros 12) (zeros 34)

-- StorageDead of a local
unfoldable pub dead_row : BasicBlockId → LocalId → List ℕ
dead_row block l = statement_row block 2 l (zeros 12) (zeros 34)

-- a local set to what is made of a place
unfoldable pub place_rvalue_row : BasicBlockId → LocalId → PlaceRvalue → Place → List ℕ
place_rvalue_row block target rvalue place = statement_row block (place_rvalue_kind rvalue) target (zeros 12) (place_words place)

-- a local set to a constant
unfoldable pub constant_row : BasicBlockId → LocalId → Constant → List ℕ
constant_row block target constant = statement_row block 8 target (constant_words constant) (zeros 34)

-- a local set to what an operator makes of a left operand and a copy of a place
unfoldable pub binary_row : BasicBlockId → LocalId → BinOp → Left → Place → List ℕ
binary_row block target op left place = statement_row block (binary_kind op) target (left_words left) (place_words place)
