-- A terminator's row has 12 words, and a statement's 49. Assumes nothing.
use mathlib.Core.Path.{◌≡◌, refl}
use mathlib.Core.List.{List, [], ◌∷◌}
use Prim.Native.Nat.{ℕ, ◌+◌}
use native.Mathlib.Omega.{arith}
use lib.ListN.{length, length-append}
use Rattle.row_tables.specs.Rows.{zeros}
use Rattle.place.specs.declared.LocalId.{LocalId}
use Rattle.place.specs.declared.Place.{Place}
use Rattle.mir.specs.declared.BasicBlockId.{BasicBlockId}
use Rattle.mir.specs.declared.blocks.Terminator.{Terminator}
use Rattle.mir.specs.declared.rvalues.Constant.{Constant}
use Rattle.mir.specs.declared.rvalues.PlaceRvalue.{PlaceRvalue}
use Rattle.mir.specs.declared.rvalues.BinOp.{BinOp}
use Rattle.mir.specs.declared.rvalues.Left.{Left}
use Rattle.mir.specs.Blocks.{term_row}
use Rattle.mir.specs.Statements.{halves, place_words, statement_width}
use Rattle.mir.specs.Rvalues.{constant_words, left_words, statement_row, live_row, dead_row, place_rvalue_row, constant_row, binary_row, place_rvalue_kind, binary_kind}

pub term_length : (t : Terminator) → length (term_row t) ≡ 12
unfolding term_row
term_length Terminator.Open = refl
term_length (Terminator.Goto b) = refl
term_length (Terminator.Switch l low high then else) = refl
term_length Terminator.Unreachable = refl
term_length (Terminator.Drop l b) = refl

halves_length : (elems : List ℕ) → length (halves elems) ≡ length elems + length elems
unfolding halves
halves_length [] = refl
halves_length (elem ∷ elems) = omega (arith, halves_length elems)

place_length : (place : Place) → length place.elems ≡ 16 → length (place_words place) ≡ 34
unfolding place_words
place_length place h = omega (arith, halves_length place.elems)

left_length : (left : Left) → length (left_words left) ≡ 12
unfolding left_words constant_words
left_length (Left.Local l) = refl
left_length (Left.Constant c) = refl

-- three words, an operand of 12 and a place of 34
statement_length : (block : BasicBlockId) (kind : ℕ) (l : LocalId) (operand place : List ℕ) → length operand ≡ 12 → length place ≡ 34 →
    length (statement_row block kind l operand place) ≡ statement_width
statement_length block kind l operand place h k = omega (arith, length-append operand place)

pub live_length : (block : BasicBlockId) (l : LocalId) → length (live_row block l) ≡ statement_width
unfolding live_row
live_length block l = refl

pub dead_length : (block : BasicBlockId) (l : LocalId) → length (dead_row block l) ≡ statement_width
unfolding dead_row
dead_length block l = refl

pub place_rvalue_length : (block : BasicBlockId) (target : LocalId) (rvalue : PlaceRvalue) (place : Place) → length place.elems ≡ 16 →
    length (place_rvalue_row block target rvalue place) ≡ statement_width
unfolding place_rvalue_row
place_rvalue_length block target rvalue place h = statement_length block (place_rvalue_kind rvalue) target (zeros 12) (place_words place) refl (place_length place h)

pub constant_length : (block : BasicBlockId) (target : LocalId) (constant : Constant) → length (constant_row block target constant) ≡ statement_width
unfolding constant_row constant_words
constant_length block target constant = refl

pub binary_length : (block : BasicBlockId) (target : LocalId) (op : BinOp) (left : Left) (place : Place) → length place.elems ≡ 16 →
    length (binary_row block target op left place) ≡ statement_width
unfolding binary_row
binary_length block target op left place h = statement_length block (binary_kind op) target (left_words left) (place_words place) (left_length left) (place_length place h)
