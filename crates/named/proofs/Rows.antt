-- What the rows of statements and terminators name. Assumes nothing.
use Prim.Native.Nat.{ℕ, zero, suc, ◌≤◌, ◌<◌}
use native.Mathlib.Nat.{lt_of_lt_of_le}
use mathlib.Core.Path.{◌≡◌, refl}
use mathlib.Core.List.{List, [], ◌∷◌, ◌++◌, map}
use lib.ListN as lists
use Rattle.place.specs.declared.LocalId.{LocalId}
use Rattle.place.specs.declared.Place.{Place}
use Rattle.mir.specs.declared.BasicBlockId.{BasicBlockId}
use Rattle.mir.specs.declared.blocks.Terminator.{Terminator}
use Rattle.mir.specs.declared.rvalues.Constant.{Constant}
use Rattle.mir.specs.declared.rvalues.BinOp.{BinOp}
use Rattle.mir.specs.declared.rvalues.PlaceRvalue.{PlaceRvalue}
use Rattle.mir.specs.declared.rvalues.Left.{Left}
use Rattle.mir.specs.Blocks.{term_row}
use Rattle.mir.specs.Statements.{place_words}
use Rattle.mir.specs.Rvalues.{constant_words, left_words, place_rvalue_kind, binary_kind, live_row, dead_row, place_rvalue_row, constant_row, binary_row}
use Rattle.views.specs.Views.{Rvalue, of_place, of_constant, binary, unknown_rvalue, Statement, live, dead, set, terminator_of, path_of, left_of, line_of}
use Rattle.named.specs.Named.{LeftBelow, RvalueBelow, StatementBelow, TerminatorBelow, Throughout}
use Rattle.named.specs.Marked.{mark_of, marked_live}

-- what follows of each
pub each_as : {A : Type 0} {P Q : A → Type 0} → ((x : A) → P x → Q x) → (xs : List A) → Throughout P xs → Throughout Q xs
each_as f [] h = tt
each_as f (x ∷ xs) h = (f x h.0, each_as f xs h.1)

-- each of a list, and one more
pub each_more : {A : Type 0} (P : A → Type 0) (xs : List A) (a : A) → Throughout P xs → P a → Throughout P (xs ++ (a ∷ []))
each_more P [] a h k = (k, tt)
each_more P (x ∷ xs) a h k = (h.0, each_more P xs a h.1 k)

-- each that f makes of a list, and of one more
pub each_made : {A B : Type 0} (P : B → Type 0) (f : A → B) (xs : List A) (a : A) → Throughout P (map f xs) → P (f a) → Throughout P (map f (xs ++ (a ∷ [])))
each_made P f [] a h k = (k, tt)
each_made P f (x ∷ xs) a h k = (h.0, each_made P f xs a h.1 k)

-- each that f makes of a list, where one is put in another's place
pub each_set : {A B : Type 0} (P : B → Type 0) (f : A → B) (xs : List A) (i : ℕ) (a : A) → Throughout P (map f xs) → P (f a) → Throughout P (map f (lists.set xs i a))
each_set P f [] i a h k = tt
each_set P f (x ∷ xs) zero a h k = (k, h.1)
each_set P f (x ∷ xs) (suc i) a h k = (h.0, each_set P f xs i a h.1 k)

-- below a greater number, too
pub left_more : {m n : ℕ} → m ≤ n → (left : Left) → LeftBelow m left → LeftBelow n left
left_more l (Left.Local x) h = lt_of_lt_of_le h l
left_more l (Left.Constant c) h = tt

rvalue_more : {m n : ℕ} → m ≤ n → (r : Rvalue) → RvalueBelow m r → RvalueBelow n r
rvalue_more l (of_place how path) h = lt_of_lt_of_le h l
rvalue_more l (of_constant c) h = tt
rvalue_more l (binary op left path) h = (left_more l left h.0, lt_of_lt_of_le h.1 l)
rvalue_more l unknown_rvalue h = tt

pub statement_more : {m n : ℕ} → m ≤ n → (s : Statement) → StatementBelow m s → StatementBelow n s
statement_more l (live x) h = lt_of_lt_of_le h l
statement_more l (dead x) h = lt_of_lt_of_le h l
statement_more l (set x r) h = (lt_of_lt_of_le h.0 l, rvalue_more l r h.1)

pub terminator_more : {m n : ℕ} → m ≤ n → (t : Terminator) → TerminatorBelow m t → TerminatorBelow n t
terminator_more l Terminator.Open h = tt
terminator_more l (Terminator.Goto b) h = tt
terminator_more l (Terminator.Switch x low high then else) h = lt_of_lt_of_le h l
terminator_more l Terminator.Unreachable h = tt
terminator_more l (Terminator.Drop x b) h = lt_of_lt_of_le h l

-- the row of a terminator names what it names
pub terminator_row : (n : ℕ) (t : Terminator) → TerminatorBelow n t → TerminatorBelow n (terminator_of (term_row t))
unfolding terminator_of term_row
terminator_row n Terminator.Open h = tt
terminator_row n (Terminator.Goto b) h = tt
terminator_row n (Terminator.Switch l low high then else) h = h
terminator_row n Terminator.Unreachable h = tt
terminator_row n (Terminator.Drop l b) h = h

-- a row that names locals below n, and marks none live
pub record RowBelow (n : ℕ) (row : List ℕ) : Type 0 where
  pub below : StatementBelow n (line_of row).statement
  pub unmarked : marked_live (line_of row ∷ []) ≡ []

-- a live mark
pub live_row_lem : {n : ℕ} (block : BasicBlockId) (l : LocalId) → l.0 < n → StatementBelow n (line_of (live_row block l)).statement
unfolding line_of live_row
live_row_lem block l h = h

-- the local that it marks
pub live_marks : (block : BasicBlockId) (l : LocalId) → marked_live (line_of (live_row block l) ∷ []) ≡ l.0 ∷ []
unfolding line_of live_row marked_live mark_of
live_marks block l = refl

-- a dead mark marks none live
pub dead_unmarked : (block : BasicBlockId) (l : LocalId) → marked_live (line_of (dead_row block l) ∷ []) ≡ []
unfolding line_of dead_row marked_live mark_of
dead_unmarked block l = refl

-- what is made of a place
pub place_row : {n : ℕ} (block : BasicBlockId) (l : LocalId) (how : PlaceRvalue) (place : Place) → l.0 < n → place.local.0 < n → RowBelow n (place_rvalue_row block l how place)
unfolding line_of place_rvalue_row place_rvalue_kind place_words path_of marked_live mark_of
place_row block l PlaceRvalue.Copy place h k = record { below = (h, k); unmarked = refl }
place_row block l PlaceRvalue.Ref place h k = record { below = (h, k); unmarked = refl }
place_row block l PlaceRvalue.Mut place h k = record { below = (h, k); unmarked = refl }
place_row block l PlaceRvalue.Len place h k = record { below = (h, k); unmarked = refl }
place_row block l PlaceRvalue.Discr place h k = record { below = (h, k); unmarked = refl }

-- a constant
pub constant_row_lem : {n : ℕ} (block : BasicBlockId) (l : LocalId) (c : Constant) → l.0 < n → RowBelow n (constant_row block l c)
unfolding line_of constant_row constant_words marked_live mark_of
constant_row_lem block l c h = record { below = (h, tt); unmarked = refl }

-- what an operator makes of two operands
pub binary_row_lem : {n : ℕ} (block : BasicBlockId) (l : LocalId) (op : BinOp) (left : Left) (place : Place) → l.0 < n → LeftBelow n left → place.local.0 < n →
    RowBelow n (binary_row block l op left place)
unfolding line_of binary_row binary_kind left_words constant_words place_words path_of left_of marked_live mark_of
binary_row_lem block l BinOp.Eq (Left.Local x) place h i k = record { below = (h, (i, k)); unmarked = refl }
binary_row_lem block l BinOp.Eq (Left.Constant c) place h i k = record { below = (h, (tt, k)); unmarked = refl }
binary_row_lem block l BinOp.Le (Left.Local x) place h i k = record { below = (h, (i, k)); unmarked = refl }
binary_row_lem block l BinOp.Le (Left.Constant c) place h i k = record { below = (h, (tt, k)); unmarked = refl }
binary_row_lem block l BinOp.Ge (Left.Local x) place h i k = record { below = (h, (i, k)); unmarked = refl }
binary_row_lem block l BinOp.Ge (Left.Constant c) place h i k = record { below = (h, (tt, k)); unmarked = refl }
binary_row_lem block l BinOp.Gt (Left.Local x) place h i k = record { below = (h, (i, k)); unmarked = refl }
binary_row_lem block l BinOp.Gt (Left.Constant c) place h i k = record { below = (h, (tt, k)); unmarked = refl }
