-- How a body grows: the steps of the lowering on it, and when one body goes on from another. Assumes nothing: these are definitions.
use Rattle.std.specs.Prelude.{ℕ, ◌≡◌, List, [], ◌∷◌, ◌++◌, length, get_or, set}
use Rattle.mir.specs.declared.blocks.Terminator.{Terminator}
use Rattle.views.specs.Views.{Statement, Line, Mir}

-- how many blocks a body has, and the terminator of a block
abbrev pub block_count : Mir → ℕ
block_count m = length m.terminators

abbrev pub terminator_at : Mir → ℕ → Terminator
terminator_at m b = get_or m.terminators b Terminator.Open

-- one block more, open
unfoldable pub add_block : Mir → Mir
add_block m = record { terminators = m.terminators ++ (Terminator.Open ∷ []); lines = m.lines; locals = m.locals }

-- the terminator of a block
unfoldable pub put_terminator : Mir → ℕ → Terminator → Mir
put_terminator m b t = record { terminators = set m.terminators b t; lines = m.lines; locals = m.locals }

-- a statement at the end of a block
unfoldable pub add_line : Mir → ℕ → Statement → Mir
add_line m b s = record { terminators = m.terminators; lines = m.lines ++ (record { block = b; statement = s } ∷ []); locals = m.locals }

-- one local more
unfoldable pub add_local : Mir → ℕ → Mir
add_local m word = record { terminators = m.terminators; lines = m.lines; locals = m.locals ++ (word ∷ []) }

-- a terminator that is set
abbrev pub Closed : Terminator → Type 0
Closed Terminator.Open = ⊥
Closed (Terminator.Goto b) = Unit
Closed (Terminator.Switch l low high then else) = Unit
Closed Terminator.Unreachable = Unit
Closed (Terminator.Drop l b) = Unit

-- no line of the list stands in block b
abbrev pub Quiet : ℕ → List Line → Type 0
Quiet b [] = Unit
Quiet b (x ∷ xs) = (x.block ≡ b → ⊥) × Quiet b xs

-- the body M goes on from m: its lines are m's and then more, and a block that is closed in m keeps its terminator and gets no line
pub record GoesOn (m M : Mir) : Type 0 where
  pub more : List Line
  pub grown : M.lines ≡ m.lines ++ more
  pub still : (b : ℕ) → Closed (terminator_at m b) → Quiet b more
  pub kept : (b : ℕ) → Closed (terminator_at m b) → terminator_at M b ≡ terminator_at m b
