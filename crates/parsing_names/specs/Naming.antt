-- What a name does, and what is held behind it. Assumes nothing: these are definitions.
use Rattle.std.specs.Prelude.{ℕ, ◌≡◌, cond, eqb}
use Rattle.parsing_machine.specs.declared.ReadState.{ReadState}
use Rattle.parsing_moves.specs.declared.HeldRow.{HeldRow}
use Rattle.parsing_moves.specs.declared.NodeMove.{NodeMove}
use Rattle.parsing_moves.specs.declared.NodeMove.TheVariants.{Holds}
use Rattle.parsing_moves.specs.Roles.{role, DecidesName}

-- the move is the machine's, and a row that is held has the name's bytes, behind `::` with the path's before them
pub record NamesHeld (s : ReadState) (h : HeldRow) (top from start end : ℕ) (move : NodeMove) : Type 0 where
  pub decides : DecidesName s h top from start end move
  pub ends : (s' : ReadState) (h' : HeldRow) → move ≡ Holds s' h' → (h'.from ≡ cond (eqb (role s) 2) h.from start) × (h'.to ≡ end)
