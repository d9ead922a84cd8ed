-- What every move does on the tables, and how many rows it adds. Assumes nothing: these are definitions.
use Rattle.std.specs.Prelude.{ℕ, ◌≡◌, List, []}
use Rattle.parsing_bounds.specs.Weights.{gain}
use Rattle.parsing_moves.specs.declared.NodeMove.{NodeMove}
use Rattle.parsing_moves.specs.declared.NodeMove.TheVariants.{Halts, Holds, Opens, OpensTwo, OpensBehind, Mutates, Shuts, ShutsBefore, ShutsRange, ShutsRangeBefore, ShutsOpenRange, ShutsRest, PassesOn, ShutsTop, AddsField, AddsLastField}
use Rattle.parsing_moves.specs.Rows.{move_of}
use Rattle.parsing_steps.specs.declared.ParseStep.{ParseStep}
use Rattle.parsing_steps.specs.declared.ParseStep.TheVariants.{Going}
use Rattle.parsing_steps.specs.Moving.{PerformsMove}

-- how many rows more there are behind a move, which neither the text nor the bytes of names decide
unfoldable pub move_gain : NodeMove → ℕ → ℕ
move_gain move m = gain (move_of [] [] move) m

-- what is held then is the row that the move has
abbrev pub HoldsRow : NodeMove → ℕ → ℕ → ParseStep → Type 0
HoldsRow (Halts at) depth rows r = Unit
HoldsRow (Holds s h) depth rows r = r ≡ Going (record { state = s; held = h; depth = depth; rows = rows })
HoldsRow (Opens s f) depth rows r = Unit
HoldsRow (OpensTwo f g) depth rows r = Unit
HoldsRow (OpensBehind s w f) depth rows r = Unit
HoldsRow Mutates depth rows r = Unit
HoldsRow (Shuts w) depth rows r = Unit
HoldsRow (ShutsBefore w) depth rows r = Unit
HoldsRow (ShutsRange w) depth rows r = Unit
HoldsRow (ShutsRangeBefore w) depth rows r = Unit
HoldsRow ShutsOpenRange depth rows r = Unit
HoldsRow ShutsRest depth rows r = Unit
HoldsRow PassesOn depth rows r = Unit
HoldsRow ShutsTop depth rows r = Unit
HoldsRow (AddsField w f) depth rows r = Unit
HoldsRow (AddsLastField w f) depth rows r = Unit

-- both
pub record Performed (stack nodes : List ℕ) (depth rows : ℕ) (move : NodeMove) (m at : ℕ) (stack' nodes' : List ℕ) (r : ParseStep) : Type 0 where
  pub performs : PerformsMove stack nodes depth rows move m at stack' nodes' r
  pub holds : HoldsRow move depth rows r
