use borrow.Author.Rules.{rules}
use native.Mathlib.Numerals.{add-one}
use Rattle.parsing_moves.proofs.makers.two_references.Goals as goal

pub returns : goal.returns
returns c = rw (c.literal_row.ensures, c.literal_row-2.ensures, add-one _)
