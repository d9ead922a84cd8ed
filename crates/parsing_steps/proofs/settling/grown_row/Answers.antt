use borrow.Author.Rules.{rules}
use native.Mathlib.Numerals.{add-one}
use Rattle.parsing_steps.proofs.settling.grown_row.Goals as goal

pub returns : goal.returns
returns c = rw (add-one _)
