use borrow.Enum.Refused.{opened}
use borrow.Author.Rules.{rules}
use mathlib.Core.Path.{refl}
use Rattle.pattern_rows.specs.Rows.{sequence_by}
use Rattle.pattern_items.proofs.Defaults.{no_sequence}
use Rattle.pattern_items.proofs.sequence_of.Goals as goal

pub returns-in-Array : goal.returns-in-Array
unfolding sequence_by
returns-in-Array c = rw c.in-Array.is refl

pub returns-in-Slice : goal.returns-in-Slice
unfolding sequence_by
returns-in-Slice c = rw c.in-Slice.is refl

pub returns-in_default : goal.returns-in_default
returns-in_default c = no_sequence _ (opened c.in_default.in_default-own.keys3)
