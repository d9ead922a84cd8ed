use borrow.Author.Rules.{rules}
use native.Mathlib.Omega.{arith}
use Rattle.reading_input.proofs.Bounds.{end_in, past_in, parted}
use Rattle.reading_input.proofs.parts_of.Goals as goal

pub part_end-names-requires : goal.part_end-names-requires
part_end-names-requires c = (end_in _ _ c.part_end-sheet.ensures (omega arith)).1

pub word_or_0-expected-requires : goal.word_or_0-expected-requires
word_or_0-expected-requires c = (end_in _ _ c.part_end-names.ensures (end_in _ _ c.part_end-sheet.ensures (omega arith)).1).1

pub behind-from-requires : goal.behind-from-requires
behind-from-requires c = (end_in _ _ c.part_end-names.ensures (end_in _ _ c.part_end-sheet.ensures (omega arith)).1).1

pub part_end-end-requires : goal.part_end-end-requires
part_end-end-requires c = (past_in _ _ _ c.behind-from.ensures (end_in _ _ c.part_end-names.ensures (end_in _ _ c.part_end-sheet.ensures (omega arith)).1).1).1

pub behind-text-requires : goal.behind-text-requires
behind-text-requires c = (end_in _ _ c.part_end-end.ensures (past_in _ _ _ c.behind-from.ensures (end_in _ _ c.part_end-names.ensures (end_in _ _ c.part_end-sheet.ensures (omega arith)).1).1).1).0

pub returns : goal.returns
returns c = parted _ c.part_end-sheet.ensures c.part_end-names.ensures c.word_or_0-expected.ensures c.behind-from.ensures c.part_end-end.ensures c.behind-text.ensures
