use borrow.Author.Rules.{rules}
use Rattle.type_sheets.proofs.Frames.{short, miscounted, other_version}
use Rattle.read_image.proofs.Frames.{begun}
use Rattle.type_sheets.proofs.frame.read_sheet_frame.Goals as goal

pub returns-then-sheet-lt17 : goal.returns-then-sheet-lt17
returns-then-sheet-lt17 c = short _ c.if-sheet-lt17.true

pub returns-then-sheet-high : goal.returns-then-sheet-high
returns-then-sheet-high c = miscounted _ (rw (c.word_at-high.ensures, c.word_at-low.ensures) at c.if-sheet-high.true)

pub returns-then-sheet-ne1 : goal.returns-then-sheet-ne1
returns-then-sheet-ne1 c = other_version _ c.if-sheet-ne1.true

pub read_sheet_tables-requires : goal.read_sheet_tables-requires
read_sheet_tables-requires c = begun _ c.if-sheet-lt17.false (rw (c.word_at-high.ensures, c.word_at-low.ensures) at c.if-sheet-high.false) c.if-sheet-ne1.false
