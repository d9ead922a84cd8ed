use Rattle.std.specs.Prelude.{Some}
use borrow.Author.Rules.{rules}
use mathlib.Core.Path.{ap, sym, ◌∙◌}
use borrow.Author.Tests.{not-true, not-false}
use Rattle.image.specs.Tables.{tables_of}
use Rattle.type_sheets.proofs.Frames.{cut, loose, over_a_limit, whole_frame}
use Rattle.type_sheets.proofs.frame.read_sheet_tables.Goals as goal

pub returns-then-sheet-end : goal.returns-then-sheet-end
unfolding tables_of
returns-then-sheet-end c = cut _ (rw c.tables_of-tables.ensures at c.if-sheet-end.true)

pub returns-then-sheet-end-2 : goal.returns-then-sheet-end-2
unfolding tables_of
returns-then-sheet-end-2 c = loose _ (rw c.tables_of-tables.ensures at c.if-sheet-end.false) (rw c.tables_of-tables.ensures at c.if-sheet-end-2.true)

pub returns-then-not-within_sheet_limits : goal.returns-then-not-within_sheet_limits
unfolding tables_of
returns-then-not-within_sheet_limits c =
    let limits = rw c.tables_of-tables.ensures at c.within_sheet_limits.ensures in
    over_a_limit _ (sym limits ∙ c.if-not-within_sheet_limits.true)

pub returns : goal.returns
unfolding tables_of
returns c =
    let limits = rw c.tables_of-tables.ensures at c.within_sheet_limits.ensures in
    ap Some c.tables_of-tables.ensures ∙ whole_frame _ c.requires (rw c.tables_of-tables.ensures at c.if-sheet-end.false) (rw c.tables_of-tables.ensures at c.if-sheet-end-2.false) (sym limits ∙ c.if-not-within_sheet_limits.false)
