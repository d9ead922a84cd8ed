use borrow.Author.Rules.{rules}
use native.Mathlib.Omega.{arith}
use mathlib.Core.Path.{sym, ◌∙◌}
use borrow.Author.Tests.{not-true, not-false}
use Rattle.type_sheets.proofs.Known.{sheet_read}
use Rattle.reading_nodes.proofs.Testing.{sheet_broken, type_missing, names_broken, tables_read, nodes_read}
use Rattle.reading_nodes.proofs.read_nodes.Goals as goal

pub returns-in_default : goal.returns-in_default
returns-in_default c = sheet_broken _ _ _ _ _ (sym c.in_default.is ∙ c.read_sheet.ensures)

pub returns-then-tables-expected : goal.returns-then-tables-expected
returns-then-tables-expected c = type_missing _ _ _ _ _ (sym c.in-Some.is ∙ c.read_sheet.ensures) c.if-tables-expected.true

pub names_hold-requires : goal.names_hold-requires
names_hold-requires c = (sheet_read _ _ (sym c.in-Some.is ∙ c.read_sheet.ensures)).1

pub returns-then-not-names_hold : goal.returns-then-not-names_hold
returns-then-not-names_hold c = names_broken _ _ _ _ _ (sheet_read _ _ (sym c.in-Some.is ∙ c.read_sheet.ensures)).0 (sym c.names_hold.ensures ∙ c.if-not-names_hold.true)

pub read_typed-requires : goal.read_typed-requires
read_typed-requires c = (tables_read (sym c.in-Some.is ∙ c.read_sheet.ensures) c.if-tables-expected.false (sym c.names_hold.ensures ∙ c.if-not-names_hold.false), c.requires)

pub returns : goal.returns
returns c = nodes_read _ _ _ _ _ _ _ (tables_read (sym c.in-Some.is ∙ c.read_sheet.ensures) c.if-tables-expected.false (sym c.names_hold.ensures ∙ c.if-not-names_hold.false)) c.read_typed.ensures
