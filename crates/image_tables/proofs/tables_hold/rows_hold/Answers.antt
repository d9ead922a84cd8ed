use borrow.Author.Rules.{rules}
use mathlib.Core.Path.{sym, ◌∙◌}
use borrow.Author.Tests.{not-true, not-false}
use Rattle.image_tables.proofs.Walking.{types_fail, rows_left}
use Rattle.image_tables.proofs.tables_hold.rows_hold.Goals as goal

pub returns-then-not-types_and_variants_hold : goal.returns-then-not-types_and_variants_hold
returns-then-not-types_and_variants_hold c = types_fail _ (sym c.types_and_variants_hold.ensures ∙ c.if-not-types_and_variants_hold.true)

pub returns : goal.returns
returns c = rw (rows_left c.args.image.now (sym c.types_and_variants_hold.ensures ∙ c.if-not-types_and_variants_hold.false)) c.bindings_hold.ensures
