use borrow.Author.Rules.{rules}
use mathlib.Core.Path.{sym, ◌∙◌}
use Rattle.part_resolving.specs.Parts.{field_row}
use Rattle.part_resolving.proofs.fields.field_row.Goals as goal

pub returns-then-has_name : goal.returns-then-has_name
unfolding field_row
returns-then-has_name c = rw (sym c.has_name.ensures ∙ c.if-has_name.true)

pub returns : goal.returns
unfolding field_row
returns c = rw (sym c.has_name.ensures ∙ c.if-has_name.false)
