use borrow.Author.Rules.{rules}
use mathlib.Core.Path.{sym, ◌∙◌}
use borrow.Author.Tests.{not-true, not-false}
use Rattle.pattern_typing.specs.Crossing.{variant_fields_of}
use Rattle.type_crossing.proofs.variant_fields.Goals as goal

pub returns-then-not-has_variant : goal.returns-then-not-has_variant
unfolding variant_fields_of
returns-then-not-has_variant c = rw (sym c.has_variant.ensures ∙ c.if-not-has_variant.true)

pub returns : goal.returns
unfolding variant_fields_of
returns c = rw (sym c.has_variant.ensures ∙ c.if-not-has_variant.false, ← c.variant_in-row.ensures)
