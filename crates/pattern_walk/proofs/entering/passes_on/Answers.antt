use borrow.Author.Rules.{rules}
use mathlib.Core.Path.{sym, ◌∙◌}
use borrow.Author.Tests.{not-true, not-false}
use Rattle.pattern_walk_laws.proofs.Descending.{passes_unchecked, passes_absent, passes_by_lem}
use Rattle.pattern_walk.proofs.entering.passes_on.Goals as goal

pub returns-then-not-is_check : goal.returns-then-not-is_check
returns-then-not-is_check c = passes_unchecked _ _ (sym c.is_check.ensures ∙ c.if-not-is_check.true)

pub returns-then-row-eq65535 : goal.returns-then-row-eq65535
returns-then-row-eq65535 c = passes_absent _ _ c.if-row-eq65535.true

pub returns : goal.returns
returns c = passes_by_lem _ _ (sym c.is_check.ensures ∙ c.if-not-is_check.false) c.if-row-eq65535.false c.from.ensures c.is_bind.ensures
