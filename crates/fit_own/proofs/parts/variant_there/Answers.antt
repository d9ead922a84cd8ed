use borrow.Author.Rules.{rules}
use borrow.Author.Tests.{not-true, not-false}
use Rattle.fit_own.proofs.Wording.{not_valued, is_valued}
use Rattle.fit_own.proofs.parts.variant_there.Goals as goal

pub returns-then-not-has_values : goal.returns-then-not-has_values
returns-then-not-has_values c = not_valued _ _ c.has_values.ensures (c.if-not-has_values.true)

pub returns : goal.returns
returns c = is_valued _ _ c.has_values.ensures (c.if-not-has_values.false) c.has_variant.ensures
