use borrow.Author.Rules.{rules}
use mathlib.Core.Path.{sym, ◌∙◌}
use borrow.Author.Tests.{not-true, not-false}
use Rattle.pattern_leaves.proofs.Sequencing.{enum_skips, enum_tests}
use Rattle.pattern_leaves.proofs.modes.enum_test.Goals as goal

pub returns-then-not-is_check : goal.returns-then-not-is_check
returns-then-not-is_check c = enum_skips _ _ _ _ _ _ _ _ _ (sym c.is_check.ensures ∙ c.if-not-is_check.true) c.requires.ready.1

pub returns : goal.returns
returns c = enum_tests _ _ _ _ _ _ _ _ _ (sym c.is_check.ensures ∙ c.if-not-is_check.false) c.discriminant_test.ensures
