use borrow.Author.Rules.{rules}
use mathlib.Core.Path.{sym, ◌∙◌}
use Rattle.pattern_leaves.proofs.Checking.{other_refused, other_done}
use Rattle.pattern_leaves.proofs.kinds.other_path.Goals as goal

pub returns-then-is_check : goal.returns-then-is_check
returns-then-is_check c = other_refused _ _ _ _ _ (sym c.is_check.ensures ∙ c.if-is_check.true)

pub returns : goal.returns
returns c = other_done _ _ _ _ _ (sym c.is_check.ensures ∙ c.if-is_check.false)
