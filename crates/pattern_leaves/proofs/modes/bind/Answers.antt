use borrow.Author.Rules.{rules}
use mathlib.Core.Path.{sym, ◌∙◌}
use Rattle.pattern_leaves.proofs.Checking.{bind_skips, bind_fills}
use Rattle.pattern_leaves.proofs.modes.bind.Goals as goal

pub returns-then-is_check : goal.returns-then-is_check
returns-then-is_check c = bind_skips _ _ _ _ _ _ _ _ _ _ (sym c.is_check.ensures ∙ c.if-is_check.true) c.requires.2

pub returns : goal.returns
returns c = bind_fills _ _ _ _ _ _ _ _ _ _ (sym c.is_check.ensures ∙ c.if-is_check.false) c.pattern_match_binding.ensures
