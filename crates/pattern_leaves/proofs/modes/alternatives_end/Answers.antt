use Rattle.refusals.proofs.Passing.{passed_none}
use borrow.Author.Rules.{rules}
use mathlib.Core.Path.{sym, ◌∙◌}
use borrow.Author.Tests.{not-true, not-false}
use Rattle.pattern_leaves.proofs.Ending.{end_nowhere, end_full, end_elsewhere}
use Rattle.pattern_leaves.proofs.modes.alternatives_end.Goals as goal

pub returns-then-not-is_check : goal.returns-then-not-is_check
returns-then-not-is_check c = end_nowhere _ _ _ _ _ _ _ (sym c.is_check.ensures ∙ c.if-not-is_check.true) c.set_terminator.ensures c.requires.1 c.requires.2

pub returns-in_err-c1 : goal.returns-in_err-c1
returns-in_err-c1 c = rw (passed_none _ _ _ _ c.from_residual.ensures.1 c.in_err-c1.ensures.ok_part c.in_err-c1.ensures.value) (end_full _ _ _ _ _ _ _ (sym c.is_check.ensures ∙ c.if-not-is_check.false) (sym c.in_err-c1.ensures.ok_part ∙ c.else_block.ensures))

pub returns : goal.returns
returns c = end_elsewhere _ _ _ _ _ _ _ (sym c.is_check.ensures ∙ c.if-not-is_check.false) (sym c.in_ok-c1.ensures.ok_part ∙ c.else_block.ensures) c.set_goto.ensures c.requires.1 c.requires.2
