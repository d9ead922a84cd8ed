use borrow.Author.Rules.{rules}
use borrow.Author.Tests.{not-true, not-false}
use Rattle.param_plain.proofs.Binding.{not_plain, plain_compared}
use Rattle.param_plain.proofs.binds_receiver.Goals as goal

pub returns-then-not-is_plain : goal.returns-then-not-is_plain
returns-then-not-is_plain c = not_plain _ _ _ _ c.pat_at-row.ensures c.is_plain.ensures (c.if-not-is_plain.true)

pub returns : goal.returns
returns c = plain_compared _ _ _ _ c.pat_at-row.ensures c.is_plain.ensures (c.if-not-is_plain.false)
