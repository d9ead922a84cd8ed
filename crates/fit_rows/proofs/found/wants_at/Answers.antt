use borrow.Author.Rules.{rules}
use Rattle.fit_rows.proofs.Ways.{at_other, at_same, at_rest, at_binding}
use Rattle.fit_rows.proofs.found.wants_at.Goals as goal

pub returns-then-x-b : goal.returns-then-x-b
returns-then-x-b c = rw c.in-At.is (at_other _ _ _ _ c.if-x-b.true)

pub returns-else-x-b : goal.returns-else-x-b
returns-else-x-b c = rw c.in-At.is (at_same _ _ _ _ c.if-x-b.false)

pub returns-in-Rest : goal.returns-in-Rest
returns-in-Rest c = rw c.in-Rest.is (at_rest _ _ _ _ _)

pub returns-in-Binding : goal.returns-in-Binding
returns-in-Binding c = rw c.in-Binding.is (at_binding _ _ _)
