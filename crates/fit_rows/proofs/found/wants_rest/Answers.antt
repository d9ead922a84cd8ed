use borrow.Author.Rules.{rules}
use Rattle.fit_rows.proofs.Ways.{rest_other, rest_other_type, rest_same, rest_at, rest_binding_lem}
use Rattle.fit_rows.proofs.found.wants_rest.Goals as goal

pub returns-then-x-b : goal.returns-then-x-b
returns-then-x-b c = rw c.in-Rest.is (rest_other _ _ _ _ _ _ c.if-x-b.true)

pub returns-then-y-t : goal.returns-then-y-t
returns-then-y-t c = rw c.in-Rest.is (rest_other_type _ _ _ _ _ _ c.if-y-t.true)

pub returns-in-At : goal.returns-in-At
returns-in-At c = rw c.in-At.is (rest_at _ _ _ _ _)

pub returns-else-y-t : goal.returns-else-y-t
returns-else-y-t c = rw c.in-Rest.is (rest_same _ _ _ _ _ _ c.if-x-b.false c.if-y-t.false)

pub returns-in-Binding : goal.returns-in-Binding
returns-in-Binding c = rw c.in-Binding.is (rest_binding_lem _ _ _ _)
