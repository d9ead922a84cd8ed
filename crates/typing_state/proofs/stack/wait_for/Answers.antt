use borrow.Author.Rules.{rules}
use Rattle.typing_state.proofs.Stacks.{none_wait, one_waits}
use Rattle.typing_state.proofs.stack.wait_for.Goals as goal

pub returns-then-many-eq0 : goal.returns-then-many-eq0
returns-then-many-eq0 c = none_wait _ _ c.args.reads c.args.many c.if-many-eq0.true

pub returns : goal.returns
returns c = one_waits c.args.waiting.now c.args.depth c.args.reads c.args.many c.requires.0 c.requires.1 c.if-many-eq0.false c.store_waiting.ensures
