use borrow.Author.Rules.{rules}
use Rattle.params_spec.specs.Calls.{receiver_apart}
use Rattle.param_lists.proofs.receiver_apart.Goals as goal

pub returns-in-None : goal.returns-in-None
unfolding receiver_apart
returns-in-None c = rw c.in-None.is

pub returns-in-Some : goal.returns-in-Some
unfolding receiver_apart
returns-in-Some c = rw c.in-Some.is c.none_binds_receiver.ensures
