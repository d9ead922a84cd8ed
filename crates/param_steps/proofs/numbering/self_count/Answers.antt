use borrow.Author.Rules.{rules}
use Rattle.params_spec.specs.Params.{self_count}
use Rattle.param_steps.proofs.numbering.self_count.Goals as goal

pub returns-in-None : goal.returns-in-None
unfolding self_count
returns-in-None c = rw c.in-None.is

pub returns-in-Some : goal.returns-in-Some
unfolding self_count
returns-in-Some c = rw c.in-Some.is
