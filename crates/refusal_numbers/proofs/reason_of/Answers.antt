use borrow.Enum.Refused.{opened}
use borrow.Author.Rules.{rules}
use Rattle.refusals.specs.Refusals.{reason_of}
use Rattle.refusal_numbers.proofs.Reasons.{no_reason}
use Rattle.refusal_numbers.proofs.reason_of.Goals as goal

pub returns-in-TypeError : goal.returns-in-TypeError
unfolding reason_of
returns-in-TypeError c = rw c.in-TypeError.is

pub returns-in_default : goal.returns-in_default
returns-in_default c = no_reason _ (opened c.in_default.in_default-own.keys2)
