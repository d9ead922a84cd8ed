use borrow.Enum.Refused.{opened}
use borrow.Author.Rules.{rules}
use mathlib.Core.Path.{refl}
use Rattle.pattern_idle.specs.Idle.{idle_in_check}
use Rattle.pattern_idle.proofs.Defaults.{tests}
use Rattle.pattern_idle.proofs.idle_in_check.Goals as goal

pub returns-in-Wild : goal.returns-in-Wild
unfolding idle_in_check
returns-in-Wild c = rw c.in-Wild.is refl

pub returns-in-Bind : goal.returns-in-Bind
unfolding idle_in_check
returns-in-Bind c = rw c.in-Bind.is refl

pub returns-in_default : goal.returns-in_default
returns-in_default c = tests _ _ (opened c.in_default.in_default-own.keys3)
