use borrow.Enum.Refused.{opened}
use borrow.Author.Rules.{rules}
use Rattle.body_row_rules.specs.Bodies.{elem_holds}
use Rattle.body_row_rules.proofs.Defaults.{no_downcast}
use Rattle.body_row_rules.proofs.rows.elem_holds.Goals as goal

pub returns-in-Downcast : goal.returns-in-Downcast
unfolding elem_holds
returns-in-Downcast c = rw c.in-Downcast.is

pub returns-in-Unknown : goal.returns-in-Unknown
unfolding elem_holds
returns-in-Unknown c = rw c.in-Unknown.is

pub returns-in_default : goal.returns-in_default
returns-in_default c = no_downcast _ _ (opened c.in_default.in_default-own.keys3)
