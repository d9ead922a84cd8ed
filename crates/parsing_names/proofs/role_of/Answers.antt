use borrow.Enum.Refused.{opened}
use borrow.Author.Rules.{rules}
use Rattle.parsing_moves.specs.Roles.{role}
use Rattle.parsing_names.proofs.Defaults.{waits_for_no_name}
use Rattle.parsing_names.proofs.role_of.Goals as goal

pub returns-in-Begin : goal.returns-in-Begin
unfolding role
returns-in-Begin c = rw c.in-Begin.is

pub returns-in-Expect : goal.returns-in-Expect
unfolding role
returns-in-Expect c = rw c.in-Expect.is

pub returns-in-BehindAmp : goal.returns-in-BehindAmp
unfolding role
returns-in-BehindAmp c = rw c.in-BehindAmp.is

pub returns-in-BehindRef : goal.returns-in-BehindRef
unfolding role
returns-in-BehindRef c = rw c.in-BehindRef.is

pub returns-in-BehindMut : goal.returns-in-BehindMut
unfolding role
returns-in-BehindMut c = rw c.in-BehindMut.is

pub returns-in-AtSep : goal.returns-in-AtSep
unfolding role
returns-in-AtSep c = rw c.in-AtSep.is

pub returns-in-AtDots : goal.returns-in-AtDots
unfolding role
returns-in-AtDots c = rw c.in-AtDots.is

pub returns-in-AtFrom : goal.returns-in-AtFrom
unfolding role
returns-in-AtFrom c = rw c.in-AtFrom.is

pub returns-in-AtTo : goal.returns-in-AtTo
unfolding role
returns-in-AtTo c = rw c.in-AtTo.is

pub returns-in-AtBrace : goal.returns-in-AtBrace
unfolding role
returns-in-AtBrace c = rw c.in-AtBrace.is

pub returns-in_default : goal.returns-in_default
returns-in_default c = waits_for_no_name _ (opened c.in_default.in_default-own.keys11)
