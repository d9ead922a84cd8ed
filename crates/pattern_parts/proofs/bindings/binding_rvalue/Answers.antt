use borrow.Enum.Refused.{opened}
use borrow.Author.Rules.{rules}
use Rattle.pattern_matching.specs.Tests.{binding_rvalue}
use Rattle.pattern_parts.proofs.Defaults.{by_value_lem}
use Rattle.pattern_parts.proofs.bindings.binding_rvalue.Goals as goal

pub returns-in-Ref : goal.returns-in-Ref
unfolding binding_rvalue
returns-in-Ref c = rw c.in-Ref.is

pub returns-in-RefMut : goal.returns-in-RefMut
unfolding binding_rvalue
returns-in-RefMut c = rw c.in-RefMut.is

pub returns-in_default : goal.returns-in_default
returns-in_default c = by_value_lem _ c.in_default.in_default-own.keys3
