use mathlib.Core.Path.{sym}
use Rattle.name_resolving.proofs.Names.{lower_first, lower_second}
use Rattle.name_resolving.proofs.lookup.lower_of.Goals as goal

pub returns-then-b-a : goal.returns-then-b-a
returns-then-b-a c = sym (lower_second _ _ c.if-b-a.true)

pub returns-else-b-a : goal.returns-else-b-a
returns-else-b-a c = sym (lower_first _ _ c.if-b-a.false)
