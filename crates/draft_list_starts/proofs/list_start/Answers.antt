use mathlib.Core.Path.{refl}
use borrow.Author.Tests.{eq-eqb, ne_eqb}
use Rattle.draft_list_starts.proofs.list_start.Goals as goal

pub returns-then-many-eq0 : goal.returns-then-many-eq0
returns-then-many-eq0 c = rw (eq-eqb c.args.many 0 c.if-many-eq0.true) refl

pub returns : goal.returns
returns c = rw (ne_eqb c.args.many 0 c.if-many-eq0.false) refl
