use borrow.Author.Rules.{rules}
use mathlib.Core.Path.{refl}
use borrow.Author.Tests.{eq-eqb, ne_eqb}
use Rattle.draft_nodes.proofs.bound_word.Goals as goal

pub returns-then-flag-eq1 : goal.returns-then-flag-eq1
returns-then-flag-eq1 c = rw (eq-eqb c.args.flag 1 c.if-flag-eq1.true) c.stack_word.ensures

pub returns : goal.returns
returns c = rw (ne_eqb c.args.flag 1 c.if-flag-eq1.false) refl
