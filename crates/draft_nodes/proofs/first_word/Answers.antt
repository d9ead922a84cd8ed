use borrow.Author.Rules.{rules}
use mathlib.Core.Path.{refl}
use borrow.Author.Tests.{eq-eqb, ne_eqb}
use Rattle.draft_nodes.proofs.first_word.Goals as goal

pub returns-then-parts-eq0 : goal.returns-then-parts-eq0
returns-then-parts-eq0 c = rw (eq-eqb c.args.parts 0 c.if-parts-eq0.true) refl

pub returns : goal.returns
returns c = rw (ne_eqb c.args.parts 0 c.if-parts-eq0.false) c.stack_word.ensures
