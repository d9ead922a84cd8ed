use borrow.Author.Rules.{rules}
use mathlib.Core.Path.{sym, ◌∙◌}
use borrow.Author.Tests.{eq-eqb, ne_eqb}
use Rattle.parsing_steps.proofs.settling.passes.Goals as goal

pub returns-then-kind-eq7 : goal.returns-then-kind-eq7
returns-then-kind-eq7 c = rw (eq-eqb _ 7 (sym c.kind_of-kind.ensures ∙ c.if-kind-eq7.true))

pub returns : goal.returns
returns c = rw (sym c.kind_of-kind.ensures, ne_eqb _ 7 c.if-kind-eq7.false)
