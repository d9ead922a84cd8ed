use mathlib.Core.Path.{sym}
use borrow.Author.Tests.{eq-eqb, ne_eqb}
use Rattle.parsing_machine.specs.Waiting.{closes}
use Rattle.parsing_moves.proofs.Deciding.{closes_not}
use Rattle.parsing_steps.proofs.LastItems.{closes_ten}
use Rattle.parsing_steps.proofs.ending.closes_list.Goals as goal

pub returns-then-kind-eq11 : goal.returns-then-kind-eq11
unfolding closes
returns-then-kind-eq11 c = rw (eq-eqb _ 11 c.if-kind-eq11.true)

pub returns-then-m-ne3 : goal.returns-then-m-ne3
returns-then-m-ne3 c = sym (closes_not _ _ (ne_eqb _ 11 c.if-kind-eq11.false) (ne_eqb _ 3 c.if-m-ne3.true))

pub returns-then-kind-eq9 : goal.returns-then-kind-eq9
unfolding closes
returns-then-kind-eq9 c = simp (ne_eqb _ 11 c.if-kind-eq11.false, eq-eqb _ 3 c.if-m-ne3.false, eq-eqb _ 9 c.if-kind-eq9.true)

pub returns : goal.returns
returns c = closes_ten _ _ (ne_eqb _ 11 c.if-kind-eq11.false) (eq-eqb _ 3 c.if-m-ne3.false) (ne_eqb _ 9 c.if-kind-eq9.false)
