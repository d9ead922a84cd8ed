use borrow.Author.Rules.{rules}
use mathlib.Core.Path.{refl}
use native.Mathlib.Omega.{arith}
use borrow.Author.Tests.{eq-eqb, ne_eqb}
use Rattle.parsing_steps.proofs.Lasting.{fewer}
use Rattle.parsing_rests.proofs.Items.{reads_none, reads_bar, reads_unfit, reads_rest}
use Rattle.parsing_rests.proofs.resting.rest_read.Goals as goal

pub returns-then-depth-eq0 : goal.returns-then-depth-eq0
returns-then-depth-eq0 c = reads_none _ _ _ _ _ _ c.if-depth-eq0.true

pub returns-then-m-eq2 : goal.returns-then-m-eq2
returns-then-m-eq2 c = reads_bar _ _ _ _ _ _ _ _ _ (omega arith) c.node_at-f.ensures refl (eq-eqb _ 2 c.if-m-eq2.true)

pub rest_in-requires : goal.rest_in-requires
rest_in-requires c = (omega (arith, c.requires.0), fewer c.requires.1 (omega arith))

pub returns-then-rest_fits : goal.returns-then-rest_fits
returns-then-rest_fits c = reads_rest _ _ _ _ (omega arith) c.node_at-f.ensures refl (ne_eqb _ 2 c.if-m-eq2.false) c.rest_fits.ensures c.if-rest_fits.true c.rest_in.ensures

pub returns : goal.returns
returns c = reads_unfit _ _ _ _ _ _ _ _ _ _ (omega arith) c.node_at-f.ensures refl c.rest_fits.ensures c.if-rest_fits.false
