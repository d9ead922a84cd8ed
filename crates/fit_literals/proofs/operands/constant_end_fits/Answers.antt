use mathlib.Core.Path.{refl}
use native.Mathlib.Omega.{arith}
use borrow.Author.Tests.{not-true, not-false, eq-eqb, ne_eqb}
use Rattle.meaning.specs.Fit.{end_fits}
use Rattle.fit_literals.proofs.Shapes.{kind_of_lem}
use Rattle.fit_literals.proofs.operands.constant_end_fits.Goals as goal

pub constant_fits-requires : goal.constant_fits-requires
constant_fits-requires c = (c.requires.1, c.requires.2, c.requires.3)

pub returns-then-not-constant_fits : goal.returns-then-not-constant_fits
unfolding end_fits
returns-then-not-constant_fits c = rw (← c.constant_fits.ensures, c.if-not-constant_fits.true) refl

pub type_at-row-requires : goal.type_at-row-requires
type_at-row-requires c = (c.requires.1, omega (arith, c.requires.1.type_count_lem, c.requires.2))

pub returns-then-row-eq1 : goal.returns-then-row-eq1
unfolding end_fits
returns-then-row-eq1 c = rw (← c.constant_fits.ensures, c.if-not-constant_fits.false, kind_of_lem _ _ c.type_at-row.ensures c.requires.0 c.requires.2, eq-eqb _ 1 c.if-row-eq1.true) refl

pub returns : goal.returns
unfolding end_fits
returns c = rw (← c.constant_fits.ensures, c.if-not-constant_fits.false, kind_of_lem _ _ c.type_at-row.ensures c.requires.0 c.requires.2, ne_eqb _ 1 c.if-row-eq1.false) refl
