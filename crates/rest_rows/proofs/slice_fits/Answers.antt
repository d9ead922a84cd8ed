use borrow.Author.Rules.{rules}
use mathlib.Core.Path.{refl}
use native.Mathlib.Omega.{arith}
use borrow.Author.Tests.{eq-eqb, ne_eqb}
use Rattle.rest_rows.proofs.Lists.{slice_none, slice_other, slice_some}
use Rattle.rest_rows.proofs.slice_fits.Goals as goal

pub returns-then-depth-eq0 : goal.returns-then-depth-eq0
returns-then-depth-eq0 c = slice_none _ _ c.if-depth-eq0.true

pub returns-then-kind_of-ne11 : goal.returns-then-kind_of-ne11
returns-then-kind_of-ne11 c = slice_other _ _ _ _ _ (omega arith) c.node_at-f.ensures c.kind_of.ensures (ne_eqb _ 11 c.if-kind_of-ne11.true)

pub returns : goal.returns
returns c = slice_some _ _ _ _ _ _ (omega arith) c.node_at-f.ensures c.kind_of.ensures (eq-eqb _ 11 c.if-kind_of-ne11.false) refl
