use borrow.Author.Rules.{rules}
use native.Mathlib.Omega.{arith}
use borrow.Author.Tests.{eq-eqb, ne_eqb}
use Rattle.rest_rows.proofs.Lists.{rest_nowhere, rest_named, rest_plain}
use Rattle.rest_rows.proofs.rest_fits.Goals as goal

pub returns-then-depth-eq0 : goal.returns-then-depth-eq0
returns-then-depth-eq0 c = rest_nowhere _ _ c.if-depth-eq0.true

pub returns-then-kind_of-eq7 : goal.returns-then-kind_of-eq7
returns-then-kind_of-eq7 c = rest_named _ _ _ _ _ _ (omega arith) c.node_at-f.ensures c.kind_of.ensures (eq-eqb _ 7 c.if-kind_of-eq7.true) c.slice_fits.ensures

pub returns : goal.returns
returns c = rest_plain _ _ _ _ _ _ (omega arith) c.node_at-f.ensures c.kind_of.ensures (ne_eqb _ 7 c.if-kind_of-eq7.false) c.takes_rest.ensures
