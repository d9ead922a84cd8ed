use borrow.Author.Rules.{rules}
use mathlib.Core.Path.{sym}
use borrow.Author.Tests.{eq-eqb, ne_eqb}
use Rattle.parsing_behind.proofs.is_bare.Goals as goal

pub returns-then-kind-ne9 : goal.returns-then-kind-ne9
returns-then-kind-ne9 c = rw (sym c.kind_of-kind.ensures, ne_eqb _ 9 c.if-kind-ne9.true)

pub returns-then-row-ne65535 : goal.returns-then-row-ne65535
returns-then-row-ne65535 c = rw (sym c.kind_of-kind.ensures, eq-eqb _ 9 c.if-kind-ne9.false, ne_eqb _ 65535 c.if-row-ne65535.true)

pub returns : goal.returns
returns c = rw (sym c.kind_of-kind.ensures, eq-eqb _ 9 c.if-kind-ne9.false, eq-eqb _ 65535 c.if-row-ne65535.false)
