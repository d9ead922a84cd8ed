use Rattle.std.specs.Prelude.{Some}
use borrow.Author.Rules.{rules}
use native.Mathlib.Omega.{arith}
use mathlib.Core.Path.{ap, sym, ◌∙◌}
use borrow.Author.Tests.{not-true, not-false}
use Rattle.image.specs.Tables.{tables_of}
use Rattle.read_image.proofs.Frames.{cut, loose, over_a_limit, whole_frame}
use Rattle.read_image.proofs.frame.read_tables.Goals as goal

pub returns-then-image-end : goal.returns-then-image-end
unfolding tables_of
returns-then-image-end c = cut _ (rw c.tables_of-tables.ensures at c.if-image-end.true)

pub returns-then-image-end-2 : goal.returns-then-image-end-2
unfolding tables_of
returns-then-image-end-2 c = loose _ (rw c.tables_of-tables.ensures at c.if-image-end.false) (rw c.tables_of-tables.ensures at c.if-image-end-2.true)

pub returns-then-not-within_limits : goal.returns-then-not-within_limits
unfolding tables_of
returns-then-not-within_limits c =
    let limits = rw c.tables_of-tables.ensures at c.within_limits.ensures in
    over_a_limit _ (sym limits ∙ c.if-not-within_limits.true)

pub returns : goal.returns
unfolding tables_of
returns c =
    let limits = rw c.tables_of-tables.ensures at c.within_limits.ensures in
    ap Some c.tables_of-tables.ensures ∙ whole_frame _ c.requires (rw c.tables_of-tables.ensures at c.if-image-end.false) (rw c.tables_of-tables.ensures at c.if-image-end-2.false) (sym limits ∙ c.if-not-within_limits.false)
