use native.Mathlib.Omega.{arith}
use mathlib.Core.Path.{sym, ◌∙◌}
use Rattle.name_tables.specs.Names.{row_for}
use Rattle.name_tables.specs.Tested.{found_in}
use Rattle.name_tables.proofs.Found.{try_first, hit, miss, no_more_lem}
use Rattle.name_lookup.proofs.row_for.Goals as goal

pub loop-i-init : goal.loop-i-init
loop-i-init c = try_first _ _

pub row_is_named-requires : goal.row_is_named-requires
row_is_named-requires c = (c.requires, omega (arith, c.loop-i-test.true, c.word_at-count.ensures))

pub returns-then-row_is_named : goal.returns-then-row_is_named
unfolding found_in row_for
returns-then-row_is_named c = hit _ _ c.loop-i.invariant (omega (arith, c.loop-i-test.true, c.word_at-count.ensures)) (sym c.row_is_named.ensures ∙ c.if-row_is_named.true)

pub loop-i-preserved : goal.loop-i-preserved
loop-i-preserved c = miss _ _ c.loop-i.invariant (omega (arith, c.loop-i-test.true, c.word_at-count.ensures)) (sym c.row_is_named.ensures ∙ c.if-row_is_named.false)

pub returns : goal.returns
unfolding found_in row_for
returns c = no_more_lem _ _ c.loop-i.invariant (omega (arith, c.loop-i-test.false, c.word_at-count.ensures))
