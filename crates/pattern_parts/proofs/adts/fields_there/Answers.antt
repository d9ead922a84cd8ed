use mathlib.Core.Path.{sym, ◌∙◌}
use native.Mathlib.Omega.{arith}
use Rattle.pattern_parts.proofs.Typing.{fields_start, fields_missing, fields_more, fields_end}
use Rattle.pattern_parts.proofs.adts.fields_there.Goals as goal

pub loop-i-init : goal.loop-i-init
loop-i-init c = (fields_start _ _ _ _, omega arith)

pub list_at-requires : goal.list_at-requires
list_at-requires c = (c.requires.1, omega (arith, c.requires.2, c.loop-i-test.true))

pub returns-then-fields-list_at : goal.returns-then-fields-list_at
returns-then-fields-list_at c = sym (c.loop-i.invariant.0 ∙ fields_missing _ _ _ _ _ c.loop-i-test.true (omega (arith, c.list_at.ensures, c.if-fields-list_at.true)))

pub loop-i-preserved : goal.loop-i-preserved
loop-i-preserved c = (c.loop-i.invariant.0 ∙ fields_more _ _ _ _ _ c.loop-i-test.true (omega (arith, c.list_at.ensures, c.if-fields-list_at.false)), omega (arith, c.loop-i-test.true))

pub returns : goal.returns
returns c = sym (c.loop-i.invariant.0 ∙ fields_end _ _ _ _ _ c.loop-i-test.false)
