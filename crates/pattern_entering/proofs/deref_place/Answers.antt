use mathlib.Core.Path.{◌∙◌}
use borrow.Author.Tests.{not-true, not-false}
use Rattle.pattern_entering.proofs.Visiting.{deref_begin, deref_stops, deref_more, deref_end}
use Rattle.pattern_entering.proofs.deref_place.Goals as goal

pub loop-init : goal.loop-init
loop-init c = deref_begin c.args.place c.args.derefs

pub returns-then-not-onward : goal.returns-then-not-onward
returns-then-not-onward c = rw (not-true (c.project-onward.result.ok) c.if-not-onward.true) (deref_stops _ _ _ c.loop-test.true c.project-onward.ensures (not-true (c.project-onward.result.ok) c.if-not-onward.true) ∙ c.loop.invariant)

pub loop-preserved : goal.loop-preserved
loop-preserved c = deref_more _ _ _ c.loop-test.true c.project-onward.ensures (not-false (c.project-onward.result.ok) c.if-not-onward.false) ∙ c.loop.invariant

pub returns : goal.returns
returns c = deref_end _ _ _ c.loop-test.false ∙ c.loop.invariant
