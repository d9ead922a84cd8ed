use mathlib.Core.Path.{refl, ◌∙◌}
use borrow.Author.Tests.{not-true, not-false}
use Rattle.fit_literals.proofs.Clauses.{absent_end, present_end, there, not_there, present_holds}
use Rattle.fit_literals.proofs.operands.ends_fit.Goals as goal

pub returns-then-end-eq65535 : goal.returns-then-end-eq65535
returns-then-end-eq65535 c = rw (not_there _ _ c.if-start-eq65535.true, not_there _ _ c.if-end-eq65535.true) refl

pub end_fits-requires : goal.end_fits-requires
end_fits-requires c = (c.requires.0, c.requires.1, c.requires.2, present_holds _ _ c.if-end-eq65535.false c.requires.4)

pub returns-then-start-eq65535 : goal.returns-then-start-eq65535
returns-then-start-eq65535 c = rw (not_there _ _ c.if-start-eq65535.true, there _ _ c.if-end-eq65535.false, ← absent_end _ _ _ c.if-start-eq65535.true) (c.end_fits.ensures ∙ present_end _ _ _ c.if-end-eq65535.false)

pub end_fits-requires-2 : goal.end_fits-requires-2
end_fits-requires-2 c = (c.requires.0, c.requires.1, c.requires.2, present_holds _ _ c.if-start-eq65535.false c.requires.3)

pub returns-then-not-end_fits : goal.returns-then-not-end_fits
returns-then-not-end_fits c = rw (there _ _ c.if-start-eq65535.false, ← present_end _ _ _ c.if-start-eq65535.false, ← c.end_fits-2.ensures, c.if-not-end_fits.true) refl

pub end_or_absent_fits-requires : goal.end_or_absent_fits-requires
end_or_absent_fits-requires c = (c.requires.0, c.requires.1, c.requires.2, c.requires.4)

pub returns : goal.returns
returns c = rw (there _ _ c.if-start-eq65535.false, ← present_end _ _ _ c.if-start-eq65535.false, ← c.end_fits-2.ensures, c.if-not-end_fits.false) c.end_or_absent_fits.ensures
