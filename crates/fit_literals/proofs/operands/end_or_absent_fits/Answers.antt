use mathlib.Core.Path.{◌∙◌}
use Rattle.fit_literals.proofs.Clauses.{absent_end, present_end, present_holds}
use Rattle.fit_literals.proofs.operands.end_or_absent_fits.Goals as goal

pub returns-then-o-eq65535 : goal.returns-then-o-eq65535
returns-then-o-eq65535 c = absent_end _ _ _ c.if-o-eq65535.true

pub end_fits-requires : goal.end_fits-requires
end_fits-requires c = (c.requires.0, c.requires.1, c.requires.2, present_holds _ _ c.if-o-eq65535.false c.requires.3)

pub returns : goal.returns
returns c = c.end_fits.ensures ∙ present_end _ _ _ c.if-o-eq65535.false
