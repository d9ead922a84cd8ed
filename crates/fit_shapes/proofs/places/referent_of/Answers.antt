use native.Mathlib.Omega.{arith}
use Rattle.fit_shapes.proofs.Numbering.{referent_here, referent_other}
use Rattle.fit_shapes.proofs.places.referent_of.Goals as goal

pub type_at-row-requires : goal.type_at-row-requires
type_at-row-requires c = (c.requires.1, omega (arith, c.requires.1.type_count_lem, c.requires.2))

pub returns-then-row-ne7 : goal.returns-then-row-ne7
returns-then-row-ne7 c = referent_other _ _ c.type_at-row.ensures c.requires.0 c.requires.2 c.if-row-ne7.true

pub returns : goal.returns
returns c = referent_here _ _ c.type_at-row.ensures c.requires.0 c.requires.2 c.if-row-ne7.false
