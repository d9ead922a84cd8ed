use mathlib.Core.Path.{sym}
use native.Mathlib.Omega.{arith}
use Rattle.fit_literals.proofs.Shapes.{kind_of_lem}
use Rattle.fit_own.proofs.parts.kind_of.Goals as goal

pub type_at-requires : goal.type_at-requires
type_at-requires c = (c.requires.1, omega (arith, c.requires.1.type_count_lem, c.requires.2))

pub returns : goal.returns
returns c = sym (kind_of_lem _ _ c.type_at.ensures c.requires.0 c.requires.2)
