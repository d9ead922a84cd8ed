use mathlib.Core.Path.{ap, ◌∙◌}
use native.Mathlib.Omega.{arith}
use Rattle.fit_shapes.specs.Numbers.{type_number}
use Rattle.fit_shapes.proofs.Numbering.{number_named, some_inside, behind_here, behind_none, behind_more}
use Rattle.fit_shapes.proofs.places.+type_behind.Goals as goal

pub returns-then-derefs-eq0 : goal.returns-then-derefs-eq0
returns-then-derefs-eq0 t c = behind_here _ _ _ c.if-derefs-eq0.true

pub referent_of-requires : goal.referent_of-requires
referent_of-requires t c = (c.requires.0, c.requires.1, some_inside _ c.in_ok-t.was c.requires.2)

pub type_behind-requires : goal.type_behind-requires
type_behind-requires t c = (omega (arith, c.decreases, c.if-derefs-eq0.false), (c.requires.0, c.requires.1, number_named c.referent_of.ensures))

pub returns-in_err-t : goal.returns-in_err-t
returns-in_err-t t c = ap type_number c.from_residual.ensures ∙ behind_none _ _ c.if-derefs-eq0.false (ap type_number c.in_err-t.was)

pub returns : goal.returns
returns t c = c.type_behind.ensures ∙ behind_more _ _ _ c.if-derefs-eq0.false (ap type_number c.in_ok-t.was) c.referent_of.ensures.is
