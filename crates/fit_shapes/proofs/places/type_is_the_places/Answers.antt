use Rattle.fit_shapes.proofs.Numbering.{is_none_lem, is_some}
use Rattle.fit_shapes.proofs.places.type_is_the_places.Goals as goal

pub returns-in-None : goal.returns-in-None
returns-in-None c = is_none_lem _ c.in-None.is c.type_behind.ensures

pub returns-in-Some : goal.returns-in-Some
returns-in-Some c = is_some _ _ c.in-Some.is c.type_behind.ensures
