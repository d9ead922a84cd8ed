use Rattle.fit_own.specs.declared.Reached.{Reached}
use Rattle.fit_own.proofs.Deciding.{decided}
use Rattle.fit_reached.proofs.nothing_refused.Goals as goal

pub returns-in-Refused : goal.returns-in-Refused
returns-in-Refused c = decided _ _ _ c.requires.image_value.0 c.requires.fits_somewhere c.reached.ensures Reached.Refused c.in-Refused.is

pub returns-in-Sure : goal.returns-in-Sure
returns-in-Sure c = decided _ _ _ c.requires.image_value.0 c.requires.fits_somewhere c.reached.ensures Reached.Sure c.in-Sure.is

pub returns-in-CanFail : goal.returns-in-CanFail
returns-in-CanFail c = decided _ _ _ c.requires.image_value.0 c.requires.fits_somewhere c.reached.ensures Reached.CanFail c.in-CanFail.is
