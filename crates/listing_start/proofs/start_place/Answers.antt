use mathlib.Core.Path.{refl}
use Rattle.pattern_matching.specs.Walking.{local_place}
use Rattle.listing_start.proofs.start_place.Goals as goal

pub returns : goal.returns
unfolding local_place
returns c = refl
