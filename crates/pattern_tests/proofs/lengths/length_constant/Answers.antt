use mathlib.Core.Path.{refl}
use Rattle.pattern_matching.specs.Slices.{length_constant}
use Rattle.pattern_tests.proofs.lengths.length_constant.Goals as goal

pub returns : goal.returns
unfolding length_constant
returns c = refl
