use mathlib.Core.Path.{refl}
use Rattle.literals.specs.Literals.{string_constant}
use Rattle.literals.proofs.string_constant.Goals as goal

pub returns : goal.returns
unfolding string_constant
returns c = refl
