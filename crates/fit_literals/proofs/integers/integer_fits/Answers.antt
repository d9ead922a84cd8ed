use borrow.Enum.Refused.{opened}
use borrow.Author.Rules.{rules}
use Rattle.image.specs.Integers.{in_range}
use Rattle.image.specs.Types.{shape_by}
use Rattle.meaning.specs.Values.{int_fits}
use Rattle.meaning.specs.Fit.{integer_fits}
use Rattle.fit_literals.proofs.Shapes.{integer_sized, not_integer}
use Rattle.fit_literals.proofs.integers.integer_fits.Goals as goal

pub in_range-requires : goal.in_range-requires
in_range-requires c = (integer_sized _ _ c.in-Integer.is c.requires.0, c.requires.1)

pub returns-in-Integer : goal.returns-in-Integer
unfolding integer_fits shape_by int_fits in_range
returns-in-Integer c = rw c.in-Integer.is c.in_range.ensures

pub returns-in_default : goal.returns-in_default
returns-in_default c = not_integer _ _ c.args.kind (opened c.in_default.in_default-own.keys2) _ _
