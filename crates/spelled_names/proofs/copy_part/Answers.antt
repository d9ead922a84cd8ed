use native.Mathlib.Omega.{arith}
use Rattle.pattern_syntax.specs.Reduced.{bytes_from}
use Rattle.spelled_names.proofs.Putting.{part_spelled}
use Rattle.spelled_names.proofs.copy_part.Goals as goal

pub returns : goal.returns
unfolding bytes_from
returns c = part_spelled _ _ _ (omega arith) (omega arith) _ _ _ (omega arith) c.copy_from_slice.ensures.after
