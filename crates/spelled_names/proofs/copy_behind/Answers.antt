use borrow.Author.Rules.{rules}
use native.Mathlib.Omega.{arith}
use Rattle.spelled_names.proofs.Putting.{joint_end, spelled_both}
use Rattle.spelled_names.proofs.copy_behind.Goals as goal

pub copy_part-requires : goal.copy_part-requires
copy_part-requires c =
    let e = joint_end c.put_joint-start.ensures in
    ((omega arith, omega arith), omega (arith, e))

pub returns : goal.returns
returns c = spelled_both _ _ _ _ _ _ _ _ c.put_joint-start.ensures c.copy_part.ensures
