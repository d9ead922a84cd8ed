use borrow.Author.Rules.{rules}
use native.Mathlib.Omega.{arith}
use lib.ListN.{length-set}
use Rattle.spelled_names.proofs.Putting.{joint_spelled}
use Rattle.spelled_names.proofs.put_joint.Goals as goal

pub bounds-names-named-2 : goal.bounds-names-named-2
bounds-names-named-2 c = simp length-set (omega arith)

pub returns : goal.returns
returns c = joint_spelled _ _ (omega arith)
