use mathlib.Core.Path.{◌≡◌}
use lib.ListN.{length}
use Rattle.typing_state.specs.Parents.{stack_of}
use Rattle.node_typing.proofs.Passing.{Passing}
use Rattle.node_typing.proofs.type_rows.Given as goal

abbrev pub invariant-loop-i : goal.invariant-loop-i
invariant-loop-i l = Passing l.sheet l.names l.spelled l.nodes l.n (stack_of l.initial.waiting l.first) l.makings l.waiting l.refused l.depth l.i × (length l.makings ≡ 196608) × (length l.waiting ≡ 114695)
