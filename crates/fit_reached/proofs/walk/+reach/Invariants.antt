use Rattle.fit_own.specs.Answers.{with_test}
use Prim.Native.Nat.{◌+◌, ◌*◌, ◌-◌}
use mathlib.Core.Path.{◌≡◌}
use Rattle.fit_own.specs.Rows.{row_reached, alts_reached}
use Rattle.fit_reached.proofs.walk.+reach.Given as goal

abbrev pub decreases-alts : goal.decreases-alts
decreases-alts l = 3 * l.p.0 + 0

abbrev pub decreases-below : goal.decreases-below
decreases-below l = 3 * l.p.0 + 1

abbrev pub decreases-each : goal.decreases-each
decreases-each l = 3 * l.p.0 + 0

abbrev pub decreases-pairs : goal.decreases-pairs
decreases-pairs l = 3 * l.p.0 + 0

abbrev pub decreases-reached : goal.decreases-reached
decreases-reached l = 3 * l.p.0 + 2

abbrev pub decreases-sub : goal.decreases-sub
decreases-sub l = 3 * l.p.0 + 0

abbrev pub invariant-alts-loop-i : goal.invariant-alts-loop-i
invariant-alts-loop-i l = alts_reached l.image l.bindings l.at l.count ≡ alts_reached l.image l.bindings l.i (l.at + l.count - l.i)

abbrev pub invariant-each-loop-i : goal.invariant-each-loop-i
invariant-each-loop-i l = row_reached l.image l.bindings 1 l.at l.count ≡ with_test l.fails (row_reached l.image l.bindings 1 l.i (l.at + l.count - l.i))

abbrev pub invariant-pairs-loop-k : goal.invariant-pairs-loop-k
invariant-pairs-loop-k l = row_reached l.image l.bindings 2 (l.at + 1) l.count ≡ with_test l.fails (row_reached l.image l.bindings 2 (l.at + 2 * l.k + 1) (l.count - l.k))
