use Prim.Native.Nat.{◌+◌, ◌*◌, ◌-◌}
use Rattle.image.specs.Rules.{listed}
use Rattle.marks.proofs.Takes.{Continues}
use Rattle.marks.proofs.take_listed.Given as goal

abbrev pub invariant-loop-k : goal.invariant-loop-k
invariant-loop-k l = Continues l.bound l.initial.marks (listed l.image l.step l.from l.count) l.marks (listed l.image l.step (l.from + l.step * l.k) (l.count - l.k))
