use Prim.Native.Nat.{◌+◌, ◌-◌}
use Rattle.image.specs.Lists.{up_from}
use Rattle.marks.proofs.Takes.{Continues}
use Rattle.marks.proofs.take_range.Given as goal

abbrev pub invariant-loop-x : goal.invariant-loop-x
invariant-loop-x l = Continues l.bound l.initial.marks (up_from l.from l.count) l.marks (up_from l.x (l.from + l.count - l.x))
