use mathlib.Core.Path.{◌≡◌}
use Prim.Native.Nat.{◌≤◌}
use Rattle.pattern_parts.specs.Parts.{fields_there}
use Rattle.pattern_parts.proofs.Typing.{fields_left}
use Rattle.pattern_parts.proofs.adts.fields_there.Given as goal

abbrev pub invariant-loop-i : goal.invariant-loop-i
invariant-loop-i l = (fields_there l.image l.from l.count l.fields ≡ fields_left l.image l.from l.count l.fields l.i) × (l.i ≤ l.count)
