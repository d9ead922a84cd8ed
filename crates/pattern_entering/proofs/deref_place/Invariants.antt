use Prim.Native.Nat.{◌-◌}
use mathlib.Core.Path.{◌≡◌}
use Rattle.pattern_entering.specs.Entering.{derefs_of}
use Rattle.pattern_entering.proofs.deref_place.Given as goal

abbrev pub invariant-loop : goal.invariant-loop
invariant-loop l = derefs_of l.here (l.derefs - l.counter) ≡ derefs_of l.initial.here l.derefs
