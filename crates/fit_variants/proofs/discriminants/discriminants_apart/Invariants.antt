use Prim.Native.Nat.{◌+◌, ◌-◌}
use mathlib.Core.Path.{◌≡◌}
use Rattle.image.specs.Lists.{distinct}
use Rattle.fit_variants.specs.Discriminants.{discriminants}
use Rattle.fit_variants.proofs.discriminants.discriminants_apart.Given as goal

abbrev pub invariant-loop-k : goal.invariant-loop-k
invariant-loop-k l = distinct (discriminants l.image l.from l.count) ≡ distinct (discriminants l.image (l.from + l.k) (l.count - l.k))
