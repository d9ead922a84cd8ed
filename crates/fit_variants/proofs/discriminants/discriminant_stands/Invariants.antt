use Prim.Native.Nat.{◌+◌, ◌-◌}
use mathlib.Core.Path.{◌≡◌}
use Rattle.image.specs.Lists.{member}
use Rattle.fit_variants.specs.Discriminants.{discriminant_number, discriminants}
use Rattle.fit_variants.proofs.discriminants.discriminant_stands.Given as goal

abbrev pub invariant-loop-v : goal.invariant-loop-v
invariant-loop-v l = member (discriminant_number l.d) (discriminants l.image l.from l.count) ≡ member (discriminant_number l.d) (discriminants l.image l.v (l.from + l.count - l.v))
