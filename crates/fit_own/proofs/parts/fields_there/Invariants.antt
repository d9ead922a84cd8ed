use Prim.Native.Nat.{◌+◌, ◌*◌, ◌-◌}
use mathlib.Core.Path.{◌≡◌}
use mathlib.Core.List.{map}
use Rattle.image.specs.Rules.{listed}
use Rattle.image.specs.Tree.{word?}
use Rattle.meaning.specs.Fit.{fields_there}
use Rattle.fit_own.proofs.parts.fields_there.Given as goal

abbrev pub invariant-loop-k : goal.invariant-loop-k
invariant-loop-k l = fields_there (map word? (listed l.image 2 l.at l.count)) l.fields ≡ fields_there (map word? (listed l.image 2 (l.at + 2 * l.k) (l.count - l.k))) l.fields
