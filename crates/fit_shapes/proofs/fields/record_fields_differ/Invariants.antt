use Prim.Native.Nat.{◌+◌, ◌*◌, ◌-◌}
use mathlib.Core.Path.{◌≡◌}
use mathlib.Core.List.{map}
use Rattle.image.specs.Lists.{distinct}
use Rattle.image.specs.Rules.{listed}
use Rattle.image.specs.Tree.{word?}
use Rattle.meaning.specs.Fit.{field_numbers}
use Rattle.fit_shapes.proofs.fields.record_fields_differ.Given as goal

abbrev pub invariant-loop-k : goal.invariant-loop-k
invariant-loop-k l = distinct (field_numbers (map word? (listed l.image 2 l.from l.count))) ≡ distinct (field_numbers (map word? (listed l.image 2 (l.from + 2 * l.k) (l.count - l.k))))
