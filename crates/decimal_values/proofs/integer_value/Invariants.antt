use mathlib.Core.Path.{◌≡◌}
use Prim.Native.Nat.{◌<◌, ◌+◌, ◌-◌, ◌*◌, ◌^◌}
use lib.ListN.{take, drop}
use Rattle.decimal_values.specs.Values.{decimal_from}
use Rattle.decimal_values.proofs.integer_value.Given as goal

abbrev pub invariant-loop-at : goal.invariant-loop-at
invariant-loop-at l = ((l.low < 2 ^ 64) × (l.high < 2 ^ 64)) × (decimal_from (l.high * 2 ^ 64 + l.low) (take (l.to - l.at) (drop l.at l.text)) ≡ decimal_from 0 (take (l.to - l.from) (drop l.from l.text)))
