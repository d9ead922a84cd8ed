use mathlib.Core.Path.{◌≡◌}
use Prim.Native.Nat.{◌+◌, ◌-◌, ◌≤◌}
use lib.ListN.{length, drop}
use Rattle.text_chars.specs.Gaps.{start_from}
use Rattle.text_chars.proofs.start_of.Given as goal

abbrev pub invariant-loop-i : goal.invariant-loop-i
invariant-loop-i l = (l.i ≤ l.at + (length l.text - l.at)) × (start_from l.i l.rest (drop l.i l.text) ≡ start_from l.at 0 (drop l.at l.text))
