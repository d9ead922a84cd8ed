use mathlib.Core.Path.{◌≡◌}
use Prim.Native.Nat.{◌≤◌, ◌+◌, ◌-◌}
use lib.ListN.{length, drop}
use Rattle.text_chars.specs.Bytes.{run}
use Rattle.text_chars.specs.Gaps.{in_line}
use Rattle.text_chars.proofs.comments.line_run.Given as goal

abbrev pub invariant-loop-at : goal.invariant-loop-at
invariant-loop-at l = (l.at ≤ 1 + (length l.bytes - 1)) × (l.at - 1 + run in_line (drop l.at l.bytes) ≡ run in_line (drop 1 l.bytes))
