use mathlib.Core.Path.{◌≡◌}
use Prim.Native.Nat.{◌≤◌}
use lib.ListN.{drop}
use Rattle.text_chars.specs.Gaps.{block_from}
use Rattle.text_chars.proofs.comments.block_end.Given as goal

abbrev pub invariant-loop-at : goal.invariant-loop-at
invariant-loop-at l = (l.depth ≤ l.at) × (block_from l.at l.depth l.before (drop l.at l.bytes) ≡ block_from 2 0 0 (drop 2 l.bytes))
