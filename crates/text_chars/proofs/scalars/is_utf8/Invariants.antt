use mathlib.Core.Path.{◌≡◌}
use Prim.Native.Nat.{◌+◌, ◌-◌}
use lib.ListN.{drop}
use Rattle.text_chars.specs.Scalars.{is_utf8}
use Rattle.text_chars.proofs.scalars.is_utf8.Given as goal

abbrev pub invariant-loop-at : goal.invariant-loop-at
invariant-loop-at l = is_utf8 (l.count + 1 - l.at) l.rest (drop l.at l.bytes) ≡ is_utf8 l.count 0 (drop 1 l.bytes)
