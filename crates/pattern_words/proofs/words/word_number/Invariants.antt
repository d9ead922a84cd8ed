use mathlib.Core.Path.{◌≡◌}
use Prim.Native.Nat.{◌≤◌, ◌<◌, ◌-◌, ◌^◌}
use lib.ListN.{length, drop}
use Rattle.image.specs.Bytes.{little_endian}
use Rattle.pattern_words.proofs.words.word_number.Given as goal

abbrev pub invariant-loop-at : goal.invariant-loop-at
invariant-loop-at l = (l.at ≤ length l.word) × ((l.number ≡ little_endian (drop l.at l.word)) × (l.number < 256 ^ (length l.word - l.at)))
