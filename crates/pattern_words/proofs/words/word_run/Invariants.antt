use mathlib.Core.Path.{◌≡◌}
use Prim.Native.Nat.{◌≤◌, ◌+◌, ◌-◌}
use lib.ListN.{drop}
use Rattle.text_chars.specs.Bytes.{run}
use Rattle.pattern_words.specs.Words.{in_word}
use Rattle.pattern_words.proofs.words.word_run.Given as goal

abbrev pub invariant-loop-at : goal.invariant-loop-at
invariant-loop-at l = (l.from ≤ l.at) × (l.at - l.from + run in_word (drop l.at l.bytes) ≡ run in_word (drop l.from l.bytes))
