use mathlib.Core.Path.{◌≡◌}
use Prim.Native.Nat.{◌+◌}
use lib.ListN.{drop}
use Rattle.text_chars.specs.Bytes.{run}
use Rattle.pattern_tokens.specs.Literals.{in_integer}
use Rattle.token_reading.proofs.integers.integer_run.Given as goal

abbrev pub invariant-loop-at : goal.invariant-loop-at
invariant-loop-at l = l.at + run in_integer (drop l.at l.bytes) ≡ run in_integer l.bytes
