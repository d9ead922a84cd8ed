use mathlib.Core.Path.{◌≡◌}
use Prim.Native.Nat.{◌≤◌, ◌<◌, ◌^◌}
use lib.ListN.{drop}
use Rattle.pattern_tokens.specs.Literals.{unicode_from}
use Rattle.char_escapes.proofs.unicode_escape.Given as goal

abbrev pub invariant-loop-at : goal.invariant-loop-at
invariant-loop-at l = ((l.digits ≤ 6) × (l.v < 16 ^ l.digits)) × (unicode_from l.at l.digits l.v (drop l.at l.bytes) ≡ unicode_from 3 0 0 (drop 3 l.bytes))
