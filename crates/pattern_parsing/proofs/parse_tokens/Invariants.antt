use borrow.Author.Rules.{rules}
use Prim.Native.Nat.{◌-◌}
use native.Mathlib.Omega.{arith}
use lib.ListN.{length}
use Rattle.token_parsing.specs.Standing.{ParsingAt}
use Rattle.pattern_parsing.proofs.Starting.{starts, goes_again}
use Rattle.pattern_parsing.proofs.parse_tokens.Given as goal

abbrev pub invariant-loop-q : goal.invariant-loop-q
invariant-loop-q l = ParsingAt l.text l.names l.named l.stack l.nodes l.at l.p

abbrev pub decreases-loop-q : goal.decreases-loop-q
decreases-loop-q l = length l.text - l.at
