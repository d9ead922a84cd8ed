use borrow.Author.Rules.{rules}
use Prim.Native.Nat.{◌-◌}
use native.Mathlib.Omega.{arith}
use lib.ListN.{length}
use Rattle.token_parsing.specs.Standing.{ParsingAt}
use Rattle.pattern_parsing.proofs.Starting.{starts, goes_again}
use Rattle.pattern_parsing.proofs.parse_tokens.Goals as goal

pub loop-q-init : goal.loop-q-init
loop-q-init c = rw c.fresh-p.ensures (starts _ _ _ _)

pub read_token-read-requires : goal.read_token-read-requires
read_token-read-requires c = (c.requires, c.loop-q.invariant)

pub loop-q-smaller : goal.loop-q-smaller
loop-q-smaller c = let g = goes_again c.in-Going.is c.read_token-read.ensures in omega (arith, g.1, g.0.inside)

pub loop-q-preserved : goal.loop-q-preserved
loop-q-preserved c = (goes_again c.in-Going.is c.read_token-read.ensures).0

pub returns-in-Ended : goal.returns-in-Ended
returns-in-Ended c = rw c.in-Ended.is at c.read_token-read.ensures

pub returns-in-Halted : goal.returns-in-Halted
returns-in-Halted c = rw c.in-Halted.is at c.read_token-read.ensures
