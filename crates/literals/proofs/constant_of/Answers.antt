use borrow.Author.Rules.{rules}
use native.Mathlib.Omega.{arith}
use Rattle.literals.proofs.Constants.{constant_short, constant_long}
use Rattle.literals.proofs.constant_of.Goals as goal

pub half-requires : goal.half-requires
half-requires c = (omega arith, omega arith)

pub returns-then-count-le8 : goal.returns-then-count-le8
returns-then-count-le8 c = constant_short _ _ _ c.requires.0 (omega arith) c.half.ensures

pub half-requires-2 : goal.half-requires-2
half-requires-2 c = (omega arith, omega arith)

pub half-requires-3 : goal.half-requires-3
half-requires-3 c = (omega arith, omega arith)

pub returns : goal.returns
returns c = constant_long _ _ _ c.requires.0 (omega arith) c.half-2.ensures c.half-3.ensures
