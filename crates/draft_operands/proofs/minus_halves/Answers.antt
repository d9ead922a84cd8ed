use borrow.Author.Rules.{rules}
use native.Mathlib.Omega.{arith}
use Rattle.draft_operands.proofs.Halving.{minus_low, minus_high, minus_none}
use Rattle.draft_operands.proofs.minus_halves.Goals as goal

pub returns-then-low-ne0 : goal.returns-then-low-ne0
returns-then-low-ne0 c = minus_low c.args.low c.args.high (omega arith) (omega arith) c.if-low-ne0.true

pub returns-then-high-ne0 : goal.returns-then-high-ne0
returns-then-high-ne0 c = minus_high c.args.low c.args.high (omega arith) (omega arith) c.if-low-ne0.false c.if-high-ne0.true

pub returns : goal.returns
returns c = minus_none c.args.low c.args.high (omega arith) (omega arith) c.if-low-ne0.false c.if-high-ne0.false
