use borrow.Author.Rules.{rules}
use native.Mathlib.Omega.{arith}
use Rattle.parsing_steps.proofs.Lasting.{settles, fewer}
use Rattle.parsing_steps.proofs.settling.settle.Goals as goal

pub settle_last-requires : goal.settle_last-requires
settle_last-requires c = (omega (arith, c.pass-h.ensures.total, c.requires.0), fewer c.requires.1 c.pass-h.ensures.shallow)

pub returns : goal.returns
returns c = settles c.pass-h.ensures c.settle_last.ensures
