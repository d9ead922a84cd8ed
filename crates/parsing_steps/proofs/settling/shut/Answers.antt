use borrow.Author.Rules.{rules}
use native.Mathlib.Omega.{arith}
use Rattle.parsing_steps.proofs.Lasting.{shuts}
use Rattle.parsing_steps.proofs.settling.shut.Goals as goal

pub returns : goal.returns
returns c = shuts c.put_node.ensures (omega arith) c.settle.ensures
