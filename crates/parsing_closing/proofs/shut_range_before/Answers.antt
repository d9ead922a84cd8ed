use borrow.Author.Rules.{rules}
use native.Mathlib.Omega.{arith}
use Rattle.parsing_rests.proofs.Opens.{parts_wide, parts_raised}
use Rattle.parsing_closing.proofs.Closed.{range_before}
use Rattle.parsing_closing.proofs.shut_range_before.Goals as goal

pub shut_grown-h-requires : goal.shut_grown-h-requires
shut_grown-h-requires c = (omega (arith, c.requires.0), parts_wide c.requires.1)

pub behind_alt-requires : goal.behind_alt-requires
behind_alt-requires c = (omega (arith, c.shut_grown-h.ensures.total, c.requires.0), parts_raised (c.shut_grown-h.ensures.raises 30001 c.requires.1))

pub returns : goal.returns
returns c = range_before c.put_node.ensures (omega arith) c.shut_grown-h.ensures c.behind_alt.ensures
