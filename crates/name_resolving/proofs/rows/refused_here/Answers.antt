use borrow.Author.Rules.{rules}
use Rattle.name_resolving.proofs.rows.refused_here.Goals as goal

pub returns : goal.returns
returns c = rw (c.made-making.ensures, c.unseen_parts-reads.ensures)
