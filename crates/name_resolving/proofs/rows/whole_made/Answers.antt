use borrow.Author.Rules.{rules}
use Rattle.name_resolving.proofs.rows.whole_made.Goals as goal

pub returns : goal.returns
returns c = rw (c.made-making.ensures, c.unseen_parts-reads.ensures)
