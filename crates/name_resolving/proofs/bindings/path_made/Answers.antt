use borrow.Author.Rules.{rules}
use Rattle.name_resolving.proofs.bindings.path_made.Goals as goal

pub returns : goal.returns
returns c = rw (c.made-making.ensures, c.path_word.ensures, c.unseen_parts-reads.ensures)
