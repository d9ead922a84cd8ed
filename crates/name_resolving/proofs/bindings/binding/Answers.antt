use borrow.Author.Rules.{rules}
use Rattle.name_resolving.proofs.bindings.binding.Goals as goal

pub returns : goal.returns
returns c = rw (c.mode_of-word.ensures, c.annotation_of-annotation.ensures, c.same_parts-reads.ensures)
