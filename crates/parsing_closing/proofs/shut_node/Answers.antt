use borrow.Author.Rules.{rules}
use Rattle.parsing_rests.proofs.Opens.{parts_wide}
use Rattle.parsing_closing.proofs.Closed.{shuts_node}
use Rattle.parsing_closing.proofs.shut_node.Goals as goal

pub shut-requires : goal.shut-requires
shut-requires c = (c.requires.0, parts_wide c.requires.1)

pub returns : goal.returns
returns c = shuts_node _ c.shut.ensures c.going_on.ensures
