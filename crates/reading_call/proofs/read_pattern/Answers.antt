use Rattle.std.specs.Prelude.{Ok, Err}
use borrow.Author.Rules.{rules}
use Rattle.reading_call.proofs.Passing.{text_fails, text_read}
use Rattle.reading_call.proofs.read_pattern.Goals as goal

pub read_nodes-requires : goal.read_nodes-requires
read_nodes-requires c = rw c.in-Ok.is at c.parse_pattern.ensures

pub returns-in-Err : goal.returns-in-Err
returns-in-Err c = record { shows = text_fails _ _ _ _ _ _ (rw c.in-Err.is at c.parse_pattern.ensures) }

pub returns-in-Ok : goal.returns-in-Ok
returns-in-Ok c = record { shows = text_read _ _ _ _ _ _ _ _ (rw c.in-Ok.is at c.parse_pattern.ensures).same c.read_nodes.ensures }
