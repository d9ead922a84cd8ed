use borrow.Author.Rules.{rules}
use Rattle.listing_text.specs.Words.{live_word, dead_word}
use Rattle.listing_text.specs.Listing.{statement_text}
use Rattle.listing_places.proofs.Readings.{statement_kind, statement_set}
use Rattle.listing_statements.proofs.put_statement.Goals as goal

pub returns-in-1 : goal.returns-in-1
unfolding statement_text live_word
returns-in-1 c = rw (statement_kind c.args.row.now 1 c.in-1.is) c.put_line.ensures

pub returns-in-2 : goal.returns-in-2
unfolding statement_text dead_word
returns-in-2 c = rw (statement_kind c.args.row.now 2 c.in-2.is) c.put_line-in-2.ensures

pub returns-in_default : goal.returns-in_default
returns-in_default c = rw (statement_set c.args.row.now c.in_default.in_default-own.rest) c.put_set.ensures
