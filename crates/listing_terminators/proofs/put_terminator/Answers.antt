use borrow.Author.Rules.{rules}
use Rattle.listing_text.specs.Words.{goto_word, unreachable_word, drop_word, open_word, space, newline}
use Rattle.listing_text.specs.Numbers.{decimal}
use Rattle.listing_text.specs.Listing.{terminator_text}
use Rattle.listing_text.proofs.Pieces.{two_then}
use Rattle.listing_terminators.proofs.put_terminator.Goals as goal

pub returns-in-Open : goal.returns-in-Open
unfolding terminator_text open_word newline
returns-in-Open c = rw c.in-Open.is c.put.ensures

pub returns-in-Goto : goal.returns-in-Goto
unfolding terminator_text goto_word
returns-in-Goto c = rw c.in-Goto.is c.put_line.ensures

pub returns-in-Switch : goal.returns-in-Switch
returns-in-Switch c = rw c.in-Switch.is c.put_switch.ensures

pub returns-in-Unreachable : goal.returns-in-Unreachable
unfolding terminator_text unreachable_word newline
returns-in-Unreachable c = rw c.in-Unreachable.is c.put-in-Unreachable.ensures

pub returns-in-Drop : goal.returns-in-Drop
unfolding terminator_text drop_word space
returns-in-Drop c = rw c.in-Drop.is (two_then drop_word (decimal c.in-Drop.local.0) c.put_numbered-begun.ensures c.put_line-in-Drop.ensures)
