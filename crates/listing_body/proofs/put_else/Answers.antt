use borrow.Author.Rules.{rules}
use Rattle.listing_text.specs.Words.{dash}
use Rattle.listing_text.specs.Listing.{else_text}
use Rattle.listing_body.proofs.put_else.Goals as goal

pub returns-in-None : goal.returns-in-None
unfolding else_text dash
returns-in-None c = rw c.in-None.is c.put.ensures

pub returns-in-Some : goal.returns-in-Some
unfolding else_text
returns-in-Some c = rw c.in-Some.is c.put_decimal.ensures
