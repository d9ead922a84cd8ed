use borrow.Author.Rules.{rules}
use Rattle.listing_text.specs.Words.{copy_word}
use Rattle.listing_text.specs.Listing.{left_text, rvalue_text}
use Rattle.listing_places.proofs.Readings.{left_local, left_constant}
use Rattle.listing_statements.proofs.put_left.Goals as goal

pub returns-then-row-eq1 : goal.returns-then-row-eq1
unfolding left_text copy_word
returns-then-row-eq1 c = rw (left_local c.args.row.now c.if-row-eq1.true) c.put_numbered.ensures

pub returns : goal.returns
unfolding left_text rvalue_text
returns c = rw (left_constant c.args.row.now c.if-row-eq1.false) c.put_constant.ensures
