use borrow.Author.Rules.{rules}
use Rattle.views.specs.Views.{constant_at}
use Rattle.listing_text.specs.Listing.{rvalue_text}
use Rattle.listing_statements.proofs.put_constant.Goals as goal

pub returns : goal.returns
unfolding rvalue_text constant_at
returns c = rw (c.four_words-low.ensures, c.four_words-high.ensures) at c.put_constant_bytes.ensures
