use borrow.Author.Tests.{eq-eqb, ne_eqb}
use Rattle.listing_text.specs.Words.{space, dash}
use Rattle.params_words.specs.Words.{word_text}
use Rattle.params_words.proofs.put_word.Goals as goal

pub returns-then-word-eq65535 : goal.returns-then-word-eq65535
unfolding word_text space dash
returns-then-word-eq65535 c = rw (eq-eqb _ 65535 c.if-word-eq65535.true) c.put.ensures

pub returns : goal.returns
unfolding word_text space
returns c = rw (ne_eqb _ 65535 c.if-word-eq65535.false) c.put_numbered.ensures
