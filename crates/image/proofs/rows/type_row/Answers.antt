use borrow.Author.Rules.{rules}
use Rattle.image.proofs.rows.type_row.Goals as goal

pub returns : goal.returns
returns c = λ i. record { kind = c.word_at.ensures i; a = c.word_at-2.ensures i; b = c.word_at-3.ensures i; c = c.word_at-4.ensures i; copy = c.word_at-5.ensures i }
