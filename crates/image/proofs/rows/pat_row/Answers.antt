use borrow.Author.Rules.{rules}
use Rattle.image.proofs.rows.pat_row.Goals as goal

pub returns : goal.returns
returns c = λ i. record { kind = c.word_at.ensures i; ty = c.word_at-2.ensures i; derefs = c.word_at-3.ensures i; a = c.word_at-4.ensures i; b = c.word_at-5.ensures i; c = c.word_at-6.ensures i; d = c.word_at-7.ensures i }
