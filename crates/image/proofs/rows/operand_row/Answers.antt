use borrow.Author.Rules.{rules}
use Rattle.image.proofs.rows.operand_row.Goals as goal

pub returns : goal.returns
returns c = λ i. record { kind = c.word_at.ensures i; offset = c.word_at-2.ensures i; count = c.word_at-3.ensures i }
