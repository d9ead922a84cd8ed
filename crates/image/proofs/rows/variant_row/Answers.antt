use borrow.Author.Rules.{rules}
use Rattle.image.proofs.rows.variant_row.Goals as goal

pub returns : goal.returns
returns c = λ i. record { fields = c.word_at.ensures i; count = c.word_at-2.ensures i; discriminant = c.word_at-3.ensures i }
