use borrow.Author.Rules.{rules}
use Rattle.image.proofs.rows.binding_row.Goals as goal

pub returns : goal.returns
returns c = λ i. record { ty = c.word_at.ensures i; picked = c.word_at-2.ensures i }
