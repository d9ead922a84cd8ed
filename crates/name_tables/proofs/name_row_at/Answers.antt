use borrow.Author.Rules.{rules}
use Rattle.name_tables.specs.Names.{name_row_at}
use Rattle.name_tables.proofs.name_row_at.Goals as goal

pub returns : goal.returns
unfolding name_row_at
returns c =
    λ i. record { kind = c.word_at.ensures i; number = c.word_at-2.ensures i; owner = c.word_at-3.ensures i; start = c.word_at-4.ensures i; count = c.word_at-5.ensures i }
