use borrow.Author.Rules.{rules}
use Rattle.image.specs.Rows.{type_at}
use Rattle.type_parts.proofs.sheet.type_in.Goals as goal

pub returns : goal.returns
unfolding type_at
returns c = rw (← c.requires.types) (λ i. record { kind = c.sheet_word.ensures i; a = c.sheet_word-2.ensures i; b = c.sheet_word-3.ensures i; c = c.sheet_word-4.ensures i; copy = c.sheet_word-5.ensures i })
