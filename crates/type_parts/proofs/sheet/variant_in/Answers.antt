use borrow.Author.Rules.{rules}
use Rattle.image.specs.Rows.{variant_at}
use Rattle.type_parts.proofs.sheet.variant_in.Goals as goal

pub returns : goal.returns
unfolding variant_at
returns c = rw (← c.requires.variants) (λ i. record { fields = c.sheet_word.ensures i; count = c.sheet_word-2.ensures i; discriminant = c.sheet_word-3.ensures i })
