use borrow.Author.Rules.{rules}
use Rattle.image.specs.Bytes.{word_at}
use Rattle.type_parts.proofs.sheet.sheet_word.Goals as goal

pub returns : goal.returns
unfolding word_at
returns c = rw (c.byte_of.ensures, c.byte_of-2.ensures)
