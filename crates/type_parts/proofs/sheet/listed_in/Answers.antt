use borrow.Author.Rules.{rules}
use Rattle.image.specs.Rows.{list_at}
use Rattle.type_parts.proofs.sheet.listed_in.Goals as goal

pub returns : goal.returns
unfolding list_at
returns c = rw (← c.requires.list) c.sheet_word.ensures
