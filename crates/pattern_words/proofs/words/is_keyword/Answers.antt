use borrow.Author.Rules.{rules}
use Rattle.pattern_words.specs.Words.{keywords}
use Rattle.text_chars.specs.Bytes.{ascii}
use Rattle.image.specs.Bytes.{little_endian}
use Rattle.pattern_words.proofs.words.is_keyword.Goals as goal

pub returns : goal.returns
unfolding keywords ascii little_endian
returns c = c.is_in.ensures
