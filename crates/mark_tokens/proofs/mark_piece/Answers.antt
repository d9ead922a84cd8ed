use borrow.Author.Rules.{rules}
use Rattle.pattern_tokens.specs.Tokens.{begins, punctuation, first_where}
use Rattle.text_chars.specs.Bytes.{ascii}
use Rattle.mark_tokens.proofs.mark_piece.Goals as goal

pub returns : goal.returns
unfolding first_where begins punctuation ascii
returns c = simp (← c.byte_of.ensures, ← c.byte_of-2.ensures, ← c.byte_of-3.ensures) c.mark_of.ensures
