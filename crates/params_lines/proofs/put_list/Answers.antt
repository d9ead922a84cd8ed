use borrow.Author.Rules.{rules}
use Rattle.listing_text.specs.Words.{newline}
use Rattle.listing_text.proofs.Pieces.{and_then_lem}
use Rattle.params_lines.specs.Lines.{line_text}
use Rattle.params_lines.proofs.put_list.Goals as goal

pub returns : goal.returns
unfolding line_text newline
returns c = and_then_lem c.put-begun.ensures (and_then_lem c.put_words-listed.ensures c.put.ensures)
