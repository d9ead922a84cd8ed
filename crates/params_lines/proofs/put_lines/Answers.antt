use borrow.Author.Rules.{rules}
use Rattle.listing_text.specs.Words.{newline}
use Rattle.listing_text.proofs.Pieces.{and_then_lem}
use Rattle.params_lines.specs.Lines.{lines_text, line_text, params_word, bindings_word, entries_word}
use Rattle.params_lines.proofs.put_lines.Goals as goal

pub returns : goal.returns
unfolding lines_text line_text newline params_word bindings_word entries_word
returns c = and_then_lem (and_then_lem c.put-begun.ensures (and_then_lem c.put_run-run.ensures c.put-ended.ensures)) (and_then_lem c.put_list-bound.ensures c.put_list.ensures)
