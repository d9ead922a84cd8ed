use borrow.Author.Rules.{rules}
use mathlib.Core.Path.{sym, ◌∙◌}
use Rattle.text_chars.specs.Gaps.{block_gap}
use Rattle.text_chars.proofs.comments.block_gap.Goals as goal

pub returns-then-is_block_doc : goal.returns-then-is_block_doc
unfolding block_gap
returns-then-is_block_doc c = simp (sym c.is_block_doc.ensures ∙ c.if-is_block_doc.true)

pub returns : goal.returns
unfolding block_gap
returns c = simp (← c.block_end.ensures, sym c.is_block_doc.ensures ∙ c.if-is_block_doc.false) c.in_utf8.ensures
