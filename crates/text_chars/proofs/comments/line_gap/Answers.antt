use borrow.Author.Rules.{rules}
use mathlib.Core.Path.{sym, ◌∙◌}
use Rattle.text_chars.specs.Gaps.{line_gap}
use Rattle.text_chars.proofs.comments.line_gap.Goals as goal

pub returns-then-is_line_doc : goal.returns-then-is_line_doc
unfolding line_gap
returns-then-is_line_doc c = simp (sym c.is_line_doc.ensures ∙ c.if-is_line_doc.true)

pub returns : goal.returns
unfolding line_gap
returns c = simp (← c.line_run.ensures, sym c.is_line_doc.ensures ∙ c.if-is_line_doc.false) c.in_utf8.ensures
