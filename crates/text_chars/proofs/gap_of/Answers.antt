use Rattle.std.specs.Prelude.{None}
use borrow.Author.Rules.{rules}
use mathlib.Core.Path.{sym, ◌∙◌}
use Rattle.text_chars.specs.Gaps.{gap_of}
use Rattle.text_chars.proofs.gap_of.Goals as goal

pub returns-then-is_whitespace : goal.returns-then-is_whitespace
unfolding gap_of
returns-then-is_whitespace c = simp (sym c.scalar_of.ensures ∙ c.in-Some.is, sym c.is_whitespace.ensures ∙ c.if-is_whitespace.true)

pub returns-else-is_whitespace : goal.returns-else-is_whitespace
unfolding gap_of
returns-else-is_whitespace c = simp (sym c.scalar_of.ensures ∙ c.in-Some.is, sym c.is_whitespace.ensures ∙ c.if-is_whitespace.false) c.comment_of.ensures

pub returns-in-None : goal.returns-in-None
unfolding gap_of
returns-in-None c = simp (sym c.scalar_of.ensures ∙ c.in-None.is)
