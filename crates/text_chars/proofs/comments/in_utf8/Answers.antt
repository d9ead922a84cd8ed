use borrow.Author.Rules.{rules}
use mathlib.Core.Path.{sym, ◌∙◌}
use Rattle.text_chars.specs.Gaps.{in_utf8}
use Rattle.text_chars.proofs.comments.in_utf8.Goals as goal

pub returns-then-is_utf8 : goal.returns-then-is_utf8
unfolding in_utf8
returns-then-is_utf8 c = simp (c.in-Of.is, sym c.is_utf8.ensures ∙ c.if-is_utf8.true)

pub returns-else-is_utf8 : goal.returns-else-is_utf8
unfolding in_utf8
returns-else-is_utf8 c = simp (c.in-Of.is, sym c.is_utf8.ensures ∙ c.if-is_utf8.false)

pub returns-in-Nothing : goal.returns-in-Nothing
unfolding in_utf8
returns-in-Nothing c = simp c.in-Nothing.is

pub returns-in-Broken : goal.returns-in-Broken
unfolding in_utf8
returns-in-Broken c = simp c.in-Broken.is
