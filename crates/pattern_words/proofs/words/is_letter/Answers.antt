use borrow.Author.Rules.{rules}
use mathlib.Core.Path.{sym, ◌∙◌}
use Rattle.pattern_words.specs.Words.{is_letter}
use Rattle.pattern_words.proofs.words.is_letter.Goals as goal

pub returns-then-is_between : goal.returns-then-is_between
unfolding is_letter
returns-then-is_between c = simp (sym c.is_between.ensures ∙ c.if-is_between.true)

pub returns : goal.returns
unfolding is_letter
returns c = simp (sym c.is_between.ensures ∙ c.if-is_between.false) c.is_between-2.ensures
