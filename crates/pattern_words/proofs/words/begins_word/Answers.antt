use borrow.Author.Rules.{rules}
use mathlib.Core.Path.{sym, ◌∙◌}
use Rattle.pattern_words.specs.Words.{begins_word}
use Rattle.pattern_words.proofs.words.begins_word.Goals as goal

pub returns-then-is_letter : goal.returns-then-is_letter
unfolding begins_word
returns-then-is_letter c = simp (sym c.is_letter.ensures ∙ c.if-is_letter.true)

pub returns : goal.returns
unfolding begins_word
returns c = simp (sym c.is_letter.ensures ∙ c.if-is_letter.false)
