use borrow.Author.Tests.{le-leb, lt-leb}
use Rattle.pattern_words.specs.Words.{is_between}
use Rattle.pattern_words.proofs.words.is_between.Goals as goal

pub returns-then-b-low : goal.returns-then-b-low
unfolding is_between
returns-then-b-low c = simp (lt-leb _ _ c.if-b-low.true)

pub returns : goal.returns
unfolding is_between
returns c = simp (le-leb _ _ c.if-b-low.false)
