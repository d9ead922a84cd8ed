use borrow.Author.Rules.{rules}
use mathlib.Core.Path.{refl}
use borrow.Author.Tests.{le-ltb, lt-ltb}
use Rattle.reading_input.specs.Parts.{word_or0}
use Rattle.reading_input.proofs.word_or_0.Goals as goal

pub returns-then-input-at-lt2 : goal.returns-then-input-at-lt2
unfolding word_or0
returns-then-input-at-lt2 c = rw (lt-ltb _ _ c.if-input-at-lt2.true) refl

pub returns : goal.returns
unfolding word_or0
returns c = rw (le-ltb _ _ c.if-input-at-lt2.false) c.word_at.ensures
