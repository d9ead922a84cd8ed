use borrow.Author.Rules.{rules}
use mathlib.Core.Path.{refl}
use borrow.Author.Tests.{le-ltb, lt-ltb}
use Rattle.reading_input.specs.Parts.{part_end}
use Rattle.reading_input.proofs.part_end.Goals as goal

pub returns-then-input-from-lt4 : goal.returns-then-input-from-lt4
unfolding part_end
returns-then-input-from-lt4 c = rw (lt-ltb _ _ c.if-input-from-lt4.true) refl

pub returns : goal.returns
unfolding part_end
returns c =
    rw (le-ltb _ _ c.if-input-from-lt4.false)
    (rw c.word_at-high.ensures at (rw c.word_at-low.ensures at c.behind.ensures))
