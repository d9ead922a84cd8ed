use borrow.Author.Rules.{rules}
use mathlib.Core.Path.{refl}
use borrow.Author.Tests.{le-ltb, lt-ltb}
use Rattle.reading_input.specs.Parts.{past_or_end}
use Rattle.reading_input.proofs.behind.Goals as goal

pub returns-then-end-from : goal.returns-then-end-from
unfolding past_or_end
returns-then-end-from c = rw (lt-ltb _ _ c.if-end-from.true) refl

pub returns : goal.returns
unfolding past_or_end
returns c = rw (le-ltb _ _ c.if-end-from.false) refl
