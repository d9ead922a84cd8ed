use Rattle.std.specs.Prelude.{None}
use borrow.Author.Rules.{rules}
use borrow.Author.Tests.{not-true, not-false}
use Rattle.parsing_moves.proofs.Deciding.{over_over, over_plain, over_minus}
use Rattle.parsing_moves.proofs.starts.is_over.Goals as goal

pub returns-then-not-minus : goal.returns-then-not-minus
returns-then-not-minus c = over_plain _ _ _ _ c.in-Some.is (c.if-not-minus.true)

pub returns-in-None : goal.returns-in-None
returns-in-None c = over_over _ _ c.in-None.is

pub returns-else-not-minus : goal.returns-else-not-minus
returns-else-not-minus c = over_minus _ _ _ _ _ c.in-Some.is (c.if-not-minus.false) c.over_halves.ensures
