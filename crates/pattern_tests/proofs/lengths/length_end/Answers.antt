use borrow.Author.Rules.{rules}
use mathlib.Core.Path.{refl}
use borrow.Author.Tests.{not-true, not-false}
use Rattle.pattern_matching.specs.Walking.{local_place}
use Rattle.pattern_tests.proofs.Measuring.{end_exact, end_least}
use Rattle.pattern_tests.proofs.lengths.length_end.Goals as goal

pub returns-then-not-rest : goal.returns-then-not-rest
returns-then-not-rest c = end_exact _ _ _ _ _ _ _ _ (c.if-not-rest.true) c.set_terminator.ensures c.requires.2

pub returns : goal.returns
unfolding local_place
returns c = end_least _ _ _ _ _ _ _ _ _ c.compare.result (c.if-not-rest.false) c.length_constant.ensures refl c.compare.ensures
