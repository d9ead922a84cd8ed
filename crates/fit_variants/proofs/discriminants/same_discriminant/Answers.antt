use mathlib.Core.Path.{◌∙◌}
use borrow.Author.Tests.{ne_eqb}
use native.Mathlib.Omega.{arith}
use Rattle.fit_variants.proofs.Apart.{lows_differ, lows_same}
use Rattle.fit_variants.proofs.discriminants.same_discriminant.Goals as goal

pub returns-then-a-b : goal.returns-then-a-b
returns-then-a-b c = lows_same _ _ c.if-a-b.true

pub returns-else-a-b : goal.returns-else-a-b
returns-else-a-b c = ne_eqb _ _ c.if-a-b.false ∙ lows_differ _ _ (omega arith) (omega arith) c.if-a-b.false
