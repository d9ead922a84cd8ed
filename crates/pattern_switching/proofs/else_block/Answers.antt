use borrow.Author.Rules.{rules}
use mathlib.Core.Path.{refl}
use Rattle.pattern_switching.specs.Switching.{else_made}
use Rattle.pattern_switching.proofs.else_block.Goals as goal

pub returns-in-Some : goal.returns-in-Some
unfolding else_made
returns-in-Some c = rw c.in-Some.is refl

pub returns-in-None : goal.returns-in-None
unfolding else_made
returns-in-None c = rw c.in-None.is c.new_basic_block.ensures
