use borrow.Author.Rules.{rules}
use mathlib.Core.Path.{refl}
use Rattle.handed.specs.Handed.{is_block_or_none}
use Rattle.handed.proofs.is_block_or_none.Goals as goal

pub returns-in-None : goal.returns-in-None
unfolding is_block_or_none
returns-in-None c = rw c.in-None.is refl

pub returns-in-Some : goal.returns-in-Some
unfolding is_block_or_none
returns-in-Some c = rw c.in-Some.is refl
