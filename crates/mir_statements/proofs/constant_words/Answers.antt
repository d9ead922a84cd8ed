use borrow.Author.Rules.{rules}
use mathlib.Core.Path.{refl}
use Rattle.mir.specs.Rvalues.{constant_words}
use Rattle.mir_statements.proofs.constant_words.Goals as goal

pub returns : goal.returns
unfolding constant_words
returns c = refl
