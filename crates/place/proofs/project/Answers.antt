use borrow.Author.Rules.{rules}
use Rattle.place.proofs.Projecting.{full, longer}
use Rattle.place.proofs.project.Goals as goal

pub returns-then-len-ge16 : goal.returns-then-len-ge16
returns-then-len-ge16 c = full _ _ c.if-len-ge16.true

pub returns : goal.returns
returns c = rw c.word_of.ensures (longer _ _ c.requires (search rules) c.if-len-ge16.false)
