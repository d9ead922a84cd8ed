use borrow.Author.Rules.{rules}
use native.Mathlib.Omega.{arith}
use Rattle.listing_body.proofs.put_recorded.Goals as goal

pub records_of-records-requires : goal.records_of-records-requires
records_of-records-requires c = (c.requires.0, c.requires.2)

pub put_blocks-requires : goal.put_blocks-requires
put_blocks-requires c = (c.requires.1, c.requires.2, c.requires.3)

pub shape_of-out : goal.shape_of-out
shape_of-out c = omega (arith, c.put_blocks.auto.out)

pub returns : goal.returns
returns c = rw c.records_of-records.ensures.1 at c.put_blocks.ensures
