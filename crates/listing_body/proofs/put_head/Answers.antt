use borrow.Author.Rules.{rules}
use native.Mathlib.Omega.{arith}
use Rattle.listing_text.specs.Words.{then_word, else_word, newline}
use Rattle.listing_text.specs.Numbers.{decimal}
use Rattle.listing_text.proofs.Pieces.{and_then_lem, two_then}
use Rattle.listing_body.proofs.put_head.Goals as goal

pub shape_of-out : goal.shape_of-out
shape_of-out c = omega (arith, c.put_numbered-first.auto.out, c.put-middle.auto.out, c.put_else-second.auto.out, c.put.auto.out)

pub returns : goal.returns
unfolding then_word else_word newline
returns c =
    two_then then_word (decimal c.args.then.0) c.put_numbered-first.ensures
    (and_then_lem c.put-middle.ensures (and_then_lem c.put_else-second.ensures c.put.ensures))
