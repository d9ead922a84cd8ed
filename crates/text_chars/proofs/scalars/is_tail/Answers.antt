use borrow.Author.Tests.{lt-ltb, le-ltb, le-leb, lt-leb}
use Rattle.text_chars.specs.Scalars.{is_tail}
use Rattle.text_chars.proofs.scalars.is_tail.Goals as goal

pub returns-then-b-lt128 : goal.returns-then-b-lt128
unfolding is_tail
returns-then-b-lt128 c = search (lt-ltb, le-ltb, lt-leb)

pub returns : goal.returns
unfolding is_tail
returns c = search (lt-ltb, le-ltb, le-leb, lt-leb)
