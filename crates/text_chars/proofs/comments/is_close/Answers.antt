use borrow.Author.Tests.{lt-ltb, le-ltb, lt-leb, eq-eqb, ne_eqb}
use Rattle.text_chars.specs.Gaps.{closes}
use Rattle.text_chars.proofs.comments.is_close.Goals as goal

pub returns-then-b-eq42 : goal.returns-then-b-eq42
unfolding closes
returns-then-b-eq42 c = search (lt-ltb, le-ltb, lt-leb, eq-eqb)

pub returns-else-b-eq42 : goal.returns-else-b-eq42
unfolding closes
returns-else-b-eq42 c = search (lt-ltb, le-ltb, lt-leb, ne_eqb)
