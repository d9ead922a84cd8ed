use borrow.Author.Tests.{lt-ltb, le-ltb, lt-leb, eq-eqb, ne_eqb}
use Rattle.text_chars.specs.Gaps.{opens}
use Rattle.text_chars.proofs.comments.is_open.Goals as goal

pub returns-then-b-eq47 : goal.returns-then-b-eq47
unfolding opens
returns-then-b-eq47 c = search (lt-ltb, le-ltb, lt-leb, eq-eqb)

pub returns-else-b-eq47 : goal.returns-else-b-eq47
unfolding opens
returns-else-b-eq47 c = search (lt-ltb, le-ltb, lt-leb, ne_eqb)
