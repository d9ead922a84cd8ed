use borrow.Author.Tests.{lt-ltb, le-ltb, lt-leb, le-leb}
use Rattle.body_row_rules.specs.Bodies.{is_type_word}
use Rattle.body_row_rules.proofs.rows.is_type_word.Goals as goal

pub returns-then-word-types : goal.returns-then-word-types
unfolding is_type_word
returns-then-word-types c = rw (lt-ltb _ _ c.if-word-types.true)

pub returns-then-word-lt256 : goal.returns-then-word-lt256
unfolding is_type_word
returns-then-word-lt256 c = rw (le-ltb _ _ c.if-word-types.false, lt-leb 256 _ c.if-word-lt256.true)

pub returns : goal.returns
unfolding is_type_word
returns c = rw (le-ltb _ _ c.if-word-types.false, le-leb 256 _ c.if-word-lt256.false)
