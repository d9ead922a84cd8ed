use borrow.Author.Rules.{rules}
use borrow.Author.Tests.{eq-eqb, ne_eqb}
use Rattle.text_chars.specs.Gaps.{comment_of}
use Rattle.text_chars.proofs.comments.comment_of.Goals as goal

pub returns-then-byte_of-ne47 : goal.returns-then-byte_of-ne47
unfolding comment_of
returns-then-byte_of-ne47 c = simp (← c.byte_of.ensures, ne_eqb _ _ c.if-byte_of-ne47.true)

pub returns-then-next-eq47 : goal.returns-then-next-eq47
unfolding comment_of
returns-then-next-eq47 c = simp (← c.byte_of-next.ensures, ← c.byte_of.ensures, eq-eqb _ _ c.if-byte_of-ne47.false, eq-eqb _ _ c.if-next-eq47.true) c.line_gap.ensures

pub returns-then-next-eq42 : goal.returns-then-next-eq42
unfolding comment_of
returns-then-next-eq42 c = simp (← c.byte_of-next.ensures, ← c.byte_of.ensures, eq-eqb _ _ c.if-byte_of-ne47.false, ne_eqb _ _ c.if-next-eq47.false, eq-eqb _ _ c.if-next-eq42.true) c.block_gap.ensures

pub returns : goal.returns
unfolding comment_of
returns c = simp (← c.byte_of-next.ensures, ← c.byte_of.ensures, eq-eqb _ _ c.if-byte_of-ne47.false, ne_eqb _ _ c.if-next-eq47.false, ne_eqb _ _ c.if-next-eq42.false)
