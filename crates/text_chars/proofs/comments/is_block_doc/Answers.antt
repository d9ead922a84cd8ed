use borrow.Author.Rules.{rules}
use borrow.Author.Tests.{eq-eqb, ne_eqb}
use Rattle.text_chars.specs.Gaps.{is_block_doc}
use Rattle.text_chars.proofs.comments.is_block_doc.Goals as goal

pub returns-then-third-eq33 : goal.returns-then-third-eq33
unfolding is_block_doc
returns-then-third-eq33 c = simp (← c.byte_of-third.ensures, eq-eqb _ _ c.if-third-eq33.true)

pub returns-then-third-ne42 : goal.returns-then-third-ne42
unfolding is_block_doc
returns-then-third-ne42 c = simp (← c.byte_of-third.ensures, ne_eqb _ _ c.if-third-eq33.false, ne_eqb _ _ c.if-third-ne42.true)

pub returns-then-fourth-eq42 : goal.returns-then-fourth-eq42
unfolding is_block_doc
returns-then-fourth-eq42 c = simp (← c.byte_of-fourth.ensures, ← c.byte_of-third.ensures, ne_eqb _ _ c.if-third-eq33.false, eq-eqb _ _ c.if-third-ne42.false, eq-eqb _ _ c.if-fourth-eq42.true)

pub returns : goal.returns
unfolding is_block_doc
returns c = simp (← c.byte_of-fourth.ensures, ← c.byte_of-third.ensures, ne_eqb _ _ c.if-third-eq33.false, eq-eqb _ _ c.if-third-ne42.false, ne_eqb _ _ c.if-fourth-eq42.false)
