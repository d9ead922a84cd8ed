use borrow.Author.Rules.{rules}
use borrow.Author.Tests.{eq-eqb, ne_eqb}
use Rattle.text_chars.specs.Gaps.{is_line_doc}
use Rattle.text_chars.proofs.comments.is_line_doc.Goals as goal

pub returns-then-third-eq33 : goal.returns-then-third-eq33
unfolding is_line_doc
returns-then-third-eq33 c = simp (← c.byte_of-third.ensures, eq-eqb _ _ c.if-third-eq33.true)

pub returns-then-third-eq47 : goal.returns-then-third-eq47
unfolding is_line_doc
returns-then-third-eq47 c = simp (← c.byte_of.ensures, ← c.byte_of-third.ensures, ne_eqb _ _ c.if-third-eq33.false, eq-eqb _ _ c.if-third-eq47.true)

pub returns : goal.returns
unfolding is_line_doc
returns c = simp (← c.byte_of-third.ensures, ne_eqb _ _ c.if-third-eq33.false, ne_eqb _ _ c.if-third-eq47.false)
