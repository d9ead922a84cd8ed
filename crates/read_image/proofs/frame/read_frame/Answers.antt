use borrow.Author.Rules.{rules}
use native.Mathlib.Omega.{arith}
use Rattle.read_image.proofs.Frames.{short, miscounted, other_version, begun}
use Rattle.read_image.proofs.frame.read_frame.Goals as goal

pub returns-then-image-lt17 : goal.returns-then-image-lt17
returns-then-image-lt17 c = short _ c.if-image-lt17.true

pub returns-then-image-high : goal.returns-then-image-high
returns-then-image-high c = miscounted _ (rw (c.word_at-high.ensures, c.word_at-low.ensures) at c.if-image-high.true)

pub returns-then-image-ne1 : goal.returns-then-image-ne1
returns-then-image-ne1 c = other_version _ c.if-image-ne1.true

pub read_tables-requires : goal.read_tables-requires
read_tables-requires c = begun _ c.if-image-lt17.false (rw (c.word_at-high.ensures, c.word_at-low.ensures) at c.if-image-high.false) c.if-image-ne1.false
