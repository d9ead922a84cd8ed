use borrow.Author.Rules.{rules}
use Rattle.name_tables.proofs.Ruled.{short, miscounted, other_version, many_rows, many_bytes, filling}
use Rattle.name_rules.proofs.name_frame_holds.Goals as goal

pub returns-then-names-lt9 : goal.returns-then-names-lt9
returns-then-names-lt9 c = short _ c.if-names-lt9.true

pub returns-then-names-high : goal.returns-then-names-high
returns-then-names-high c = miscounted _ c.if-names-lt9.false (rw (c.word_at-high.ensures, c.word_at-low.ensures) at c.if-names-high.true)

pub returns-then-names-ne1 : goal.returns-then-names-ne1
returns-then-names-ne1 c = other_version _ c.if-names-lt9.false (rw (c.word_at-high.ensures, c.word_at-low.ensures) at c.if-names-high.false) c.if-names-ne1.true

pub returns-then-rows-gt1024 : goal.returns-then-rows-gt1024
returns-then-rows-gt1024 c = many_rows _ c.if-names-lt9.false (rw (c.word_at-high.ensures, c.word_at-low.ensures) at c.if-names-high.false) c.if-names-ne1.false (rw c.word_at-rows.ensures at c.if-rows-gt1024.true)

pub returns-then-bytes-gt16384 : goal.returns-then-bytes-gt16384
returns-then-bytes-gt16384 c = many_bytes _ c.if-names-lt9.false (rw (c.word_at-high.ensures, c.word_at-low.ensures) at c.if-names-high.false) c.if-names-ne1.false (rw c.word_at-rows.ensures at c.if-rows-gt1024.false) (rw c.word_at-bytes.ensures at c.if-bytes-gt16384.true)

pub returns : goal.returns
returns c = rw (c.word_at-rows.ensures, c.word_at-bytes.ensures) (filling _ c.if-names-lt9.false (rw (c.word_at-high.ensures, c.word_at-low.ensures) at c.if-names-high.false) c.if-names-ne1.false (rw c.word_at-rows.ensures at c.if-rows-gt1024.false) (rw c.word_at-bytes.ensures at c.if-bytes-gt16384.false))
