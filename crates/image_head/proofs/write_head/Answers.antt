use borrow.Author.Rules.{rules}
use native.Mathlib.Omega.{arith}
use Rattle.image_head.proofs.Headed.{head_written}
use Rattle.image_head.proofs.write_head.Goals as goal

pub overflow_add-count_words-2 : goal.overflow_add-count_words-2
overflow_add-count_words-2 c = omega (arith, c.requires.0.0)

pub overflow_add-count_words-3 : goal.overflow_add-count_words-3
overflow_add-count_words-3 c = omega (arith, c.requires.0.0)

pub overflow_add-count_words-4 : goal.overflow_add-count_words-4
overflow_add-count_words-4 c = omega (arith, c.requires.0.0)

pub overflow_add-count_words-5 : goal.overflow_add-count_words-5
overflow_add-count_words-5 c = omega (arith, c.requires.0.0)

pub write_words-requires : goal.write_words-requires
write_words-requires c = (omega (arith, c.requires.1, c.write_words-version_at.ensures.0, c.write_words-version_at.auto, c.write_bytes-counts_at.ensures.0, c.write_bytes-counts_at.auto), omega arith)

pub shape_of-image : goal.shape_of-image
shape_of-image c = omega (arith, c.write_words-version_at.auto, c.write_bytes-counts_at.auto, c.write_words.auto)

pub returns : goal.returns
returns c =
    let s = c.args in
    let pre = c.requires in
    head_written s.follow s.tables s.counts s.image.now c.write_words-version_at.result c.write_bytes-counts_at.result _ _ _ (omega (arith, pre.1)) (omega (arith, c.write_words-version_at.ensures.0)) (omega (arith, c.write_words-version_at.ensures.0, c.write_bytes-counts_at.ensures.0)) c.write_words-version_at.ensures.1 c.write_bytes-counts_at.ensures.1 c.write_words.ensures.1
