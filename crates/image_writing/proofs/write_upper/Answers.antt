use borrow.Author.Rules.{rules}
use native.Mathlib.Omega.{arith}
use Rattle.image_writing.proofs.Composing.{upper_written}
use Rattle.image_writing.proofs.write_upper.Goals as goal

pub write_part-after_types-requires : goal.write_part-after_types-requires
write_part-after_types-requires c =
    let pre = c.requires in
    let w = pre.0.0 in
    let b = pre.0.1 in
    (omega (arith, b.types, pre.1.1), (omega (arith, w.types, w.type_count_lem, w.within), omega (arith, b.types, pre.1.0)))

pub write_bytes-after_variants-requires : goal.write_bytes-after_variants-requires
write_bytes-after_variants-requires c =
    let pre = c.requires in
    let w = pre.0.0 in
    let b = pre.0.1 in
    (omega (arith, b.types, b.variants, pre.1.1, c.write_part-after_types.ensures.0, c.write_part-after_types.auto), omega (arith, w.variants, w.variant_count_lem, w.within))

pub write_part-requires : goal.write_part-requires
write_part-requires c =
    let pre = c.requires in
    let w = pre.0.0 in
    let b = pre.0.1 in
    (omega (arith, b.types, b.variants, b.patterns, pre.1.1, c.write_part-after_types.ensures.0, c.write_part-after_types.auto, c.write_bytes-after_variants.ensures.0, c.write_bytes-after_variants.auto), (omega (arith, w.patterns, w.pattern_count_lem, w.within), omega (arith, b.patterns, pre.1.0)))

pub returns : goal.returns
returns c =
    let s = c.args in
    let pre = c.requires in
    (omega (arith, c.write_part-after_types.ensures.0, c.write_bytes-after_variants.ensures.0, c.write_part.ensures.0), upper_written s.sheet.now s.tables s.draft.now s.counts pre.0.0 pre.0.1 pre.1.0 s.image.now c.write_part-after_types.result c.write_bytes-after_variants.result _ _ _ pre.1.1 c.write_part-after_types.ensures.0 c.write_bytes-after_variants.ensures.0 c.write_part-after_types.ensures.1 c.write_bytes-after_variants.ensures.1 c.write_part.ensures.1)
