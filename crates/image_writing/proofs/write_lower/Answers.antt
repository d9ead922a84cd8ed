use borrow.Author.Rules.{rules}
use native.Mathlib.Omega.{arith}
use Rattle.image_writing.proofs.Composing.{lower_written}
use Rattle.image_writing.proofs.write_lower.Goals as goal

pub overflow_cast-data : goal.overflow_cast-data
overflow_cast-data c = omega (arith, c.requires.0.0.1.bytes)

pub overflow_cast-added_bytes : goal.overflow_cast-added_bytes
overflow_cast-added_bytes c = omega (arith, c.requires.0.0.1.bytes)

pub write_part-next-requires : goal.write_part-next-requires
write_part-next-requires c =
    let pre = c.requires in
    let w = pre.0.0.0 in
    let b = pre.0.0.1 in
    (omega (arith, b.types, b.variants, b.patterns, b.bindings, pre.0.1.1, pre.1.0), (omega (arith, w.bindings, w.binding_count_lem, w.within), omega (arith, b.bindings, pre.0.1.0)))

pub write_part-after_list-requires : goal.write_part-after_list-requires
write_part-after_list-requires c =
    let pre = c.requires in
    let w = pre.0.0.0 in
    let b = pre.0.0.1 in
    (omega (arith, b.types, b.variants, b.patterns, b.bindings, b.words, pre.0.1.1, pre.1.0, c.write_part-next.ensures.0, c.write_part-next.auto), (omega (arith, w.list, w.list_count_lem, w.within), omega (arith, b.words, pre.0.1.0)))

pub write_bytes-after_data-requires : goal.write_bytes-after_data-requires
write_bytes-after_data-requires c =
    let pre = c.requires in
    let w = pre.0.0.0 in
    let b = pre.0.0.1 in
    (omega (arith, b.types, b.variants, b.patterns, b.bindings, b.words, b.bytes, pre.0.1.1, pre.1.0, c.write_part-next.ensures.0, c.write_part-next.auto, c.write_part-after_list.ensures.0, c.write_part-after_list.auto), omega (arith, w.bytes, w.data_count_lem, w.within))

pub write_data-requires : goal.write_data-requires
write_data-requires c =
    let pre = c.requires in
    let b = pre.0.0.1 in
    ((omega (arith, b.types, b.variants, b.patterns, b.bindings, b.words, b.bytes, pre.0.1.1, pre.1.0, c.write_part-next.ensures.0, c.write_part-next.auto, c.write_part-after_list.ensures.0, c.write_part-after_list.auto, c.write_bytes-after_data.ensures.0, c.write_bytes-after_data.auto), omega (arith, b.bytes, pre.0.1.0)), pre.1.1)

pub returns : goal.returns
returns c =
    let s = c.args in
    let pre = c.requires in
    (omega (arith, pre.1.0, c.write_part-next.ensures.0, c.write_part-after_list.ensures.0, c.write_bytes-after_data.ensures.0, c.write_data.ensures.0), lower_written s.sheet.now s.tables s.draft.now s.counts pre.0.0.0 pre.0.0.1 pre.0.1.0 s.image.now s.at c.write_part-next.result c.write_part-after_list.result c.write_bytes-after_data.result _ _ _ _ pre.0.1.1 pre.1.0 c.write_part-next.ensures.0 c.write_part-after_list.ensures.0 c.write_bytes-after_data.ensures.0 c.write_part-next.ensures.1 c.write_part-after_list.ensures.1 c.write_bytes-after_data.ensures.1 c.write_data.ensures.1)
