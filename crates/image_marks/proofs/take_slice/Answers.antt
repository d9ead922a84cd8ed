use borrow.Author.Rules.{rules}
use native.Mathlib.Omega.{arith}
use borrow.Author.Tests.{not-true, not-false}
use Rattle.marks.proofs.Shapes.{slice_in_list, prefix_refused, suffix_refused, slice_taken_lem}
use Rattle.image_marks.proofs.take_slice.Goals as goal

pub take_listed-requires : goal.take_listed-requires
take_listed-requires c =
    let known = c.requires in
    (known.0, known.1, omega arith, omega (arith, slice_in_list _ _ known.2), known.3)

pub returns-then-not-take_listed : goal.returns-then-not-take_listed
returns-then-not-take_listed c = prefix_refused _ _ _ (c.if-not-take_listed.true) c.take_listed.ensures

pub overflow_add-row : goal.overflow_add-row
overflow_add-row c = omega (arith, slice_in_list _ _ c.requires.2)

pub take_listed-requires-2 : goal.take_listed-requires-2
take_listed-requires-2 c =
    let known = c.requires in
    (known.0, search rules, omega arith, omega (arith, slice_in_list _ _ known.2), known.3)

pub returns-then-not-take_listed-2 : goal.returns-then-not-take_listed-2
returns-then-not-take_listed-2 c =
    let prefix = c.take_listed.ensures in
    suffix_refused _ _ _ (c.if-not-take_listed.false) prefix (c.if-not-take_listed-2.true) c.take_listed-2.ensures

pub returns : goal.returns
returns c =
    let prefix = c.take_listed.ensures in
    let suffix = c.take_listed-2.ensures in
    let prefix-taken = c.if-not-take_listed.false in
    let suffix-taken = c.if-not-take_listed-2.false in
    slice_taken_lem _ _ prefix-taken prefix suffix-taken suffix c.take_present.ensures
