use borrow.Enum.Refused.{opened}
use borrow.Author.Rules.{rules}
use native.Mathlib.Omega.{arith}
use Rattle.image.specs.Subpatterns.{subpatterns_by}
use Rattle.marks.proofs.Shapes.{tuple_in_list, or_in_list, record_in_list, tuple_struct_in_list}
use Rattle.image_marks.proofs.Defaults.{no_subpatterns}
use Rattle.image_marks.proofs.take_row.Goals as goal

pub take_listed-requires : goal.take_listed-requires
take_listed-requires c =
    let known = c.requires in
    (known.0, known.1, omega arith, omega (arith, tuple_in_list _ _ c.in-Tuple.is known.2), known.3)

pub take_listed-requires-in-Or : goal.take_listed-requires-in-Or
take_listed-requires-in-Or c =
    let known = c.requires in
    (known.0, known.1, omega arith, omega (arith, or_in_list _ _ c.in-Or.is known.2), known.3)

pub overflow_add-row : goal.overflow_add-row
overflow_add-row c = omega (arith, record_in_list _ _ c.in-Record.is c.requires.2)

pub take_listed-requires-in-Record : goal.take_listed-requires-in-Record
take_listed-requires-in-Record c =
    let known = c.requires in
    (known.0, known.1, omega arith, omega (arith, record_in_list _ _ c.in-Record.is known.2), known.3)

pub take_slice-requires : goal.take_slice-requires
take_slice-requires c =
    let known = c.requires in
    (known.0, known.1, rw c.in-Slice.is at known.2, known.3)

pub take_listed-requires-in-TupleStruct : goal.take_listed-requires-in-TupleStruct
take_listed-requires-in-TupleStruct c =
    let known = c.requires in
    (known.0, known.1, omega arith, omega (arith, tuple_struct_in_list _ _ c.in-TupleStruct.is known.2), known.3)

pub returns-in-Tuple : goal.returns-in-Tuple
unfolding subpatterns_by
returns-in-Tuple c = rw c.in-Tuple.is c.take_listed.ensures

pub returns-in-Or : goal.returns-in-Or
unfolding subpatterns_by
returns-in-Or c = rw c.in-Or.is c.take_listed-in-Or.ensures

pub returns-in-Record : goal.returns-in-Record
unfolding subpatterns_by
returns-in-Record c = rw c.in-Record.is c.take_listed-in-Record.ensures

pub returns-in-Slice : goal.returns-in-Slice
unfolding subpatterns_by
returns-in-Slice c = rw c.in-Slice.is c.take_slice.ensures

pub returns-in-Bind : goal.returns-in-Bind
unfolding subpatterns_by
returns-in-Bind c = rw c.in-Bind.is c.take_present.ensures

pub returns-in-TupleStruct : goal.returns-in-TupleStruct
unfolding subpatterns_by
returns-in-TupleStruct c = rw c.in-TupleStruct.is c.take_listed-in-TupleStruct.ensures

pub returns-in-Ref : goal.returns-in-Ref
unfolding subpatterns_by
returns-in-Ref c = rw c.in-Ref.is c.take.ensures

pub returns-in_default : goal.returns-in_default
returns-in_default c = no_subpatterns _ _ _ _ _ (opened c.in_default.in_default-own.keys8)
