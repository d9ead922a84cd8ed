use borrow.Author.Rules.{rules}
use native.Mathlib.Omega.{arith}
use Rattle.place.specs.Elems.{word_of}
use Rattle.place.proofs.elems.word_of.Goals as goal

pub overflow_add-result-in-Subslice-2 : goal.overflow_add-result-in-Subslice-2
overflow_add-result-in-Subslice-2 c =
    let fits = rw c.in-Subslice.is at c.requires in
    omega (arith, fits)

pub returns-in-Deref : goal.returns-in-Deref
unfolding word_of
returns-in-Deref c = rw c.in-Deref.is

pub returns-in-Field : goal.returns-in-Field
unfolding word_of
returns-in-Field c = rw c.in-Field.is

pub returns-in-Index : goal.returns-in-Index
unfolding word_of
returns-in-Index c = rw c.in-Index.is

pub returns-in-IndexFromEnd : goal.returns-in-IndexFromEnd
unfolding word_of
returns-in-IndexFromEnd c = rw c.in-IndexFromEnd.is

pub returns-in-Subslice : goal.returns-in-Subslice
unfolding word_of
returns-in-Subslice c = rw c.in-Subslice.is

pub returns-in-Downcast : goal.returns-in-Downcast
unfolding word_of
returns-in-Downcast c = rw c.in-Downcast.is

pub returns-in-Unknown : goal.returns-in-Unknown
unfolding word_of
returns-in-Unknown c = rw c.in-Unknown.is
