use borrow.Author.Rules.{rules}
use mathlib.Core.Path.{sym}
use Rattle.image.proofs.Defaults.{default}
use Rattle.place.specs.declared.elems.ProjectionElem.{ProjectionElem}
use Rattle.place.specs.Elems.{elem_kinds, elem_of}
use Rattle.place.proofs.elems.elem_of.Goals as goal

pub returns-in-0 : goal.returns-in-0
unfolding elem_of
returns-in-0 c = rw c.in-0.is

pub returns-in-1 : goal.returns-in-1
unfolding elem_of
returns-in-1 c = rw c.in-1.is

pub returns-in-2 : goal.returns-in-2
unfolding elem_of
returns-in-2 c = rw c.in-2.is

pub returns-in-3 : goal.returns-in-3
unfolding elem_of
returns-in-3 c = rw c.in-3.is

pub returns-in-4 : goal.returns-in-4
unfolding elem_of
returns-in-4 c = rw c.in-4.is

pub returns-in-5 : goal.returns-in-5
unfolding elem_of
returns-in-5 c = rw c.in-5.is

pub returns-in_default : goal.returns-in_default
unfolding elem_of
returns-in_default c = sym (default (elem_kinds _ _) ProjectionElem.Unknown _ c.in_default.in_default-own.rest)
