use borrow.Author.Rules.{rules}
use Rattle.mir.specs.Rvalues.{place_rvalue_kind}
use Rattle.mir_statements.proofs.place_rvalue_kind.Goals as goal

pub returns-in-Copy : goal.returns-in-Copy
unfolding place_rvalue_kind
returns-in-Copy c = rw c.in-Copy.is

pub returns-in-Ref : goal.returns-in-Ref
unfolding place_rvalue_kind
returns-in-Ref c = rw c.in-Ref.is

pub returns-in-Mut : goal.returns-in-Mut
unfolding place_rvalue_kind
returns-in-Mut c = rw c.in-Mut.is

pub returns-in-Len : goal.returns-in-Len
unfolding place_rvalue_kind
returns-in-Len c = rw c.in-Len.is

pub returns-in-Discr : goal.returns-in-Discr
unfolding place_rvalue_kind
returns-in-Discr c = rw c.in-Discr.is
