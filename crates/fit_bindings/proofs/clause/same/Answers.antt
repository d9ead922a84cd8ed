use borrow.Author.Rules.{rules}
use native.Mathlib.Omega.{arith}
use borrow.Author.Tests.{not-true, not-false}
use Rattle.fit_rows.proofs.Known.{limits}
use Rattle.fit_rows.proofs.Joining.{one_there, same_differs, same_is}
use Rattle.fit_bindings.proofs.clause.same.Goals as goal

pub overflow_add-p : goal.overflow_add-p
overflow_add-p c = omega (arith, (limits _ c.requires.0).patterns, c.requires.2)

pub overflow_add-q : goal.overflow_add-q
overflow_add-q c = omega (arith, (limits _ c.requires.0).patterns, c.requires.3)

pub each_agrees-requires : goal.each_agrees-requires
each_agrees-requires c =
    let known = c.requires in
    (known.0, known.1, one_there known.2 c.one-a.ensures, one_there known.3 c.one-b.ensures)

pub returns-then-not-each_agrees : goal.returns-then-not-each_agrees
returns-then-not-each_agrees c = same_differs _ _ _ c.one-a.ensures c.one-b.ensures c.each_agrees.ensures (c.if-not-each_agrees.true)

pub each_agrees-requires-2 : goal.each_agrees-requires-2
each_agrees-requires-2 c =
    let known = c.requires in
    (known.0, known.1, one_there known.3 c.one-b.ensures, one_there known.2 c.one-a.ensures)

pub returns : goal.returns
returns c = same_is _ _ _ c.one-a.ensures c.one-b.ensures c.each_agrees.ensures (c.if-not-each_agrees.false) c.each_agrees-2.ensures
