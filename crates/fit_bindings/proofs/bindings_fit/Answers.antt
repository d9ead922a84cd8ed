use borrow.Author.Rules.{rules}
use native.Mathlib.Omega.{arith}
use Rattle.fit_rows.proofs.Known.{limits}
use Rattle.fit_rows.proofs.Joining.{one_there, one_joined}
use Rattle.fit_bindings.proofs.bindings_fit.Goals as goal

pub overflow_add-p : goal.overflow_add-p
overflow_add-p c = omega (arith, (limits _ c.requires.0).patterns, c.requires.2)

pub all_fit-requires : goal.all_fit-requires
all_fit-requires c = (c.requires.0, c.requires.1, one_there c.requires.2 c.one.ensures)

pub returns : goal.returns
returns c = one_joined _ _ c.one.ensures c.all_fit.ensures
