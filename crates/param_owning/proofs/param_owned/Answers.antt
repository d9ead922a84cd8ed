use borrow.Author.Rules.{rules}
use native.Mathlib.Omega.{arith}
use Rattle.param_owning.proofs.Telling.{param_other, param_binding, param_bound}
use Rattle.param_owning.proofs.param_owned.Goals as goal

pub returns-then-row-ne11 : goal.returns-then-row-ne11
returns-then-row-ne11 c = param_other _ _ _ _ _ c.pat_at-row.ensures c.if-row-ne11.true

pub binding_owned-requires : goal.binding_owned-requires
binding_owned-requires c = omega (arith, c.requires.2, param_binding _ c.args.bindings.now _ 0 _ c.pat_at-row.ensures c.if-row-ne11.false c.requires.0 c.requires.3)

pub returns : goal.returns
returns c = param_bound _ _ _ _ _ c.pat_at-row.ensures c.if-row-ne11.false c.binding_owned.ensures
