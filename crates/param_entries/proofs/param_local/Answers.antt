use Rattle.refusals.proofs.Passing.{passed_none}
use borrow.Author.Rules.{rules}
use mathlib.Core.Path.{sym, ◌∙◌}
use Rattle.param_entries.proofs.Entering.{local_full, local_unscoped, local_unentered, local_entered}
use Rattle.param_entries.proofs.param_local.Goals as goal

pub returns-in_err-c1 : goal.returns-in_err-c1
returns-in_err-c1 c = rw (passed_none _ _ _ _ c.from_residual.ensures.1 c.in_err-c1.ensures.ok_part c.in_err-c1.ensures.value) (local_full _ _ _ (sym c.in_err-c1.ensures.ok_part ∙ c.new_local.ensures.0) c.new_local.ensures.1)

pub returns-then-c1-eq0 : goal.returns-then-c1-eq0
returns-then-c1-eq0 c = local_unscoped _ _ _ (sym c.in_ok-c1.ensures.ok_part ∙ c.new_local.ensures.0) c.new_local.ensures.1 c.if-c1-eq0.true

pub returns-in_err-c2 : goal.returns-in_err-c2
returns-in_err-c2 c = rw (passed_none _ _ _ _ c.from_residual-in_err-c2.ensures.1 c.in_err-c2.ensures.ok_part c.in_err-c2.ensures.value) (local_unentered _ _ _ (sym c.in_ok-c1.ensures.ok_part ∙ c.new_local.ensures.0) c.new_local.ensures.1 c.if-c1-eq0.false c.push_entry.ensures.1 (sym c.in_err-c2.ensures.ok_part ∙ c.push_entry.ensures.0))

pub returns : goal.returns
returns c = local_entered _ _ _ (sym c.in_ok-c1.ensures.ok_part ∙ c.new_local.ensures.0) c.new_local.ensures.1 c.if-c1-eq0.false c.push_entry.ensures.1 (sym c.in_ok-c2.ensures.ok_part ∙ c.push_entry.ensures.0)
