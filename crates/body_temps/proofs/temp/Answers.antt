use Rattle.refusals.proofs.Passing.{passed_none}
use Rattle.refusals.proofs.Passing.{passed}
use Rattle.std.specs.Prelude.{Ok, Err}
use borrow.Author.Rules.{rules}
use mathlib.Core.Path.{sym, ◌∙◌}
use Rattle.body_temps.proofs.Temporaries.{temp_slice, temp_no_local, temp_stopped, temp_made}
use Rattle.body_temps.proofs.temp.Goals as goal

pub returns-then-is_slice : goal.returns-then-is_slice
returns-then-is_slice c = temp_slice _ _ _ _ _ (sym c.is_slice.ensures ∙ c.if-is_slice.true)

pub returns-in_err-c1 : goal.returns-in_err-c1
returns-in_err-c1 c = rw (passed_none _ _ _ _ c.from_residual.ensures.1 c.in_err-c1.ensures.ok_part c.in_err-c1.ensures.value) (temp_no_local _ _ _ _ _ (sym c.is_slice.ensures ∙ c.if-is_slice.false) (sym c.in_err-c1.ensures.ok_part ∙ c.new_local.ensures.0) c.new_local.ensures.1)

pub returns-in_err-c2 : goal.returns-in_err-c2
returns-in_err-c2 c = rw (passed _ _ c.from_residual-in_err-c2.ensures.1) (temp_stopped _ _ _ _ _ (sym c.is_slice.ensures ∙ c.if-is_slice.false) (sym c.in_ok-c1.ensures.ok_part ∙ c.new_local.ensures.0) c.new_local.ensures.1 (rw c.in_err-c2.was at c.mark_live.ensures))

pub returns : goal.returns
returns c = temp_made _ _ _ _ _ (sym c.is_slice.ensures ∙ c.if-is_slice.false) (sym c.in_ok-c1.ensures.ok_part ∙ c.new_local.ensures.0) c.new_local.ensures.1 (rw c.in_ok-c2.was at c.mark_live.ensures)
