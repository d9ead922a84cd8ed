use Rattle.refusals.proofs.Passing.{passed_none}
use borrow.Author.Rules.{rules}
use mathlib.Core.Path.{sym, ◌∙◌}
use Rattle.body_live_marks.proofs.Marking.{live_no_scope, live_no_entry, live_no_statement, live_marked}
use Rattle.body_live_marks.proofs.mark_live.Goals as goal

pub returns-then-counts-eq0 : goal.returns-then-counts-eq0
returns-then-counts-eq0 c = live_no_scope _ _ _ _ _ c.if-counts-eq0.true

pub returns-in_err-c1 : goal.returns-in_err-c1
returns-in_err-c1 c = rw (passed_none _ _ _ _ c.from_residual.ensures.1 c.in_err-c1.ensures.ok_part c.in_err-c1.ensures.value) (live_no_entry _ _ _ _ _ c.if-counts-eq0.false (sym c.in_err-c1.ensures.ok_part ∙ c.record_unless.ensures.0) c.record_unless.ensures.1)

pub returns-in_err-c2 : goal.returns-in_err-c2
returns-in_err-c2 c = rw (passed_none _ _ _ _ c.from_residual-in_err-c2.ensures.1 c.in_err-c2.ensures.ok_part c.in_err-c2.ensures.value) (live_no_statement _ _ _ _ _ c.if-counts-eq0.false (sym c.in_ok-c1.ensures.ok_part ∙ c.record_unless.ensures.0) c.record_unless.ensures.1 c.push_live.ensures.1 (sym c.in_err-c2.ensures.ok_part ∙ c.push_live.ensures.0))

pub returns : goal.returns
returns c = live_marked _ _ _ _ _ c.if-counts-eq0.false (sym c.in_ok-c1.ensures.ok_part ∙ c.record_unless.ensures.0) c.record_unless.ensures.1 c.push_live.ensures.1 (sym c.in_ok-c2.ensures.ok_part ∙ c.push_live.ensures.0)
