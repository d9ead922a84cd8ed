use borrow.Author.Rules.{rules}
use mathlib.Core.Path.{sym, ◌∙◌}
use Rattle.refusals.proofs.Passing.{passed_none}
use Rattle.body_calls_spec.proofs.Prologue.{opens_none, opens_image, opens_no_body}
use Rattle.body_opening.proofs.open.Goals as goal

pub returns-in_err-tables : goal.returns-in_err-tables
returns-in_err-tables c =
    rw (passed_none _ _ _ _ c.from_residual.ensures.1 c.in_err-tables.ensures.ok_part c.in_err-tables.ensures.value)
    (record { answer = opens_none _ _ _ (sym c.in_err-tables.ensures.ok_part ∙ c.read_image.ensures.answer); lengths = tt })

pub returns-then-body_holds : goal.returns-then-body_holds
returns-then-body_holds c =
    record { answer = opens_image _ _ _ _ (sym c.in_ok-tables.ensures.ok_part ∙ c.read_image.ensures.answer) c.body_holds.ensures.answer c.if-body_holds.true; lengths = c.body_holds.ensures.lengths c.if-body_holds.true }

pub returns : goal.returns
returns c = record { answer = opens_no_body _ _ _ _ (sym c.in_ok-tables.ensures.ok_part ∙ c.read_image.ensures.answer) c.body_holds.ensures.answer c.if-body_holds.false; lengths = tt }
