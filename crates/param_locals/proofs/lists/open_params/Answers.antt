use borrow.Author.Rules.{rules}
use mathlib.Core.Path.{sym, ◌∙◌}
use borrow.Author.Tests.{not-true, not-false}
use Rattle.body_calls_spec.proofs.Prologue.{few_blocks}
use Rattle.param_locals.proofs.Opening.{read_whole, both_taken, no_image, no_list, no_body, no_call, all_taken_lem}
use Rattle.param_locals.proofs.lists.open_params.Goals as goal

pub returns-in_default : goal.returns-in_default
returns-in_default c = record { answer = no_image _ _ _ _ _ _ _ (sym c.in_default.is ∙ c.read_image.ensures.answer); lengths = tt }

pub list_holds-requires : goal.list_holds-requires
list_holds-requires c = read_whole _ _ (sym c.in-Some.is ∙ c.read_image.ensures.answer)

pub returns-then-not-list_holds : goal.returns-then-not-list_holds
returns-then-not-list_holds c = record { answer = no_list _ _ _ _ _ _ _ _ (sym c.in-Some.is ∙ c.read_image.ensures.answer) c.list_holds.ensures (c.if-not-list_holds.true); lengths = tt }

pub returns-then-not-body_holds : goal.returns-then-not-body_holds
returns-then-not-body_holds c = record { answer = no_body _ _ _ _ _ _ _ _ (sym c.in-Some.is ∙ c.read_image.ensures.answer) (sym c.list_holds.ensures ∙ c.if-not-list_holds.false) c.body_holds.ensures.answer (c.if-not-body_holds.true); lengths = tt }

pub params_hold-requires : goal.params_hold-requires
params_hold-requires c =
    let T = both_taken _ _ _ _ (sym c.in-Some.is ∙ c.read_image.ensures.answer) c.body_holds.ensures.answer (c.if-not-body_holds.false) in
    (T.whole, few_blocks _ _ _ T)

pub returns-then-not-params_hold : goal.returns-then-not-params_hold
returns-then-not-params_hold c = record { answer = no_call _ _ _ _ _ _ _ _ (sym c.in-Some.is ∙ c.read_image.ensures.answer) (sym c.list_holds.ensures ∙ c.if-not-list_holds.false) c.body_holds.ensures.answer (c.if-not-body_holds.false) c.params_hold.ensures (c.if-not-params_hold.true); lengths = tt }

pub returns : goal.returns
returns c = record { answer = all_taken_lem _ _ _ _ _ _ _ _ (sym c.in-Some.is ∙ c.read_image.ensures.answer) (sym c.list_holds.ensures ∙ c.if-not-list_holds.false) c.body_holds.ensures.answer (c.if-not-body_holds.false) c.params_hold.ensures (c.if-not-params_hold.false); lengths = c.body_holds.ensures.lengths (c.if-not-body_holds.false) }
