use borrow.Author.Rules.{rules}
use Rattle.refusals.proofs.Passing.{passed}
use mathlib.Core.Path.{refl, sym, ◌∙◌}
use borrow.Author.Tests.{lt-ltb, le-ltb, not-true, not-false}
use Rattle.image.proofs.Bools.{and_true, and_false_left, and_false_right}
use Rattle.body_row_rules.specs.Bodies.{is_type_word}
use Rattle.body_calls_spec.specs.Calls.{temp_call}
use Rattle.body_calls_spec.proofs.Prologue.{looked, taken, taken_sized}
use Rattle.body_calls_spec.proofs.Replying.{not_opened, bad_number, goes_on_lem}
use Rattle.body_calls_spec.specs.Unopened.{call_error}
use Rattle.body_temp_call.proofs.temp.Goals as goal

pub returns-then-not-is_type_word : goal.returns-then-not-is_type_word
unfolding temp_call
returns-then-not-is_type_word c =
    let opened = sym c.in_ok-tables.was ∙ c.open.ensures.answer in
    let word = sym (rw (looked _ _ _ opened).whole.type_count_lem at c.is_type_word.ensures) in
    bad_number _ _ _ opened (and_false_left (is_type_word _ _) _ (word ∙ c.if-not-is_type_word.true)) refl

pub returns-then-counts-block : goal.returns-then-counts-block
unfolding temp_call
returns-then-counts-block c = bad_number _ _ _ (sym c.in_ok-tables.was ∙ c.open.ensures.answer) (and_false_right (is_type_word _ _) _ (le-ltb _ _ c.if-counts-block.true)) refl

pub temp_step-requires : goal.temp_step-requires
temp_step-requires c =
    let T = taken _ _ _ (sym c.in_ok-tables.was ∙ c.open.ensures.answer) (rw c.in_ok-tables.was at c.open.ensures.lengths) in
    (T.whole, taken_sized _ _ _ T)

pub returns-in_err-tables : goal.returns-in_err-tables
unfolding temp_call
returns-in_err-tables c = rw (passed _ _ c.from_residual.ensures.1) (not_opened _ _ _ call_error _ (sym c.in_err-tables.was ∙ c.open.ensures.answer) refl refl refl refl)

pub returns : goal.returns
unfolding temp_call
returns c =
    let opened = sym c.in_ok-tables.was ∙ c.open.ensures.answer in
    let word = sym (rw (looked _ _ _ opened).whole.type_count_lem at c.is_type_word.ensures) in
    goes_on_lem _ _ _ opened (and_true (is_type_word _ _) _ (word ∙ c.if-not-is_type_word.false) (lt-ltb _ _ c.if-counts-block.false)) c.temp_step.ensures
