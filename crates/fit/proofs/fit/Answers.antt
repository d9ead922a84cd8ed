use Rattle.std.specs.Prelude.{None}
use borrow.Author.Rules.{rules}
use mathlib.Core.Path.{sym, ◌∙◌}
use borrow.Author.Tests.{not-true, not-false}
use Rattle.fit.proofs.Calling.{is_valid, is_whole, are_handed, gives_no_number, gives_no, gives_yes, gives_no_image}
use Rattle.fit.proofs.fit.Goals as goal

pub returns-then-not-call_names : goal.returns-then-not-call_names
returns-then-not-call_names c = gives_no_number _ (sym c.in-Some.is ∙ c.read_image.ensures.answer) c.args.bindings.now _ _ c.call_names.ensures _ (c.if-not-call_names.true)

pub pattern_fits-requires : goal.pattern_fits-requires
pattern_fits-requires c =
    let there = are_handed _ (sym c.in-Some.is ∙ c.read_image.ensures.answer) c.args.bindings.now _ _ c.call_names.ensures (c.if-not-call_names.false) in
    (is_valid _ (sym c.in-Some.is ∙ c.read_image.ensures.answer), is_whole _ (sym c.in-Some.is ∙ c.read_image.ensures.answer), there.long, there.pattern, there.type)

pub returns-then-not-pattern_fits : goal.returns-then-not-pattern_fits
returns-then-not-pattern_fits c = gives_no _ (sym c.in-Some.is ∙ c.read_image.ensures.answer) c.args.bindings.now _ _ c.call_names.ensures _ (c.if-not-call_names.false) c.pattern_fits.ensures (c.if-not-pattern_fits.true)

pub returns-in-None : goal.returns-in-None
returns-in-None c = gives_no_image _ _ _ _ _ (sym c.in-None.is ∙ c.read_image.ensures.answer)

pub returns-else-not-pattern_fits : goal.returns-else-not-pattern_fits
returns-else-not-pattern_fits c = gives_yes _ (sym c.in-Some.is ∙ c.read_image.ensures.answer) c.args.bindings.now _ _ c.call_names.ensures _ (c.if-not-call_names.false) c.pattern_fits.ensures (c.if-not-pattern_fits.false)
