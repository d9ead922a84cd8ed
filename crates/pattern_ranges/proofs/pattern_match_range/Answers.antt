use Rattle.refusals.proofs.Passing.{passed}
use Rattle.std.specs.Prelude.{Ok, Err}
use borrow.Author.Rules.{rules}
use mathlib.Core.Path.{sym, ◌∙◌}
use borrow.Author.Tests.{not-true, not-false}
use Rattle.pattern_walk_spec.proofs.Sequences.{lowers_goes}
use Rattle.pattern_ranges.proofs.Ends.{range_skips, range_stops, range_both}
use Rattle.pattern_ranges.proofs.pattern_match_range.Goals as goal

pub returns-then-not-is_check : goal.returns-then-not-is_check
returns-then-not-is_check c = range_skips _ _ _ _ _ _ _ _ _ _ _ _ (sym c.is_check.ensures ∙ c.if-not-is_check.true) c.requires.ready.1

pub range_end-requires-2 : goal.range_end-requires-2
range_end-requires-2 c = record { image_value = (c.requires.image_value.0, c.requires.image_value.1, c.requires.image_value.2, c.requires.image_value.4); ready = lowers_goes (rw c.in_ok-c1.was at c.range_end.ensures) c.requires.ready.0 }

pub returns-in_err-c1 : goal.returns-in_err-c1
returns-in_err-c1 c = rw (passed _ _ c.from_residual.ensures.1) (range_stops _ _ _ _ _ _ _ _ _ _ _ _ (sym c.is_check.ensures ∙ c.if-not-is_check.false) (rw c.in_err-c1.was at c.range_end.ensures))

pub returns : goal.returns
returns c = range_both _ _ _ _ _ _ _ _ _ _ _ _ (sym c.is_check.ensures ∙ c.if-not-is_check.false) c.requires.ready.0 (rw c.in_ok-c1.was at c.range_end.ensures) c.end_op.ensures c.range_end-2.ensures
