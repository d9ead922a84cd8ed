use borrow.Author.Rules.{rules}
use mathlib.Core.Path.{sym, ◌∙◌}
use borrow.Author.Tests.{not-true, not-false}
use Rattle.pattern_leaves.proofs.Sequencing.{has_rest_lem, slice_refused, slice_array, slice_skips, slice_tests}
use Rattle.pattern_leaves.proofs.modes.slice_test.Goals as goal

pub returns-then-not-is_check : goal.returns-then-not-is_check
returns-then-not-is_check c = slice_skips _ _ _ _ _ _ _ _ _ _ _ c.type_at.ensures c.from.ensures (sym c.in-Slice.is ∙ c.sequence_of.ensures) (sym c.is_check.ensures ∙ c.if-not-is_check.true) c.requires.ready.1

pub returns-in-Other : goal.returns-in-Other
returns-in-Other c = slice_refused _ _ _ _ _ _ _ _ _ _ _ c.type_at.ensures c.from.ensures (sym c.in-Other.is ∙ c.sequence_of.ensures)

pub returns-in-Array : goal.returns-in-Array
returns-in-Array c = slice_array _ _ _ _ _ _ _ _ _ _ _ c.type_at.ensures c.from.ensures (sym c.in-Array.is ∙ c.sequence_of.ensures) c.requires.ready.1

pub returns-else-not-is_check : goal.returns-else-not-is_check
returns-else-not-is_check c = slice_tests _ _ _ _ _ _ _ _ _ _ _ c.type_at.ensures c.from.ensures (sym c.in-Slice.is ∙ c.sequence_of.ensures) (sym c.is_check.ensures ∙ c.if-not-is_check.false) (has_rest_lem _ _) c.length_test.ensures
