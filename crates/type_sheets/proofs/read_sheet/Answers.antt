use borrow.Author.Rules.{rules}
use mathlib.Core.Path.{sym, ◌∙◌}
use borrow.Author.Tests.{not-true, not-false}
use Rattle.type_sheets.proofs.Frames.{known, unknown}
use Rattle.type_sheets.proofs.Reading.{no_frame, no_rows, shared_variant, no_patterns, types_hold, read}
use Rattle.type_sheets.proofs.read_sheet.Goals as goal

pub returns-in_err-tables : goal.returns-in_err-tables
returns-in_err-tables c = rw c.from_residual.ensures (no_frame _ (unknown _ (rw c.in_err-tables.was at c.read_sheet_frame.ensures)))

pub rows_hold-requires : goal.rows_hold-requires
rows_hold-requires c =
    let frame = known _ _ (rw c.in_ok-tables.was at c.read_sheet_frame.ensures) in
    (frame.whole, frame.list)

pub returns-then-not-rows_hold : goal.returns-then-not-rows_hold
returns-then-not-rows_hold c = no_rows _ (sym c.rows_hold.ensures ∙ c.if-not-rows_hold.true)

pub adts_apart-requires : goal.adts_apart-requires
adts_apart-requires c =
    let frame = known _ _ (rw c.in_ok-tables.was at c.read_sheet_frame.ensures) in
    (frame.whole, frame.variants, types_hold _ (sym c.rows_hold.ensures ∙ c.if-not-rows_hold.false))

pub returns-then-not-adts_apart : goal.returns-then-not-adts_apart
returns-then-not-adts_apart c = shared_variant _ (sym c.adts_apart.ensures ∙ c.if-not-adts_apart.true)

pub patterns_hold-requires : goal.patterns_hold-requires
patterns_hold-requires c =
    let frame = known _ _ (rw c.in_ok-tables.was at c.read_sheet_frame.ensures) in
    (frame.whole, frame.patterns, frame.list)

pub returns-then-not-patterns_hold : goal.returns-then-not-patterns_hold
returns-then-not-patterns_hold c = no_patterns _ (sym c.patterns_hold.ensures ∙ c.if-not-patterns_hold.true)

pub returns : goal.returns
returns c =
    let frame = known _ _ (rw c.in_ok-tables.was at c.read_sheet_frame.ensures) in
    read _ _ frame.same frame.holds (sym c.rows_hold.ensures ∙ c.if-not-rows_hold.false) (sym c.adts_apart.ensures ∙ c.if-not-adts_apart.false) (sym c.patterns_hold.ensures ∙ c.if-not-patterns_hold.false)
