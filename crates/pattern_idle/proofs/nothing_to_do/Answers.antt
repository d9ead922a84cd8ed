use mathlib.Core.Path.{sym, ◌∙◌}
use Rattle.pattern_nodes.proofs.Known.{row_shape}
use Rattle.pattern_idle.proofs.Idling.{derefs_left, told_in_check, told_beyond}
use Rattle.pattern_idle.proofs.nothing_to_do.Goals as goal

pub pat_at-row-requires : goal.pat_at-row-requires
pat_at-row-requires c = (c.requires.1, rw c.requires.1.pattern_count_lem c.requires.2)

pub returns-then-row-ne0 : goal.returns-then-row-ne0
returns-then-row-ne0 c = rw (sym c.pat_at-row.ensures) (derefs_left _ _ c.pat_at-row.result c.if-row-ne0.true)

pub is_check-requires : goal.is_check-requires
is_check-requires c = tt

pub idle_in_check-requires : goal.idle_in_check-requires
idle_in_check-requires c = tt

pub returns-then-is_check : goal.returns-then-is_check
returns-then-is_check c = rw (sym c.pat_at-row.ensures) (told_in_check _ _ c.pat_at-row.result c.if-row-ne0.false c.from.ensures (sym c.is_check.ensures ∙ c.if-is_check.true) c.idle_in_check.ensures)

pub idle_beyond_check-requires : goal.idle_beyond_check-requires
idle_beyond_check-requires c = (c.requires.1, rw c.from-2.ensures (row_shape _ _ c.pat_at-row.result c.requires.0 c.requires.2 c.pat_at-row.ensures))

pub returns : goal.returns
returns c = rw (sym c.pat_at-row.ensures) (told_beyond _ _ c.pat_at-row.result c.if-row-ne0.false c.from-2.ensures (sym c.is_check.ensures ∙ c.if-is_check.false) c.idle_beyond_check.ensures)
