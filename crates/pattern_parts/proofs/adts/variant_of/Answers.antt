use borrow.Enum.Refused.{opened}
use borrow.Author.Rules.{rules}
use Rattle.place.proofs.Ranges.{before_range, past_range, in_range_lem}
use Rattle.pattern_parts.specs.Parts.{adt_taken, adt_has}
use Rattle.pattern_parts.proofs.Defaults.{not_taken}
use Rattle.pattern_parts.proofs.adts.variant_of.Goals as goal

pub returns-then-v-from : goal.returns-then-v-from
unfolding adt_has
returns-then-v-from c = rw (before_range _ _ _ c.if-v-from.true)

pub returns-then-count-v : goal.returns-then-count-v
unfolding adt_has
returns-then-count-v c = rw (past_range _ _ _ c.if-v-from.false c.if-count-v.true)

pub returns-in-Struct : goal.returns-in-Struct
unfolding adt_has adt_taken
returns-in-Struct c = rw (in_range_lem _ _ _ c.if-v-from.false c.if-count-v.false, c.in-Struct.is)

pub returns-in-Enum : goal.returns-in-Enum
unfolding adt_has adt_taken
returns-in-Enum c = rw (in_range_lem _ _ _ c.if-v-from.false c.if-count-v.false, c.in-Enum.is)

pub returns-in_default : goal.returns-in_default
unfolding adt_has
returns-in_default c = rw (in_range_lem _ _ _ c.if-v-from.false c.if-count-v.false) (not_taken _ c.in_default.in_default-own.keys3)
