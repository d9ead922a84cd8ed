use borrow.Author.Rules.{rules}
use Rattle.body_temps.proofs.Temporaries.{no_type_lem, slice_kind}
use Rattle.body_temps.proofs.is_slice.Goals as goal

pub returns-then-tables-word : goal.returns-then-tables-word
returns-then-tables-word c = no_type_lem _ _ _ c.requires.type_count_lem c.if-tables-word.true

pub returns : goal.returns
returns c = slice_kind _ _ _ c.requires.type_count_lem c.if-tables-word.false c.type_at.ensures
