use borrow.Author.Rules.{rules}
use mathlib.Core.Path.{sym}
use Rattle.draft_tables.proofs.Reading.{type_read}
use Rattle.draft_tables.proofs.added_type.Goals as goal

pub returns : goal.returns
returns c = sym (type_read c.args.draft.now c.args.i)
