use borrow.Author.Rules.{rules}
use mathlib.Core.Path.{sym}
use Rattle.draft_tables.proofs.Reading.{range_read}
use Rattle.draft_tables.proofs.added_name.Goals as goal

pub returns : goal.returns
returns c = sym (range_read c.args.draft.now c.args.b)
