use Rattle.draft_types.proofs.Alike.{length_free, length_asked}
use Rattle.draft_types.proofs.same_length.Goals as goal

pub returns-then-row-eq7 : goal.returns-then-row-eq7
returns-then-row-eq7 c = length_free c.args.row.kind c.args.row.b c.args.other.b c.if-row-eq7.true

pub returns : goal.returns
returns c = length_asked c.args.row.kind c.args.row.b c.args.other.b c.if-row-eq7.false
