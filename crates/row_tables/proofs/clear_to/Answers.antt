use Rattle.row_tables.proofs.Loops.{put_zeros}
use Rattle.row_tables.proofs.clear_to.Goals as goal

pub returns : goal.returns
returns c = put_zeros c.args.table.now c.args.from c.args.to c.requires.1 _ (c.fill.ensures.after (λ y e. e))
