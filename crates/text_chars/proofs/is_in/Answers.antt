use Rattle.text_chars.proofs.Loops.{any_member}
use Rattle.text_chars.proofs.is_in.Goals as goal

pub returns : goal.returns
returns c = cc (c.contains.ensures.value, any_member c.args.x c.args.table.now)
