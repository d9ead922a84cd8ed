use Rattle.draft_types.proofs.Alike.{flag_set, flag_clear}
use Rattle.draft_types.proofs.same_flag.Goals as goal

pub returns-then-flag-eq1 : goal.returns-then-flag-eq1
returns-then-flag-eq1 c = flag_set c.args.flag c.args.other c.if-flag-eq1.true

pub returns : goal.returns
returns c = flag_clear c.args.flag c.args.other c.if-flag-eq1.false
