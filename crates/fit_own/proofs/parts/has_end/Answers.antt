use Rattle.fit_own.proofs.Enums.{start_there, no_start}
use Rattle.fit_own.proofs.parts.has_end.Goals as goal

pub returns-then-start-ne65535 : goal.returns-then-start-ne65535
returns-then-start-ne65535 c = start_there _ c.args.end c.if-start-ne65535.true

pub returns : goal.returns
returns c = no_start _ c.args.end c.if-start-ne65535.false
