use Rattle.fit_own.proofs.Wording.{no_ellipsis, some_ellipsis}
use Rattle.fit_own.proofs.parts.ellipsis_within.Goals as goal

pub returns-then-ellipsis-eq65535 : goal.returns-then-ellipsis-eq65535
returns-then-ellipsis-eq65535 c = no_ellipsis _ _ c.if-ellipsis-eq65535.true

pub returns : goal.returns
returns c = some_ellipsis _ _ c.if-ellipsis-eq65535.false
