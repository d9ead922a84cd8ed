use Rattle.pattern_entering.proofs.Visiting.{visit_counted, visit_full}
use Rattle.pattern_entering.proofs.visit.Goals as goal

pub returns-then-n-lt65535 : goal.returns-then-n-lt65535
returns-then-n-lt65535 c = visit_counted c.args.visits.now c.args.p.0 c.if-n-lt65535.true

pub returns-else-n-lt65535 : goal.returns-else-n-lt65535
returns-else-n-lt65535 c = visit_full c.args.visits.now c.args.p.0 c.if-n-lt65535.false
