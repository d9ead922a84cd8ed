use borrow.Author.Rules.{rules}
use Rattle.params_start.proofs.Starting.{body_started, counts_none, counts_one}
use Rattle.params_start.proofs.start_params.Goals as goal

pub returns-then-opened-eq0 : goal.returns-then-opened-eq0
returns-then-opened-eq0 c = (counts_none c.args.opened c.if-opened-eq0.true, body_started c.args.opened c.args.body.now (search (rules, c.well_formed)) c.clear_from.ensures)

pub returns : goal.returns
returns c = (counts_one c.args.opened c.if-opened-eq0.false, body_started c.args.opened c.args.body.now (search (rules, c.well_formed)) c.clear_from.ensures)
