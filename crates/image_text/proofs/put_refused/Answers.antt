use borrow.Author.Rules.{rules}
use Rattle.image_text.proofs.Printed.{wrote_as, refusal_numbers}
use Rattle.image_text.proofs.put_refused.Goals as goal

pub returns : goal.returns
returns c = wrote_as (refusal_numbers c.args.e c.args.p.0 c.number_of.ensures c.reason_of.ensures) c.put_refusal.ensures
