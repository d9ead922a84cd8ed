use borrow.Author.Rules.{rules}
use Rattle.image_text.proofs.Printed.{printed, not_printed}
use Rattle.params_listing.proofs.list_params.Goals as goal

pub returns-then-done : goal.returns-then-done
returns-then-done c = printed c.put_params-done.ensures c.if-done.true

pub returns : goal.returns
returns c = not_printed c.put_params-done.ensures c.if-done.false
