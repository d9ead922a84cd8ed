use borrow.Author.Rules.{rules}
use Rattle.body_scopes.proofs.Opening.{opens}
use Rattle.body_scopes.proofs.push_drop_scope.Goals as goal

pub returns : goal.returns
returns c = rw c.ok_or.ensures.value (opens _ _ c.push_scope.ensures.1 c.push_scope.result c.push_scope.ensures.0)
