use borrow.Author.Rules.{rules}
use Rattle.body_live_marks.proofs.Marking.{mark_looked}
use Rattle.body_live_marks.proofs.push_storage_live_for_local.Goals as goal

pub returns : goal.returns
returns c = mark_looked _ _ _ _ _ c.mark_live.result c.is_held-held.ensures c.mark_live.ensures
