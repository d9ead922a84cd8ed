use borrow.Author.Rules.{rules}
use Rattle.fit_own.proofs.Wording.{local_read}
use Rattle.fit_own.proofs.parts.has_local.Goals as goal

pub returns : goal.returns
returns c = local_read c.args.bindings.now _ c.requires
