use borrow.Author.Rules.{rules}
use mathlib.Core.Path.{sym, ◌∙◌}
use borrow.Author.Tests.{not-true, not-false}
use Rattle.param_lists.proofs.Apart.{list_unformed, list_apart}
use Rattle.param_lists.proofs.list_holds.Goals as goal

pub returns-then-not-list_formed : goal.returns-then-not-list_formed
returns-then-not-list_formed c = list_unformed _ _ _ c.list_formed.ensures (c.if-not-list_formed.true)

pub receiver_apart-requires : goal.receiver_apart-requires
receiver_apart-requires c = (c.requires, sym c.list_formed.ensures ∙ c.if-not-list_formed.false)

pub returns : goal.returns
returns c = list_apart _ _ _ (sym c.list_formed.ensures ∙ c.if-not-list_formed.false) c.receiver_apart.ensures
