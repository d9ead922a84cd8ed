use borrow.Author.Rules.{rules}
use Rattle.fit_rows.proofs.Ways.{rest_stands_lem, rest_apart}
use Rattle.fit_bindings.proofs.each.rest_agrees.Goals as goal

pub found-requires : goal.found-requires
found-requires c = c.requires

pub found-requires-in-Apart : goal.found-requires-in-Apart
found-requires-in-Apart c = c.requires

pub returns-in-Same : goal.returns-in-Same
returns-in-Same c = rw c.in-Same.is (rest_stands_lem _ _ _ _ c.found.ensures)

pub returns-in-Apart : goal.returns-in-Apart
returns-in-Apart c = rw c.in-Apart.is (rest_apart _ _ _ _ c.found-in-Apart.ensures)
