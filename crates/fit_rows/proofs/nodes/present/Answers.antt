use borrow.Author.Rules.{rules}
use mathlib.Core.Path.{◌∙◌}
use Rattle.fit_rows.proofs.Ways.{present_none, present_there}
use Rattle.fit_rows.proofs.nodes.present.Goals as goal

pub returns-then-p-eq65535 : goal.returns-then-p-eq65535
returns-then-p-eq65535 c = present_none _ _ c.if-p-eq65535.true

pub returns : goal.returns
returns c = c.one.ensures ∙ present_there _ _ c.if-p-eq65535.false
