use borrow.Author.Rules.{rules}
use mathlib.Core.Path.{ap, ◌∙◌}
use Rattle.fit_rows.specs.Nodes.{plain}
use Rattle.fit_rows.proofs.nodes.no_subpatterns.Goals as goal

pub returns : goal.returns
returns c = c.no_binding.ensures ∙ ap plain c.listed.ensures
