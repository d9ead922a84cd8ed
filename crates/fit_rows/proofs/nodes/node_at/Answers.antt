use borrow.Author.Rules.{rules}
use mathlib.Core.Path.{◌∙◌}
use native.Mathlib.Omega.{arith}
use Rattle.fit_rows.proofs.Ways.{node_is}
use Rattle.fit_rows.proofs.nodes.node_at.Goals as goal

pub pat_at-row-requires : goal.pat_at-row-requires
pat_at-row-requires c = (c.requires.1, omega (arith, c.requires.1.pattern_count_lem, c.requires.2))

pub node_by-requires : goal.node_by-requires
node_by-requires c = (c.requires.0, c.requires.1, c.requires.2, c.pat_at-row.ensures, c.from.ensures)

pub returns : goal.returns
returns c = c.node_by.ensures ∙ node_is _ _ c.pat_at-row.ensures c.from.ensures
