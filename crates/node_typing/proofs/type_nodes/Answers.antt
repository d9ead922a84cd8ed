use borrow.Author.Rules.{rules}
use native.Mathlib.Omega.{arith}
use Rattle.name_tables.proofs.Ruled.{bytes_within}
use Rattle.node_typing.proofs.Typings.{root_waits, root_known, pattern_from}
use Rattle.node_typing.proofs.type_nodes.Goals as goal

pub type_rows-requires : goal.type_rows-requires
type_rows-requires c = (record { whole = c.requires.0; bytes = bytes_within _ _ c.requires.2; holds = c.requires.1 }, record { nodes_long = c.requires.5.nodes_long; makings_long = c.requires.5.makings_long; waiting_long = omega (arith, c.wait_for-first.auto, c.requires.5.waiting_long) }, c.requires.4, root_known _ c.args.waiting.now c.same_parts.ensures c.wait_for-first.ensures c.requires.3)

pub returns : goal.returns
returns c = pattern_from (root_waits c.args.sheet.now c.args.waiting.now c.same_parts.ensures c.wait_for-first.ensures) c.type_rows.ensures
