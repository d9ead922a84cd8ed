use borrow.Author.Rules.{rules}
use borrow.Author.Tests.{not-true, not-false}
use Rattle.fit_types.proofs.Holding.{node_type}
use Rattle.fit_own.proofs.Joining.{first_no, first_yes}
use Rattle.fit_own.proofs.own.tuple_struct_taken.Goals as goal

pub variant_taken-requires : goal.variant_taken-requires
variant_taken-requires c = (c.requires.node.parent.sound, c.requires.node.parent.whole, node_type c.requires.node)

pub returns-then-not-variant_taken : goal.returns-then-not-variant_taken
returns-then-not-variant_taken c = first_no c.variant_taken.ensures _ (c.if-not-variant_taken.true)

pub returns : goal.returns
returns c = first_yes c.variant_taken.ensures _ (c.if-not-variant_taken.false) c.ellipsis_within.ensures
