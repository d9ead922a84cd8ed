use borrow.Author.Tests.{not-true, not-false}
use Rattle.fit_types.proofs.Holding.{node_type, record_variant, record_pairs}
use Rattle.fit_own.proofs.Joining.{first_no, first_yes}
use Rattle.fit_own.proofs.Wording.{fields_counted}
use Rattle.fit_own.proofs.own.record_taken.Goals as goal

pub variant_taken-requires : goal.variant_taken-requires
variant_taken-requires c = (c.requires.node.parent.sound, c.requires.node.parent.whole, node_type c.requires.node)

pub returns-then-not-variant_taken : goal.returns-then-not-variant_taken
returns-then-not-variant_taken c = first_no c.variant_taken.ensures _ (c.if-not-variant_taken.true)

pub variant_fields-fields-requires : goal.variant_fields-fields-requires
variant_fields-fields-requires c = (c.requires.node.parent.sound, c.requires.node.parent.whole, node_type c.requires.node, record_variant c.requires.node)

pub fields_there-requires : goal.fields_there-requires
fields_there-requires c = (c.requires.node.parent.whole, (record_pairs c.requires.node).within)

pub returns : goal.returns
returns c = first_yes c.variant_taken.ensures _ (c.if-not-variant_taken.false) (fields_counted _ c.variant_fields-fields.ensures c.fields_there.ensures)
