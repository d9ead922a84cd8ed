use Rattle.fit_types.proofs.Holding.{node_type, slice_rest}
use Rattle.fit_own.proofs.Enums.{kind_below, kind_above}
use Rattle.fit_own.proofs.own.slice_taken.Goals as goal

pub kind_of-requires : goal.kind_of-requires
kind_of-requires c = (c.requires.0.node.parent.sound, c.requires.0.node.parent.whole, node_type c.requires.0.node)

pub returns-then-kind_of-lt8 : goal.returns-then-kind_of-lt8
returns-then-kind_of-lt8 c = kind_below _ c.kind_of.ensures _ c.if-kind_of-lt8.true

pub rest_taken-requires : goal.rest_taken-requires
rest_taken-requires c = (c.requires.0.node.parent.sound, c.requires.0.node.parent.whole, slice_rest c.requires.0.node, c.requires.1)

pub returns : goal.returns
returns c = kind_above _ c.kind_of.ensures _ c.if-kind_of-lt8.false c.rest_taken.ensures
