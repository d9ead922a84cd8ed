use borrow.Author.Rules.{rules}
use Rattle.fit_types.proofs.Holding.{node_type}
use Rattle.fit_own.proofs.Enums.{kind_other, kind_same}
use Rattle.fit_own.proofs.own.tuple_taken.Goals as goal

pub kind_of-requires : goal.kind_of-requires
kind_of-requires c = (c.requires.node.parent.sound, c.requires.node.parent.whole, node_type c.requires.node)

pub returns-then-kind_of-ne5 : goal.returns-then-kind_of-ne5
returns-then-kind_of-ne5 c = kind_other _ c.kind_of.ensures _ c.if-kind_of-ne5.true

pub returns : goal.returns
returns c = kind_same _ c.kind_of.ensures _ c.if-kind_of-ne5.false c.ellipsis_within.ensures
