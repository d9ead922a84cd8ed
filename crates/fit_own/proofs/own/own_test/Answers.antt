use borrow.Enum.Refused.{opened}
use borrow.Author.Rules.{rules}
use Rattle.fit_types.proofs.Holding.{node_type}
use Rattle.fit_own.specs.Rows.{own_test}
use Rattle.fit_own.proofs.Enums.{slice_tested}
use Rattle.fit_own.proofs.Nodes.{ends}
use Rattle.fit_own.proofs.Defaults.{own_sure}
use Rattle.fit_own.proofs.own.own_test.Goals as goal

pub is_enum-requires : goal.is_enum-requires
is_enum-requires c = (c.requires.node.parent.sound, c.requires.node.parent.whole, node_type c.requires.node)

pub kind_of-requires : goal.kind_of-requires
kind_of-requires c = (c.requires.node.parent.sound, c.requires.node.parent.whole, node_type c.requires.node)

pub path_fails-requires : goal.path_fails-requires
path_fails-requires c = (c.requires.node.parent.sound, c.requires.node.parent.whole, node_type c.requires.node)

pub is_enum-requires-in-TupleStruct : goal.is_enum-requires-in-TupleStruct
is_enum-requires-in-TupleStruct c = (c.requires.node.parent.sound, c.requires.node.parent.whole, node_type c.requires.node)

pub returns-in-Record : goal.returns-in-Record
unfolding own_test
returns-in-Record c = rw c.in-Record.is c.is_enum.ensures

pub returns-in-Range : goal.returns-in-Range
unfolding own_test
returns-in-Range c = rw c.in-Range.is (ends _ _ _ c.has_end.ensures)

pub returns-in-Slice : goal.returns-in-Slice
unfolding own_test
returns-in-Slice c = rw c.in-Slice.is (slice_tested _ c.kind_of.ensures)

pub returns-in-Path : goal.returns-in-Path
unfolding own_test
returns-in-Path c = rw (c.in-Path.is, ← c.from.ensures) c.path_fails.ensures

pub returns-in-Lit : goal.returns-in-Lit
unfolding own_test
returns-in-Lit c = rw c.in-Lit.is

pub returns-in-TupleStruct : goal.returns-in-TupleStruct
unfolding own_test
returns-in-TupleStruct c = rw c.in-TupleStruct.is c.is_enum-in-TupleStruct.ensures

pub returns-in_default : goal.returns-in_default
returns-in_default c = own_sure _ _ _ (opened c.in_default.in_default-own.keys7)
