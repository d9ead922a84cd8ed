use borrow.Enum.Refused.{opened}
use borrow.Author.Rules.{rules}
use Rattle.fit_types.proofs.Holding.{node_type}
use Rattle.image.specs.declared.kinds.PatKind.{PatKind}
use Rattle.fit_own.specs.Rows.{own_taken}
use Rattle.fit_own.proofs.Enums.{is_kind_lem}
use Rattle.fit_own.proofs.Wording.{row_is, binding_there}
use Rattle.fit_own.proofs.Defaults.{own_refused}
use Rattle.fit_own.proofs.own.own_taken.Goals as goal

pub tuple_taken-requires : goal.tuple_taken-requires
tuple_taken-requires c = row_is PatKind.Tuple c.in-Tuple.is c.requires.0

pub record_taken-requires : goal.record_taken-requires
record_taken-requires c = row_is PatKind.Record c.in-Record.is c.requires.0

pub slice_taken-requires : goal.slice_taken-requires
slice_taken-requires c = (row_is PatKind.Slice c.in-Slice.is c.requires.0, c.requires.1)

pub path_taken-requires : goal.path_taken-requires
path_taken-requires c = (c.requires.0.node.parent.sound, c.requires.0.node.parent.whole, node_type c.requires.0.node)

pub has_local-requires : goal.has_local-requires
has_local-requires c = binding_there c.args.bindings.now c.requires.0 c.requires.1 c.in-Bind.is

pub tuple_struct_taken-requires : goal.tuple_struct_taken-requires
tuple_struct_taken-requires c = row_is PatKind.TupleStruct c.in-TupleStruct.is c.requires.0

pub kind_of-requires : goal.kind_of-requires
kind_of-requires c = (c.requires.0.node.parent.sound, c.requires.0.node.parent.whole, node_type c.requires.0.node)

pub returns-in-Wild : goal.returns-in-Wild
unfolding own_taken
returns-in-Wild c = rw c.in-Wild.is

pub returns-in-Tuple : goal.returns-in-Tuple
unfolding own_taken
returns-in-Tuple c = rw c.in-Tuple.is c.tuple_taken.ensures

pub returns-in-Or : goal.returns-in-Or
unfolding own_taken
returns-in-Or c = rw c.in-Or.is

pub returns-in-Record : goal.returns-in-Record
unfolding own_taken
returns-in-Record c = rw c.in-Record.is c.record_taken.ensures

pub returns-in-Range : goal.returns-in-Range
unfolding own_taken
returns-in-Range c = rw c.in-Range.is

pub returns-in-Slice : goal.returns-in-Slice
unfolding own_taken
returns-in-Slice c = rw c.in-Slice.is c.slice_taken.ensures

pub returns-in-Path : goal.returns-in-Path
unfolding own_taken
returns-in-Path c = rw (c.in-Path.is, ← c.from.ensures) c.path_taken.ensures

pub returns-in-Lit : goal.returns-in-Lit
unfolding own_taken
returns-in-Lit c = rw c.in-Lit.is

pub returns-in-Bind : goal.returns-in-Bind
unfolding own_taken
returns-in-Bind c = rw c.in-Bind.is c.has_local.ensures

pub returns-in-TupleStruct : goal.returns-in-TupleStruct
unfolding own_taken
returns-in-TupleStruct c = rw c.in-TupleStruct.is c.tuple_struct_taken.ensures

pub returns-in-Ref : goal.returns-in-Ref
unfolding own_taken
returns-in-Ref c = rw c.in-Ref.is (is_kind_lem _ c.kind_of.ensures)

pub returns-in_default : goal.returns-in_default
returns-in_default c = own_refused _ _ _ _ c.in_default.in_default-own.keys12
