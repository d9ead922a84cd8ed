use borrow.Enum.Refused.{opened}
use borrow.Author.Rules.{rules}
use Rattle.image.specs.Patterns.{pattern_shape_holds}
use Rattle.pattern_rules.proofs.Defaults.{names_nothing_lem}
use Rattle.pattern_rules.proofs.patterns.pattern_shape_holds.Goals as goal

pub returns-in-Tuple : goal.returns-in-Tuple
unfolding pattern_shape_holds
returns-in-Tuple c = rw (c.in-Tuple.is, ← c.requires.list_count_lem) c.in_table.ensures

pub returns-in-Or : goal.returns-in-Or
unfolding pattern_shape_holds
returns-in-Or c = rw (c.in-Or.is, ← c.requires.list_count_lem) c.in_table-in-Or.ensures

pub returns-in-Record : goal.returns-in-Record
returns-in-Record c = rw c.in-Record.is c.record_holds.ensures

pub returns-in-Range : goal.returns-in-Range
returns-in-Range c = rw c.in-Range.is c.range_holds.ensures

pub returns-in-Slice : goal.returns-in-Slice
unfolding pattern_shape_holds
returns-in-Slice c = rw (c.in-Slice.is, ← c.requires.list_count_lem) c.in_table-in-Slice.ensures

pub returns-in-Path : goal.returns-in-Path
unfolding pattern_shape_holds
returns-in-Path c = rw (c.in-Path.is, ← c.from.ensures) c.path_holds.ensures

pub returns-in-Lit : goal.returns-in-Lit
unfolding pattern_shape_holds
returns-in-Lit c = rw c.in-Lit.is c.operand_holds.ensures

pub returns-in-Bind : goal.returns-in-Bind
returns-in-Bind c = rw c.in-Bind.is c.bind_holds.ensures

pub returns-in-TupleStruct : goal.returns-in-TupleStruct
returns-in-TupleStruct c = rw c.in-TupleStruct.is c.tuple_struct_holds.ensures

pub returns-in-Unknown : goal.returns-in-Unknown
unfolding pattern_shape_holds
returns-in-Unknown c = rw c.in-Unknown.is

pub returns-in_default : goal.returns-in_default
returns-in_default c = names_nothing_lem _ _ _ c.in_default.in_default-own.keys11
