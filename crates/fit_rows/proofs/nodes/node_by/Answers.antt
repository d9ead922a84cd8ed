use borrow.Enum.Refused.{opened}
use borrow.Author.Rules.{rules}
use mathlib.Core.Path.{ap, sym, ◌∙◌}
use native.Mathlib.Omega.{arith}
use Rattle.fit_rows.specs.Nodes.{plain, alternatives_node, node_by}
use Rattle.fit_rows.proofs.Known.{record_place}
use Rattle.fit_rows.proofs.Defaults.{node_bare}
use Rattle.fit_rows.proofs.nodes.node_by.Goals as goal

pub overflow_add-row : goal.overflow_add-row
overflow_add-row c =
    let known = c.requires in
    let small = record_place _ _ _ known.0 known.2 known.3 (sym known.4 ∙ c.in-Record.is) in
    omega (arith, small)

pub slice_node-requires : goal.slice_node-requires
slice_node-requires c =
    let known = c.requires in
    (known.0, known.1, known.2, known.3, sym known.4 ∙ c.in-Slice.is)

pub returns-in-Tuple : goal.returns-in-Tuple
unfolding node_by
returns-in-Tuple c = rw c.in-Tuple.is (c.no_binding.ensures ∙ ap plain c.listed.ensures)

pub returns-in-Or : goal.returns-in-Or
unfolding node_by
returns-in-Or c = rw c.in-Or.is (c.alternatives.ensures ∙ ap alternatives_node c.listed-in-Or.ensures)

pub returns-in-Record : goal.returns-in-Record
unfolding node_by
returns-in-Record c = rw c.in-Record.is (c.no_binding-in-Record.ensures ∙ ap plain c.listed-in-Record.ensures)

pub returns-in-Slice : goal.returns-in-Slice
unfolding node_by
returns-in-Slice c = rw c.in-Slice.is c.slice_node.ensures

pub returns-in-Bind : goal.returns-in-Bind
unfolding node_by
returns-in-Bind c = rw c.in-Bind.is c.bind_node.ensures

pub returns-in-TupleStruct : goal.returns-in-TupleStruct
unfolding node_by
returns-in-TupleStruct c = rw c.in-TupleStruct.is (c.no_binding-in-TupleStruct.ensures ∙ ap plain c.listed-in-TupleStruct.ensures)

pub returns-in-Ref : goal.returns-in-Ref
unfolding node_by
returns-in-Ref c = rw c.in-Ref.is (c.no_binding-in-Ref.ensures ∙ ap plain c.one.ensures)

pub returns-in_default : goal.returns-in_default
returns-in_default c = c.no_subpatterns.ensures ∙ node_bare _ _ _ _ (opened c.in_default.in_default-own.keys8)
