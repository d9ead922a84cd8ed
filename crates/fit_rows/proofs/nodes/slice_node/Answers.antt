use borrow.Author.Rules.{rules}
use mathlib.Core.Path.{refl}
use native.Mathlib.Omega.{arith}
use Rattle.fit_rows.specs.Nodes.{node_by}
use Rattle.fit_rows.proofs.Known.{row_typed, slice_few, slice_rest}
use Rattle.fit_rows.proofs.nodes.slice_node.Goals as goal

pub overflow_add-items : goal.overflow_add-items
overflow_add-items c =
    let known = c.requires in
    let few = slice_few _ _ _ known.0 known.2 known.3 known.4 in
    omega (arith, few)

pub rest_own-requires : goal.rest_own-requires
rest_own-requires c =
    let known = c.requires in
    (known.1, row_typed _ _ _ known.0 known.2 known.3, slice_rest _ _ _ known.0 known.2 known.3 known.4)

pub returns : goal.returns
unfolding node_by
returns c = rw (c.rest_own.ensures, c.listed.ensures) refl
