use borrow.Author.Rules.{rules}
use mathlib.Core.Path.{◌∙◌}
use Rattle.row_tables.proofs.Loops.{cleared_to}
use Rattle.row_tables.proofs.clear_from.Goals as goal

pub clear_to-requires : goal.clear_to-requires
clear_to-requires c = (c.set_to-end.ensures.0, c.set_to-end.ensures.1.0)

pub returns : goal.returns
returns c =
    let end = c.set_to-end in
    let start = c in
    c.clear_to.ensures ∙ cleared_to c.args.table.now c.args.at end.result end.ensures.0 end.ensures.1
