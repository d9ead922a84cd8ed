use borrow.Author.Rules.{rules}
use Rattle.marks.proofs.Shapes.{pattern_shape, row_of_pattern}
use Rattle.image_marks.proofs.take_subpatterns.Goals as goal

pub take_row-requires : goal.take_row-requires
take_row-requires c =
    let known = c.requires in
    (known.0, known.2, pattern_shape _ _ c.pat_at-row.ensures c.from.ensures known.3, known.4)

pub returns : goal.returns
returns c = row_of_pattern _ _ c.pat_at-row.ensures c.from.ensures c.take_row.ensures
