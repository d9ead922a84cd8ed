use borrow.Author.Rules.{rules}
use mathlib.Core.Path.{◌∙◌}
use Rattle.image.specs.Tables.{tables_of, tables_by}
use Rattle.image.proofs.tables_of.Goals as goal

pub returns : goal.returns
unfolding tables_of
returns c =
    c.placed.ensures
    ∙ λ i. tables_by (c.word_at-types.ensures i) (c.word_at-variants.ensures i) (c.word_at-patterns.ensures i) (c.word_at-bindings.ensures i) (c.word_at-list.ensures i) (c.word_at-bytes.ensures i)
