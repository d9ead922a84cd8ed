use borrow.Author.Rules.{rules}
use mathlib.Core.Path.{◌∙◌}
use Rattle.text_chars.specs.Scalars.{scalar_from, scalar_of}
use Rattle.text_chars.proofs.scalar_of.Goals as goal

pub returns : goal.returns
unfolding scalar_of
returns c =
    c.scalar_from.ensures
    ∙ λ i. scalar_from ((c.wide-a.ensures ∙ c.byte_of.ensures) i) ((c.wide-b.ensures ∙ c.byte_of-2.ensures) i) ((c.wide-c.ensures ∙ c.byte_of-3.ensures) i) ((c.wide-d.ensures ∙ c.byte_of-4.ensures) i)
