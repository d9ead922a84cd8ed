use borrow.Author.Rules.{rules}
use native.Mathlib.Omega.{arith}
use mathlib.Core.Path.{refl, sym, ◌∙◌}
use borrow.Author.Tests.{not-true, not-false}
use Rattle.name_tables.proofs.Found.{serves_not, name_compared}
use Rattle.name_lookup.proofs.row_is_named.Goals as goal

pub name_row_at-row-requires : goal.name_row_at-row-requires
name_row_at-row-requires c = omega (arith, c.requires.0.rows, c.requires.1)

pub returns-then-not-row_serves : goal.returns-then-not-row_serves
returns-then-not-row_serves c = serves_not _ _ _ _ c.name_row_at-row.ensures (sym c.row_serves.ensures ∙ c.if-not-row_serves.true)

pub word_at-requires : goal.word_at-requires
word_at-requires c = omega (arith, c.requires.0.frame)

pub slice_bounds-is_same_word-end : goal.slice_bounds-is_same_word-end
slice_bounds-is_same_word-end c =
    let here = rw (← c.name_row_at-row.ensures) at (c.requires.0.each _ c.requires.1) in
    omega (arith, c.requires.0.rows, c.word_at.ensures)

pub returns : goal.returns
returns c = name_compared _ _ _ _ c.name_row_at-row.ensures (sym c.row_serves.ensures ∙ c.if-not-row_serves.false) (rw c.word_at.ensures) refl c.is_same_word.ensures
