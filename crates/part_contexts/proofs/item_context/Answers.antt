use borrow.Author.Rules.{rules}
use borrow.Author.Tests.{eq-eqb, ne_eqb}
use mathlib.Core.Path.{sym, ◌∙◌}
use Rattle.type_parts.specs.Parts.{context_of}
use Rattle.pattern_typing.specs.Contexts.{item_context}
use Rattle.part_contexts.proofs.item_context.Goals as goal

pub returns-then-is_rest_item : goal.returns-then-is_rest_item
unfolding item_context context_of
returns-then-is_rest_item c = rw (sym c.is_rest_item.ensures ∙ c.if-is_rest_item.true, c.one_less-others.ensures)

pub returns-then-row-eq8 : goal.returns-then-row-eq8
unfolding item_context context_of
returns-then-row-eq8 c = rw (sym c.is_rest_item.ensures ∙ c.if-is_rest_item.false, ← c.type_in-row.ensures, eq-eqb _ 8 c.if-row-eq8.true)

pub returns-then-row-eq9 : goal.returns-then-row-eq9
unfolding item_context context_of
returns-then-row-eq9 c = rw (sym c.is_rest_item.ensures ∙ c.if-is_rest_item.false, ← c.type_in-row.ensures, ne_eqb _ 8 c.if-row-eq8.false, eq-eqb _ 9 c.if-row-eq9.true)

pub returns : goal.returns
unfolding item_context context_of
returns c = rw (sym c.is_rest_item.ensures ∙ c.if-is_rest_item.false, ← c.type_in-row.ensures, ne_eqb _ 8 c.if-row-eq8.false, ne_eqb _ 9 c.if-row-eq9.false)
