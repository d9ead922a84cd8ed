use borrow.Author.Rules.{rules}
use borrow.Author.Tests.{eq-eqb, ne_eqb}
use Rattle.type_parts.specs.Parts.{context_of}
use Rattle.pattern_typing.specs.Contexts.{target_context}
use Rattle.pattern_typing.specs.Crossing.{is_written_as}
use Rattle.part_targets.proofs.target_context.Goals as goal

pub returns-then-row-ne7 : goal.returns-then-row-ne7
unfolding target_context is_written_as context_of
returns-then-row-ne7 c = rw (← c.type_in-row.ensures, ne_eqb _ 7 c.if-row-ne7.true)

pub returns-then-row-eq1 : goal.returns-then-row-eq1
unfolding target_context is_written_as context_of
returns-then-row-eq1 c = rw (← c.type_in-row.ensures, eq-eqb _ 7 c.if-row-ne7.false, c.if-mutable.true, eq-eqb _ 1 c.if-row-eq1.true)

pub returns-then-mutable : goal.returns-then-mutable
unfolding target_context is_written_as context_of
returns-then-mutable c = rw (← c.type_in-row.ensures, eq-eqb _ 7 c.if-row-ne7.false, c.if-mutable.true, ne_eqb _ 1 c.if-row-eq1.false)

pub returns-then-row-ne1 : goal.returns-then-row-ne1
unfolding target_context is_written_as context_of
returns-then-row-ne1 c = rw (← c.type_in-row.ensures, eq-eqb _ 7 c.if-row-ne7.false, c.if-mutable.false, ne_eqb _ 1 c.if-row-ne1.true)

pub returns : goal.returns
unfolding target_context is_written_as context_of
returns c = rw (← c.type_in-row.ensures, eq-eqb _ 7 c.if-row-ne7.false, c.if-mutable.false, eq-eqb _ 1 c.if-row-ne1.false)
