use borrow.Author.Rules.{rules}
use borrow.Author.Tests.{ne_eqb}
use Rattle.type_parts.specs.Parts.{context_of, parts_of}
use Rattle.pattern_typing.specs.Contexts.{part_context}
use Rattle.part_contexts.proofs.part_context.Goals as goal

pub returns-in-0 : goal.returns-in-0
unfolding part_context parts_of context_of
returns-in-0 c = rw c.in-0.is

pub returns-in-1 : goal.returns-in-1
unfolding part_context parts_of context_of
returns-in-1 c = rw c.in-1.is

pub returns-in-2 : goal.returns-in-2
unfolding part_context parts_of
returns-in-2 c = rw c.in-2.is c.target_context.ensures

pub returns-in-3 : goal.returns-in-3
unfolding part_context parts_of
returns-in-3 c = rw c.in-3.is c.argument_context.ensures

pub returns-in-4 : goal.returns-in-4
unfolding part_context parts_of
returns-in-4 c = rw c.in-4.is c.item_context.ensures

pub returns-in-5 : goal.returns-in-5
unfolding part_context parts_of context_of
returns-in-5 c = rw c.in-5.is

pub returns-in_default : goal.returns-in_default
unfolding part_context parts_of
returns-in_default c = rw (ne_eqb _ 0 c.in_default.in_default-own.rest.0.0.0.0.0.1, ne_eqb _ 1 c.in_default.in_default-own.rest.0.0.0.0.1, ne_eqb _ 2 c.in_default.in_default-own.rest.0.0.0.1, ne_eqb _ 3 c.in_default.in_default-own.rest.0.0.1, ne_eqb _ 4 c.in_default.in_default-own.rest.0.1, ne_eqb _ 5 c.in_default.in_default-own.rest.1) c.field_context.ensures
