use borrow.Author.Rules.{rules}
use borrow.Author.Tests.{le-leb, lt-leb}
use mathlib.Core.Path.{sym, ◌∙◌}
use Rattle.type_parts.specs.Parts.{context_of}
use Rattle.pattern_typing.specs.Contexts.{argument_context}
use Rattle.part_arguments.proofs.argument_context.Goals as goal

pub returns-then-stands_before : goal.returns-then-stands_before
unfolding argument_context
returns-then-stands_before c = rw (sym c.stands_before.ensures ∙ c.if-stands_before.true) c.field_context.ensures

pub returns-then-at-parts : goal.returns-then-at-parts
unfolding argument_context context_of
returns-then-at-parts c = rw (sym c.stands_before.ensures ∙ c.if-stands_before.false, lt-leb _ _ c.if-at-parts.true)

pub returns : goal.returns
unfolding argument_context
returns c = rw (sym c.stands_before.ensures ∙ c.if-stands_before.false, le-leb _ _ c.if-at-parts.false) c.field_context-2.ensures
