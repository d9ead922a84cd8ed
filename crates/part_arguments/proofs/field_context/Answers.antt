use borrow.Author.Rules.{rules}
use borrow.Author.Tests.{lt-ltb, le-ltb}
use Rattle.type_parts.specs.Parts.{context_of}
use Rattle.pattern_typing.specs.Contexts.{field_context}
use Rattle.part_arguments.proofs.field_context.Goals as goal

pub returns-then-fields-i : goal.returns-then-fields-i
unfolding field_context context_of
returns-then-fields-i c = rw (le-ltb _ _ c.if-fields-i.true)

pub returns : goal.returns
unfolding field_context context_of
returns c = rw (lt-ltb _ _ c.if-fields-i.false, c.listed_in-ty.ensures)
