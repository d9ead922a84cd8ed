use borrow.Author.Rules.{rules}
use mathlib.Core.Path.{◌∙◌}
use Rattle.typing_state.proofs.Stacks.{no_parent, no_part, last_part_lem}
use Rattle.type_parts.specs.Parts.{context_of}
use Rattle.typing_state.proofs.stack.next_context.Goals as goal

pub returns-then-depth-eq0 : goal.returns-then-depth-eq0
unfolding context_of
returns-then-depth-eq0 c = no_parent _ _ _ c.if-depth-eq0.true

pub returns-then-top-eq0 : goal.returns-then-top-eq0
unfolding context_of
returns-then-top-eq0 c = no_part _ _ _ c.if-depth-eq0.false c.waiting_at-top.ensures c.if-top-eq0.true

pub returns : goal.returns
returns c = c.part_context.ensures ∙ last_part_lem _ _ _ c.if-depth-eq0.false c.waiting_at-top.ensures c.if-top-eq0.false
