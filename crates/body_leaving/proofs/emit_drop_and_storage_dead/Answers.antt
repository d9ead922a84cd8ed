use Rattle.refusals.proofs.Passing.{passed_none}
use borrow.Author.Rules.{rules}
use mathlib.Core.Path.{sym, ap, ◌∙◌}
use native.Mathlib.Omega.{arith}
use Rattle.drop_scopes_spec.specs.Dropping.{is_copy}
use Rattle.body_leaving.proofs.Making.{made_block, next_below}
use Rattle.body_leaving.proofs.Departing.{copy_leaves, no_room_leaves, drop_leaves}
use Rattle.body_leaving.proofs.emit_drop_and_storage_dead.Goals as goal

pub returns-then-is_copy : goal.returns-then-is_copy
returns-then-is_copy c = copy_leaves _ _ _ _ _ c.requires.locals_bound.2 (sym (c.is_copy.ensures ∙ ap (is_copy _) c.local_word-word.ensures) ∙ c.if-is_copy.true) c.mark_dead.ensures

pub returns-in_err-c1 : goal.returns-in_err-c1
returns-in_err-c1 c = rw (passed_none _ _ _ _ c.from_residual.ensures.1 c.in_err-c1.ensures.ok_part c.in_err-c1.ensures.value) (no_room_leaves _ _ _ _ _ c.requires.locals_bound.2 (sym (c.is_copy.ensures ∙ ap (is_copy _) c.local_word-word.ensures) ∙ c.if-is_copy.false) (rw c.in_err-c1.ensures.ok_part at c.new_basic_block.ensures))

pub set_terminator-requires : goal.set_terminator-requires
set_terminator-requires c = (search rules, omega (arith, c.requires.locals_bound, (made_block _ _ _ (rw c.in_ok-c1.ensures.ok_part at c.new_basic_block.ensures)).0))

pub mark_dead-requires-2 : goal.mark_dead-requires-2
mark_dead-requires-2 c = next_below _ _ _ (rw c.in_ok-c1.ensures.ok_part at c.new_basic_block.ensures)

pub returns : goal.returns
returns c = drop_leaves _ _ _ _ _ c.requires.locals_bound.2 (sym (c.is_copy.ensures ∙ ap (is_copy _) c.local_word-word.ensures) ∙ c.if-is_copy.false) c.requires.locals_bound.1 (rw c.in_ok-c1.ensures.ok_part at c.new_basic_block.ensures) c.set_terminator.ensures c.mark_dead-2.ensures
