use Rattle.refusals.proofs.Passing.{passed_none}
use borrow.Author.Rules.{rules}
use mathlib.Core.Path.{sym, ◌∙◌}
use Rattle.pattern_switching.proofs.Forking.{switch_full, switch_else_full, switch_ends}
use Rattle.pattern_switching.proofs.then_switch.Goals as goal

pub returns-in_err-c1 : goal.returns-in_err-c1
returns-in_err-c1 c = rw (passed_none _ _ _ _ c.from_residual.ensures.1 c.in_err-c1.ensures.ok_part c.in_err-c1.ensures.value) (switch_full _ _ _ _ _ _ _ _ (sym c.in_err-c1.ensures.ok_part ∙ c.new_basic_block.ensures))

pub returns-in_err-c2 : goal.returns-in_err-c2
returns-in_err-c2 c = rw (passed_none _ _ _ _ c.from_residual-in_err-c2.ensures.1 c.in_err-c2.ensures.ok_part c.in_err-c2.ensures.value) (switch_else_full _ _ _ _ _ _ _ _ (sym c.in_ok-c1.ensures.ok_part ∙ c.new_basic_block.ensures) (sym c.in_err-c2.ensures.ok_part ∙ c.else_block.ensures))

pub returns : goal.returns
returns c = switch_ends _ _ _ _ _ _ _ _ (sym c.in_ok-c1.ensures.ok_part ∙ c.new_basic_block.ensures) (sym c.in_ok-c2.ensures.ok_part ∙ c.else_block.ensures) c.set_terminator.ensures c.requires.1
