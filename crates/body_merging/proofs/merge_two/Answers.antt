use Rattle.refusals.proofs.Passing.{passed_none}
use borrow.Author.Rules.{rules}
use mathlib.Core.Path.{sym, ◌∙◌}
use Rattle.body_merging.proofs.Joining.{merge_full, merge_new}
use Rattle.body_merging.proofs.merge_two.Goals as goal

pub returns-in_err-c1 : goal.returns-in_err-c1
returns-in_err-c1 c = rw (passed_none _ _ _ _ c.from_residual.ensures.1 c.in_err-c1.ensures.ok_part c.in_err-c1.ensures.value) (merge_full _ _ _ _ (sym c.in_err-c1.ensures.ok_part ∙ c.new_basic_block.ensures))

pub returns : goal.returns
returns c = merge_new _ _ _ _ c.requires.1 c.requires.2 (sym c.in_ok-c1.ensures.ok_part ∙ c.new_basic_block.ensures) c.set_goto.ensures c.set_goto-2.ensures
