use Rattle.refusals.proofs.Passing.{passed_none}
use Rattle.std.specs.Prelude.{Ok, Err}
use borrow.Author.Rules.{rules}
use mathlib.Core.Path.{sym, ◌∙◌}
use Rattle.pattern_switching.proofs.Branching.{then_else_made}
use Rattle.pattern_tests.proofs.Constants.{const_full, const_else_full, const_ends}
use Rattle.pattern_tests.proofs.consts.pattern_match_const.Goals as goal

pub returns-in_err-c1 : goal.returns-in_err-c1
returns-in_err-c1 c = rw (passed_none _ _ _ _ c.from_residual.ensures.1 c.in_err-c1.ensures.ok_part c.in_err-c1.ensures.value) (const_full _ _ _ _ _ _ _ _ (sym c.in_err-c1.ensures.ok_part ∙ c.new_basic_block.ensures))

pub returns-in_err-c2 : goal.returns-in_err-c2
returns-in_err-c2 c = rw (passed_none _ _ _ _ c.from_residual-in_err-c2.ensures.1 c.in_err-c2.ensures.ok_part c.in_err-c2.ensures.value) (const_else_full _ _ _ _ _ _ _ _ (sym c.in_ok-c1.ensures.ok_part ∙ c.new_basic_block.ensures) (sym c.in_err-c2.ensures.ok_part ∙ c.else_block.ensures))

pub compare-requires : goal.compare-requires
compare-requires c =
    let M = then_else_made (sym c.in_ok-c1.ensures.ok_part ∙ c.new_basic_block.ensures) (sym c.in_ok-c2.ensures.ok_part ∙ c.else_block.ensures) c.requires.1 c.requires.2 in
    (c.requires.0, M.0, M.1)

pub returns-in-Err : goal.returns-in-Err
returns-in-Err c = const_ends _ _ _ _ _ _ _ _ (sym c.in_ok-c1.ensures.ok_part ∙ c.new_basic_block.ensures) (Err _) (sym c.in_ok-c2.ensures.ok_part ∙ c.else_block.ensures) c.requires.1 c.requires.2 (rw c.in-Err.is at c.compare.ensures)

pub returns-in-Ok : goal.returns-in-Ok
returns-in-Ok c = const_ends _ _ _ _ _ _ _ _ (sym c.in_ok-c1.ensures.ok_part ∙ c.new_basic_block.ensures) (Ok _) (sym c.in_ok-c2.ensures.ok_part ∙ c.else_block.ensures) c.requires.1 c.requires.2 (rw c.in-Ok.is at c.compare.ensures)
