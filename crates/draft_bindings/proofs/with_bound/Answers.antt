use borrow.Author.Rules.{rules}
use Rattle.draft_bindings.proofs.Binding.{bound_type_lem, bound_array}
use Rattle.draft_bindings.proofs.with_bound.Goals as goal

pub returns-then-at-eq65535 : goal.returns-then-at-eq65535
returns-then-at-eq65535 c =
    let s = c.args in
    bound_type_lem s.sheet.now s.tables s.draft.now s.c s.at c.if-at-eq65535.true c.requires.1.1

pub returns : goal.returns
returns c =
    let s = c.args in
    bound_array s.sheet.now s.tables s.draft.now s.c s.at c.with_type.result _ c.if-at-eq65535.false c.with_type.ensures
