use borrow.Author.Rules.{rules}
use Rattle.draft_bindings.proofs.Binding.{mode_value, mode_reference}
use Rattle.draft_bindings.proofs.with_mode.Goals as goal

pub returns-then-mode-eq0 : goal.returns-then-mode-eq0
returns-then-mode-eq0 c =
    let s = c.args in
    mode_value s.sheet.now s.tables s.draft.now s.c s.mode s.t c.if-mode-eq0.true c.requires.1.1

pub returns : goal.returns
returns c =
    let s = c.args in
    mode_reference s.sheet.now s.tables s.draft.now s.c s.mode s.t c.reference_flag.result c.with_type.result _ c.if-mode-eq0.false c.reference_flag.ensures c.with_type.ensures
