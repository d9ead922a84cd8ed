use borrow.Author.Rules.{rules}
use native.Mathlib.Omega.{arith}
use Rattle.draft_bindings.specs.Bindings.{bound_at_of}
use Rattle.draft_bindings.proofs.Binding.{past_bound, past_mode, past_bindings, binding_within, binding_held}
use Rattle.draft_bindings.proofs.new_binding.Goals as goal

pub returns-in_err-bound : goal.returns-in_err-bound
returns-in_err-bound c = rw c.from_residual.ensures (let s = c.args in
    past_bound s.sheet.now s.tables s.draft.now s.c s.mode s.from s.to (bound_at_of s.at) (rw c.in_err-bound.was at c.with_bound.ensures))

pub with_mode-requires : goal.with_mode-requires
with_mode-requires c = (c.requires.0, (omega (arith, c.with_bound.auto, c.requires.1.0), (rw c.in_ok-bound.was at c.with_bound.ensures).room))

pub returns-in_err-held : goal.returns-in_err-held
returns-in_err-held c = rw c.from_residual-in_err-held.ensures (let s = c.args in
    past_mode s.sheet.now s.tables s.draft.now s.c s.mode s.from s.to (bound_at_of s.at) c.in_ok-bound.bound c.in_ok-bound.first _ (rw c.in_ok-bound.was at c.with_bound.ensures) (rw c.in_err-held.was at c.with_mode.ensures))

pub overflow_add-tables : goal.overflow_add-tables
overflow_add-tables c = omega (arith, (rw c.in_ok-held.was at c.with_mode.ensures).room.bindings)

pub returns-then-tables-second-ge256 : goal.returns-then-tables-second-ge256
returns-then-tables-second-ge256 c =
    let s = c.args in
    past_bindings s.sheet.now s.tables s.draft.now s.c s.mode s.from s.to (bound_at_of s.at) c.in_ok-bound.bound c.in_ok-bound.first _ (rw c.in_ok-bound.was at c.with_bound.ensures) c.in_ok-held.held c.in_ok-held.second _ (rw c.in_ok-held.was at c.with_mode.ensures) c.requires.0 c.if-tables-second-ge256.true

pub push_binding-requires : goal.push_binding-requires
push_binding-requires c =
    let s = c.args in
    (omega (arith, c.with_mode.auto, c.with_bound.auto, c.requires.1.0), binding_within s.sheet.now s.tables s.draft.now s.c s.mode s.from s.to (bound_at_of s.at) c.in_ok-bound.bound c.in_ok-bound.first _ (rw c.in_ok-bound.was at c.with_bound.ensures) c.in_ok-held.held c.in_ok-held.second _ (rw c.in_ok-held.was at c.with_mode.ensures) (omega (arith, c.if-tables-second-ge256.false)))

pub shape_of-draft : goal.shape_of-draft
shape_of-draft c = omega (arith, c.push_binding.auto, c.with_mode.auto, c.with_bound.auto)

pub returns : goal.returns
returns c =
    let s = c.args in
    binding_held s.sheet.now s.tables s.draft.now s.c s.mode s.from s.to (bound_at_of s.at) c.in_ok-bound.bound c.in_ok-bound.first _ (rw c.in_ok-bound.was at c.with_bound.ensures) c.in_ok-held.held c.in_ok-held.second _ (rw c.in_ok-held.was at c.with_mode.ensures) c.push_binding.result _ (omega (arith, c.if-tables-second-ge256.false)) c.push_binding.ensures.0 c.push_binding.ensures.1
