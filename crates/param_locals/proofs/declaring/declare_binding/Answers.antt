use Rattle.refusals.proofs.Passing.{passed_none}
use borrow.Author.Rules.{rules}
use mathlib.Core.Path.{refl, sym, ◌∙◌}
use native.Mathlib.Omega.{arith}
use Rattle.param_locals.proofs.Picking.{not_picked, has_local_lem, no_room, picked_now}
use Rattle.param_locals.proofs.declaring.declare_binding.Goals as goal

pub returns-then-row-ne1 : goal.returns-then-row-ne1
returns-then-row-ne1 c = not_picked _ _ _ c.binding_at-row.ensures c.if-row-ne1.true

pub returns-then-bindings-b : goal.returns-then-bindings-b
returns-then-bindings-b c = has_local_lem _ _ _ c.binding_at-row.ensures (omega (arith, c.requires.1, c.requires.2)) c.if-row-ne1.false c.if-bindings-b.true

pub returns-in_err-c1 : goal.returns-in_err-c1
returns-in_err-c1 c = rw (passed_none _ _ _ _ c.from_residual.ensures.1 c.in_err-c1.ensures.ok_part c.in_err-c1.ensures.value) (no_room _ _ _ c.binding_at-row.ensures (omega (arith, c.requires.1, c.requires.2)) c.if-row-ne1.false c.if-bindings-b.false c.new_local.ensures.1 (sym c.in_err-c1.ensures.ok_part ∙ c.new_local.ensures.0))

pub returns : goal.returns
returns c = picked_now _ _ _ c.binding_at-row.ensures (omega (arith, c.requires.1, c.requires.2)) c.if-row-ne1.false c.if-bindings-b.false c.new_local.ensures.1 (sym c.in_ok-c1.ensures.ok_part ∙ c.new_local.ensures.0) refl
