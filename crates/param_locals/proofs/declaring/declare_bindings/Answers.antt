use Rattle.refusals.proofs.Passing.{passed}
use Rattle.std.specs.Prelude.{Err}
use native.Mathlib.Nat.{sub-zero}
use native.Mathlib.Omega.{arith}
use Rattle.std.proofs.Math.Nat.{sub-add-eq, sub-eq-zero_of_le}
use Rattle.param_locals.proofs.Making.{turns_left}
use borrow.Author.Rules.{rules}
use Rattle.body_tables.specs.Layout.{body_of}
use Rattle.param_locals.proofs.Picking.{BindingsGoing, bindings_begin, bindings_end, binding_there, binding_stops, bindings_again}
use Rattle.param_locals.proofs.declaring.declare_bindings.Goals as goal

pub loop-b-init : goal.loop-b-init
loop-b-init c = rw sub-zero (bindings_begin _ c.requires.0.binding_count_lem c.requires.1)

pub declare_binding-requires : goal.declare_binding-requires
declare_binding-requires c = (c.requires.0, c.loop-b.invariant.words, binding_there c.loop-b.invariant (turns_left c.loop-b-test.true))

pub shape_of-bindings-in_err-c : goal.shape_of-bindings-in_err-c
shape_of-bindings-in_err-c c = omega (arith, c.declare_binding.auto, c.loop-b.invariant.words, c.requires.1)

pub returns-in_err-c : goal.returns-in_err-c
returns-in_err-c c = rw (passed _ _ c.from_residual.ensures.1) (binding_stops c.loop-b.invariant (turns_left c.loop-b-test.true) c.in_err-c.ensures)

pub loop-b-preserved : goal.loop-b-preserved
loop-b-preserved c = rw sub-add-eq (bindings_again c.loop-b.invariant (turns_left c.loop-b-test.true) (omega (arith, c.declare_binding.auto)) c.in_ok-c.ensures)

pub shape_of-bindings : goal.shape_of-bindings
shape_of-bindings c = omega (arith, c.loop-b.invariant.words, c.requires.1)

pub returns : goal.returns
returns c = bindings_end c.loop-b.invariant (sub-eq-zero_of_le c.loop-b-test.false)
