use Rattle.refusals.proofs.Passing.{passed}
use Prim.Native.Nat.{◌+◌, ◌*◌}
use mathlib.Core.Path.{◌≡◌}
use native.Mathlib.Nat.{sub-zero}
use native.Mathlib.Omega.{arith}
use Rattle.std.proofs.Math.Nat.{sub-add-eq, sub-eq-zero_of_le}
use borrow.Author.Rules.{rules}
use Rattle.body_tables.specs.Layout.{body_of}
use Rattle.param_lists.proofs.Listing.{first_pattern, first_words}
use Rattle.param_locals.proofs.Making.{ParamsGoing, params_begin, params_end, param_stops, params_again, turns_left}
use Rattle.param_locals.proofs.declaring.declare_params.Goals as goal

pub loop-i-init : goal.loop-i-init
loop-i-init c = rw sub-zero (params_begin _ c.requires.0 c.requires.1)

pub declare_param-requires : goal.declare_param-requires
declare_param-requires c = (c.loop-i.invariant.declarable, first_pattern c.loop-i.invariant.listed (turns_left c.loop-i-test.true))

pub shape_of-bindings-in_err-c : goal.shape_of-bindings-in_err-c
shape_of-bindings-in_err-c c = omega (arith, c.declare_param.auto, c.loop-i.invariant.declarable.bindings, c.requires.0.bindings)

pub returns-in_err-c : goal.returns-in_err-c
returns-in_err-c c = rw (passed _ _ c.from_residual.ensures.1) (param_stops c.loop-i.invariant (turns_left c.loop-i-test.true) c.in_err-c.ensures)

pub loop-i-preserved : goal.loop-i-preserved
loop-i-preserved c =
    let on : 2 * (c.loop-i.i + 1) ≡ 2 * c.loop-i.i + 2 = omega arith in
    rw (on, sub-add-eq) (params_again c.loop-i.invariant (turns_left c.loop-i-test.true) (omega (arith, c.declare_param.auto)) c.in_ok-c.ensures)

pub shape_of-bindings : goal.shape_of-bindings
shape_of-bindings c = omega (arith, c.loop-i.invariant.declarable.bindings, c.requires.0.bindings)

pub returns : goal.returns
returns c = params_end c.loop-i.invariant (sub-eq-zero_of_le c.loop-i-test.false)
