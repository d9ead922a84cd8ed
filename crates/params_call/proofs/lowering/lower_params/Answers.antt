use Prim.Native.Nat.{◌+◌, ◌*◌}
use mathlib.Core.Path.{◌≡◌}
use native.Mathlib.Nat.{sub-zero}
use native.Mathlib.Omega.{arith}
use Rattle.std.proofs.Math.Nat.{sub-add-eq, sub-eq-zero_of_le}
use borrow.Author.Rules.{rules}
use Rattle.refusals.proofs.Passing.{passed}
use Rattle.body_tables.specs.Layout.{body_of}
use Rattle.param_lists.proofs.Listing.{first_pattern, first_words}
use Rattle.param_locals.proofs.Making.{turns_left}
use Rattle.params_laws.proofs.Lowering.{ParamsGoing, params_begin, params_end, param_walkable, local_small, param_stops, params_again}
use Rattle.params_call.proofs.lowering.lower_params.Goals as goal

pub loop-i-init : goal.loop-i-init
loop-i-init c = rw sub-zero (params_begin c.requires)

pub lower_param-requires : goal.lower_param-requires
lower_param-requires c =
    let left = turns_left c.loop-i-test.true in
    (param_walkable c.loop-i.invariant left c.requires.image_valid c.requires.whole c.requires.locals_of_bindings, first_pattern c.loop-i.invariant.listed left)

pub returns-in_err-c1 : goal.returns-in_err-c1
returns-in_err-c1 c = rw (passed _ _ c.from_residual.ensures.1) (param_stops c.loop-i.invariant (turns_left c.loop-i-test.true) c.in_err-c1.ensures)

pub next_local-l-requires : goal.next_local-l-requires
next_local-l-requires c = omega (arith, local_small c.loop-i.invariant (turns_left c.loop-i-test.true))

pub loop-i-preserved : goal.loop-i-preserved
loop-i-preserved c =
    let on : 2 * (c.loop-i.i + 1) ≡ 2 * c.loop-i.i + 2 = omega arith in
    rw (on, sub-add-eq, c.next_local-l.ensures) (params_again c.loop-i.invariant (turns_left c.loop-i-test.true) c.in_ok-c1.ensures)

pub returns : goal.returns
returns c = params_end c.loop-i.invariant (sub-eq-zero_of_le c.loop-i-test.false)
