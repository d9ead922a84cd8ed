use Prim.Native.Nat.{◌+◌, ◌-◌}
use mathlib.Core.Path.{◌≡◌}
use native.Mathlib.Omega.{arith}
use Rattle.marks.proofs.Takes.{continues_more, continues_refused, continues_end, up_from_before, up_from_none}
use Rattle.marks.proofs.take_range.Goals as goal

pub loop-x-init : goal.loop-x-init
loop-x-init c =
    let all : c.args.from + c.args.count - c.args.from ≡ c.args.count = omega arith in
    rw all (λ after r t. t)

pub returns-then-not-take : goal.returns-then-not-take
returns-then-not-take c = continues_refused _ (up_from_before _ _ (omega (arith, c.loop-x-test.true))) c.loop-x.invariant c.if-not-take.true c.take.ensures

pub loop-x-preserved : goal.loop-x-preserved
loop-x-preserved c = continues_more (up_from_before _ _ (omega (arith, c.loop-x-test.true))) c.loop-x.invariant c.if-not-take.false c.take.ensures

pub returns : goal.returns
returns c = continues_end (up_from_none _ _ (omega (arith, c.loop-x-test.false))) c.loop-x.invariant
