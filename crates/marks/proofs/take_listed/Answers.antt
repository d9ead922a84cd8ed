use Prim.Native.Nat.{◌+◌, ◌*◌, ◌-◌}
use mathlib.Core.Path.{◌≡◌}
use native.Mathlib.Omega.{arith}
use Rattle.marks.proofs.Takes.{continues_more, continues_refused, continues_end, listed_at, listed_none, steps_within}
use Rattle.marks.proofs.take_listed.Goals as goal

pub loop-k-init : goal.loop-k-init
loop-k-init c =
    let none : c.args.from + c.args.step * 0 ≡ c.args.from = omega arith in
    let all : c.args.count - 0 ≡ c.args.count = omega arith in
    rw (none, all) (λ after r t. t)

pub overflow_mul-step : goal.overflow_mul-step
overflow_mul-step c = omega (arith, steps_within c.args.step c.loop-k.k c.args.count c.loop-k-test.true, c.requires)

pub overflow_add-from : goal.overflow_add-from
overflow_add-from c = omega (arith, steps_within c.args.step c.loop-k.k c.args.count c.loop-k-test.true, c.requires)

pub list_at-requires : goal.list_at-requires
list_at-requires c = (c.requires.0, omega (arith, steps_within c.args.step c.loop-k.k c.args.count c.loop-k-test.true, c.requires, c.requires.0.list_count_lem))

pub returns-then-not-take : goal.returns-then-not-take
returns-then-not-take c =
    let item = rw c.list_at.ensures at c.take.ensures in
    continues_refused _ (listed_at c.args.image.now c.args.step c.args.from c.args.count c.loop-k.k c.loop-k-test.true) c.loop-k.invariant c.if-not-take.true item

pub loop-k-preserved : goal.loop-k-preserved
loop-k-preserved c =
    let item = rw c.list_at.ensures at c.take.ensures in
    continues_more (listed_at c.args.image.now c.args.step c.args.from c.args.count c.loop-k.k c.loop-k-test.true) c.loop-k.invariant c.if-not-take.false item

pub returns : goal.returns
returns c = continues_end (listed_none _ _ _ _ (omega (arith, c.loop-k-test.false))) c.loop-k.invariant
