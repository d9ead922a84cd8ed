use mathlib.Core.Path.{◌≡◌}
use native.Mathlib.Omega.{arith}
use Prim.Native.Nat.{◌-◌}
use lib.ListN.{length, get_or}
use Rattle.pattern_words.proofs.Spelling.{number_start, number_on, number_bound, number_fits}
use Rattle.pattern_words.proofs.words.word_number.Goals as goal

pub loop-at-init : goal.loop-at-init
loop-at-init c = (omega arith, number_start c.args.word.now)

pub overflow_mul-number : goal.overflow_mul-number
overflow_mul-number c = let f = number_fits c.loop-at.number (length c.args.word.now) c.loop-at.at c.loop-at.invariant.1.1 c.loop-at-test.true c.loop-at.invariant.0 c.requires in omega (arith, f)

pub overflow_add-number : goal.overflow_add-number
overflow_add-number c = let f = number_fits c.loop-at.number (length c.args.word.now) c.loop-at.at c.loop-at.invariant.1.1 c.loop-at-test.true c.loop-at.invariant.0 c.requires in omega (arith, f, c.type_inv.word (c.loop-at.at - 1))

pub loop-at-preserved : goal.loop-at-preserved
loop-at-preserved c = let o = number_on c.args.word.now c.loop-at.at c.loop-at-test.true c.loop-at.invariant.0 in (omega (arith, c.loop-at.invariant.0), (omega (arith, o, c.loop-at.invariant.1.0), number_bound c.loop-at.number (get_or c.args.word.now (c.loop-at.at - 1) 0) (length c.args.word.now) c.loop-at.at c.loop-at.invariant.1.1 (omega (arith, c.type_inv.word (c.loop-at.at - 1))) c.loop-at-test.true c.loop-at.invariant.0))

pub returns : goal.returns
returns c =
    let none : c.loop-at.at ≡ 0 = omega (arith, c.loop-at-test.false) in
    rw none at c.loop-at.invariant.1.0
