use mathlib.Core.Path.{◌≡◌, sym, ◌∙◌, ap, refl}
use mathlib.Core.Bool.{Bool, true, false}
use mathlib.Core.List.{List}
use native.Mathlib.Omega.{arith}
use Prim.Native.Nat.{ℕ, ◌+◌, ◌-◌, ◌*◌, ◌^◌, ◌<◌, ◌≤◌}
use lib.Dec.{ltb}
use lib.ListN.{length, take, drop, get_or}
use borrow.Author.Tests.{ltb-true, ltb-false}
use Rattle.std.specs.Prelude.{min}
use Rattle.std.proofs.Math.Nat.{min-le_left, min-le_right, le-min}
use Rattle.pattern_words.proofs.Spelling.{digit_true}
use Rattle.decimal_values.specs.Values.{decimal_from, integer_value}
use Rattle.decimal_values.proofs.Digits.{decimal_on, decimal_over, decimal_end, halves, too_long, carried}
use Rattle.decimal_values.proofs.integer_value.Goals as goal

module _ (text : List ℕ) (at to v : ℕ) where
  -- a position before the lesser of two ends is before both
  decimal_within : (end : ℕ) → end ≡ min to (length text) → at < end → (at < to) × (at < length text)
  decimal_within end e h =
      let l = min-le_left to (length text) in
      let r = min-le_right to (length text) in
      (omega (arith, e, h, l), omega (arith, e, h, r))

  -- and at the lesser end nothing is left
  decimal_done : (end : ℕ) → end ≡ min to (length text) → end ≤ at → decimal_from v (take (to - at) (drop at text)) ≡ v
  decimal_done end e h = go (ltb at to) refl
    where
      go : (t : Bool) → ltb at to ≡ t → decimal_from v (take (to - at) (drop at text)) ≡ v
      go true s = go2 (ltb at (length text)) refl
        where
          go2 : (t : Bool) → ltb at (length text) ≡ t → decimal_from v (take (to - at) (drop at text)) ≡ v
          go2 true n = let k = le-min (ltb-true at to s) (ltb-true at (length text) n) in absurd (omega (arith, k, e, h))
          go2 false n = decimal_over text at to v (ltb-false at (length text) n)
      go false s = decimal_end text at to v (ltb-false at to s)

pub loop-at-preserved-then-not-is_digit : goal.loop-at-preserved-then-not-is_digit
loop-at-preserved-then-not-is_digit c = (c.loop-at.invariant.0, sym (decimal_on c.args.text.now c.loop-at.at c.args.to (c.loop-at.high * 2 ^ 64 + c.loop-at.low) (decimal_within c.args.text.now c.loop-at.at c.args.to (c.loop-at.high * 2 ^ 64 + c.loop-at.low) c.min-at-end.result c.min-at-end.ensures c.loop-at-test.true).0 (decimal_within c.args.text.now c.loop-at.at c.args.to (c.loop-at.high * 2 ^ 64 + c.loop-at.low) c.min-at-end.result c.min-at-end.ensures c.loop-at-test.true).1 ∙ rw (sym c.is_digit.ensures ∙ c.if-not-is_digit.true)) ∙ c.loop-at.invariant.1)

pub overflow_sub-b : goal.overflow_sub-b
overflow_sub-b c = omega (arith, (digit_true (get_or c.args.text.now c.loop-at.at 0) (sym c.is_digit.ensures ∙ c.if-not-is_digit.false)).0)

pub overflow_cast-b : goal.overflow_cast-b
overflow_cast-b c = omega (arith, (digit_true (get_or c.args.text.now c.loop-at.at 0) (sym c.is_digit.ensures ∙ c.if-not-is_digit.false)).1)

pub times_ten-lower-requires : goal.times_ten-lower-requires
times_ten-lower-requires c = omega (arith, (digit_true (get_or c.args.text.now c.loop-at.at 0) (sym c.is_digit.ensures ∙ c.if-not-is_digit.false)).1)

pub returns-then-upper-ne0 : goal.returns-then-upper-ne0
unfolding integer_value
returns-then-upper-ne0 c = let e = sym c.loop-at.invariant.1 ∙ ((decimal_on c.args.text.now c.loop-at.at c.args.to (c.loop-at.high * 2 ^ 64 + c.loop-at.low) (decimal_within c.args.text.now c.loop-at.at c.args.to (c.loop-at.high * 2 ^ 64 + c.loop-at.low) c.min-at-end.result c.min-at-end.ensures c.loop-at-test.true).0 (decimal_within c.args.text.now c.loop-at.at c.args.to (c.loop-at.high * 2 ^ 64 + c.loop-at.low) c.min-at-end.result c.min-at-end.ensures c.loop-at-test.true).1 ∙ rw (sym c.is_digit.ensures ∙ c.if-not-is_digit.false)) ∙ ap (λ (n : ℕ). decimal_from n (take (c.args.to - (c.loop-at.at + 1)) (drop (c.loop-at.at + 1) c.args.text.now))) (sym (carried c.loop-at.low c.loop-at.high ((get_or c.args.text.now c.loop-at.at 0) - 48) c.times_ten-lower.result.carry c.times_ten-lower.result.half (c.times_ten-upper.result.carry * 2 ^ 64 + c.times_ten-upper.result.half) c.times_ten-lower.ensures.0 c.times_ten-upper.ensures.0))) in rw (e) (sym (too_long (c.times_ten-upper.result.carry * 2 ^ 64 + c.times_ten-upper.result.half) c.times_ten-lower.result.half (take (c.args.to - (c.loop-at.at + 1)) (drop (c.loop-at.at + 1) c.args.text.now)) c.times_ten-lower.ensures.1.1 (omega (arith, c.if-upper-ne0.true))))

pub loop-at-preserved : goal.loop-at-preserved
loop-at-preserved c = ((c.times_ten-lower.ensures.1.1, c.times_ten-upper.ensures.1.1), ap (λ (n : ℕ). decimal_from n (take (c.args.to - (c.loop-at.at + 1)) (drop (c.loop-at.at + 1) c.args.text.now))) (carried c.loop-at.low c.loop-at.high ((get_or c.args.text.now c.loop-at.at 0) - 48) c.times_ten-lower.result.carry c.times_ten-lower.result.half c.times_ten-upper.result.half c.times_ten-lower.ensures.0 (omega (arith, c.times_ten-upper.ensures.0, c.if-upper-ne0.false))) ∙ (sym (decimal_on c.args.text.now c.loop-at.at c.args.to (c.loop-at.high * 2 ^ 64 + c.loop-at.low) (decimal_within c.args.text.now c.loop-at.at c.args.to (c.loop-at.high * 2 ^ 64 + c.loop-at.low) c.min-at-end.result c.min-at-end.ensures c.loop-at-test.true).0 (decimal_within c.args.text.now c.loop-at.at c.args.to (c.loop-at.high * 2 ^ 64 + c.loop-at.low) c.min-at-end.result c.min-at-end.ensures c.loop-at-test.true).1 ∙ rw (sym c.is_digit.ensures ∙ c.if-not-is_digit.false)) ∙ c.loop-at.invariant.1))

pub returns : goal.returns
unfolding integer_value
returns c = let e = sym c.loop-at.invariant.1 ∙ decimal_done c.args.text.now c.loop-at.at c.args.to (c.loop-at.high * 2 ^ 64 + c.loop-at.low) c.min-at-end.result c.min-at-end.ensures c.loop-at-test.false in rw (e) (sym (halves c.loop-at.low c.loop-at.high c.loop-at.invariant.0.0 c.loop-at.invariant.0.1))
