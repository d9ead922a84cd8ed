use mathlib.Core.Path.{◌≡◌, refl, sym, ◌∙◌}
use native.Mathlib.Omega.{arith}
use borrow.Author.Rules.{rules}
use borrow.Author.Tests.{lt-ltb, le-ltb, eq-eqb, ne_eqb}
use Prim.Native.Nat.{◌≤◌, ◌<◌, ◌-◌, ◌^◌}
use lib.ListN.{length, drop}
use Rattle.pattern_tokens.specs.Literals.{unicode_from}
use Rattle.char_escapes.proofs.Escapes.{unicode_on, unicode_over, digits_on, digits_fit}
use Rattle.char_escapes.proofs.unicode_escape.Goals as goal

pub returns-then-digits-ge6 : goal.returns-then-digits-ge6
returns-then-digits-ge6 c = sym (sym c.loop-at.invariant.1 ∙ (unicode_on _ _ _ _ c.loop-at-test.true ∙ simp (← c.hex_digit-digit.ensures, lt-ltb _ _ c.if-digit-lt16.true, le-ltb _ _ c.if-digits-ge6.true)))

pub overflow_mul-v : goal.overflow_mul-v
overflow_mul-v c = omega (arith, digits_fit c.loop-at.v c.loop-at.digits c.loop-at.invariant.0.1 c.loop-at.invariant.0.0)

pub overflow_add-v : goal.overflow_add-v
overflow_add-v c = omega (arith, c.if-digit-lt16.true, digits_fit c.loop-at.v c.loop-at.digits c.loop-at.invariant.0.1 c.loop-at.invariant.0.0)

pub loop-at-preserved-then-digit-lt16 : goal.loop-at-preserved-then-digit-lt16
loop-at-preserved-then-digit-lt16 c = ((omega (arith, c.if-digits-ge6.false), digits_on c.loop-at.v c.loop-at.digits c.hex_digit-digit.result c.loop-at.invariant.0.1 c.if-digit-lt16.true), sym (unicode_on _ _ _ _ c.loop-at-test.true ∙ simp (← c.hex_digit-digit.ensures, lt-ltb _ _ c.if-digit-lt16.true, lt-ltb _ _ c.if-digits-ge6.false)) ∙ c.loop-at.invariant.1)

pub returns-then-digits-eq0 : goal.returns-then-digits-eq0
returns-then-digits-eq0 c = sym (sym c.loop-at.invariant.1 ∙ (unicode_on _ _ _ _ c.loop-at-test.true ∙ simp (← c.hex_digit-digit.ensures, le-ltb _ _ c.if-digit-lt16.false, eq-eqb _ _ c.if-digits-eq0.true)))

pub loop-at-preserved : goal.loop-at-preserved
loop-at-preserved c = (c.loop-at.invariant.0, sym (unicode_on _ _ _ _ c.loop-at-test.true ∙ simp (← c.hex_digit-digit.ensures, le-ltb _ _ c.if-digit-lt16.false, ne_eqb _ _ c.if-digits-eq0.false, eq-eqb _ _ c.if-b-eq95.true)) ∙ c.loop-at.invariant.1)

pub returns-then-b-eq125 : goal.returns-then-b-eq125
returns-then-b-eq125 c = sym (sym c.loop-at.invariant.1 ∙ (unicode_on _ _ _ _ c.loop-at-test.true ∙ simp (← c.hex_digit-digit.ensures, le-ltb _ _ c.if-digit-lt16.false, ne_eqb _ _ c.if-digits-eq0.false, ne_eqb _ _ c.if-b-eq95.false, eq-eqb _ _ c.if-b-eq125.true) (sym c.escaped_value.ensures)))

pub returns-in-loop-at : goal.returns-in-loop-at
returns-in-loop-at c = sym (sym c.loop-at.invariant.1 ∙ (unicode_on _ _ _ _ c.loop-at-test.true ∙ simp (← c.hex_digit-digit.ensures, le-ltb _ _ c.if-digit-lt16.false, ne_eqb _ _ c.if-digits-eq0.false, ne_eqb _ _ c.if-b-eq95.false, ne_eqb _ _ c.if-b-eq125.false)))

pub returns : goal.returns
returns c = sym (sym c.loop-at.invariant.1 ∙ unicode_over _ _ _ _ c.loop-at-test.false)
