use mathlib.Core.Path.{◌≡◌, sym, ◌∙◌}
use native.Mathlib.Omega.{arith}
use Rattle.text_chars.proofs.Loops.{left, start_over, start_on, start_gap, start_here, start_broken}
use Rattle.text_chars.proofs.start_of.Goals as goal

pub loop-i-preserved-then-rest-ne0 : goal.loop-i-preserved-then-rest-ne0
loop-i-preserved-then-rest-ne0 c = (omega arith, sym (start_on _ _ _ c.if-rest-ne0.true c.loop-i-test.true) ∙ c.loop-i.invariant.1)

pub loop-i-preserved : goal.loop-i-preserved
loop-i-preserved c = (omega arith, sym (start_gap _ _ _ c.loop-i-test.true (rw (left c.args.text.now c.loop-i.i) at (sym c.gap_of.ensures ∙ c.in-Of.is))) ∙ rw c.if-rest-ne0.false at c.loop-i.invariant.1)

pub returns-in-Nothing : goal.returns-in-Nothing
returns-in-Nothing c = sym (sym (rw c.if-rest-ne0.false at c.loop-i.invariant.1) ∙ start_here _ _ c.loop-i-test.true (rw (left c.args.text.now c.loop-i.i) at (sym c.gap_of.ensures ∙ c.in-Nothing.is)))

pub returns-in-Broken : goal.returns-in-Broken
returns-in-Broken c = sym (sym (rw c.if-rest-ne0.false at c.loop-i.invariant.1) ∙ start_broken _ _ c.loop-i-test.true (rw (left c.args.text.now c.loop-i.i) at (sym c.gap_of.ensures ∙ c.in-Broken.is)))

pub returns : goal.returns
returns c =
    let end : c.max.result ≡ c.loop-i.i = omega (arith, c.loop-i-test.false, c.loop-i.invariant.0, c.max.ensures) in
    rw end (sym (sym c.loop-i.invariant.1 ∙ start_over _ _ _ c.loop-i-test.false))
