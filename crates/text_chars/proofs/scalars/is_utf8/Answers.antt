use mathlib.Core.Path.{◌≡◌, sym, ◌∙◌}
use native.Mathlib.Omega.{arith}
use Prim.Native.Nat.{◌+◌, ◌-◌}
use Rattle.text_chars.proofs.Loops.{left, utf8_short, utf8_on, utf8_next, utf8_broken, utf8_end}
use Rattle.text_chars.proofs.scalars.is_utf8.Goals as goal
use Rattle.text_chars.proofs.scalars.is_utf8.Goals.{else-loop-at-test, then-loop-at-test+else-bytes-at+then-rest-ne0+else-at-count, then-loop-at-test+else-bytes-at+else-rest-ne0+in-Some+else-at-count-2}

pub returns-then-bytes-at : goal.returns-then-bytes-at
returns-then-bytes-at c = sym (sym c.loop-at.invariant ∙ utf8_short _ _ _ _ (λ e. omega (arith, e)) c.if-bytes-at.true)

pub loop-at-preserved-then-rest-ne0 : goal.loop-at-preserved-then-rest-ne0
loop-at-preserved-then-rest-ne0 c =
    let one : c.args.count + 1 - (c.loop-at.at + 1) ≡ c.args.count + 1 - c.loop-at.at - 1 = omega arith in
    rw one (sym (utf8_on _ _ _ _ (λ e. omega (arith, e)) c.if-rest-ne0.true c.if-bytes-at.false) ∙ c.loop-at.invariant)

pub loop-at-preserved : goal.loop-at-preserved
loop-at-preserved c =
    let one : c.args.count + 1 - (c.loop-at.at + 1) ≡ c.args.count + 1 - c.loop-at.at - 1 = omega arith in
    rw one (sym (utf8_next _ _ _ _ _ (λ e. omega (arith, e)) c.if-bytes-at.false (rw (left c.args.bytes.now c.loop-at.at) at (sym c.scalar_of.ensures ∙ c.in-Some.is))) ∙ rw c.if-rest-ne0.false at c.loop-at.invariant)

pub returns-in-None : goal.returns-in-None
returns-in-None c = sym (sym (rw c.if-rest-ne0.false at c.loop-at.invariant) ∙ utf8_broken _ _ _ (λ e. omega (arith, e)) c.if-bytes-at.false (rw (left c.args.bytes.now c.loop-at.at) at (sym c.scalar_of.ensures ∙ c.in-None.is)))

pub returns : goal.returns
returns c =
    let bytes = c.args.bytes.now in
    elim c.loop-at-test.branch [
      | else-loop-at-test w ↦ rw w.rest-is (sym (utf8_end bytes c.loop-at.at _ _ (omega arith)) ∙ c.loop-at.invariant)
      | then-loop-at-test+else-bytes-at+then-rest-ne0+else-at-count w ↦
          let none : c.args.count + 1 - c.loop-at.at - 1 ≡ 0 = omega arith in
          rw w.rest-is (sym (utf8_end bytes (c.loop-at.at + 1) _ _ none) ∙ (sym (utf8_on _ _ _ _ (λ e. omega (arith, e)) w.if-rest-ne0.true w.if-bytes-at.false) ∙ c.loop-at.invariant))
      | then-loop-at-test+else-bytes-at+else-rest-ne0+in-Some+else-at-count-2 w ↦
          let none : c.args.count + 1 - c.loop-at.at - 1 ≡ 0 = omega arith in
          rw w.rest-is (sym (utf8_end bytes (c.loop-at.at + 1) _ _ none) ∙ (sym (utf8_next _ _ _ _ _ (λ e. omega (arith, e)) w.if-bytes-at.false (rw (left bytes c.loop-at.at) at (sym w.scalar_of.ensures ∙ w.in-Some.is))) ∙ rw w.if-rest-ne0.false at c.loop-at.invariant))
    ]
