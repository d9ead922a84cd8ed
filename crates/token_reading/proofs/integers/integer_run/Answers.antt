use mathlib.Core.Path.{sym, ◌∙◌}
use native.Mathlib.Omega.{arith}
use Rattle.pattern_tokens.specs.Literals.{in_integer}
use Rattle.text_chars.proofs.Loops.{run_on, run_stops, run_over}
use Rattle.token_reading.proofs.integers.integer_run.Goals as goal

pub returns-then-not-is_in_integer : goal.returns-then-not-is_in_integer
returns-then-not-is_in_integer c = let e = run_stops in_integer c.args.bytes.now c.loop-at.at c.loop-at-test.true (sym c.is_in_integer.ensures ∙ c.if-not-is_in_integer.true) in omega (arith, c.loop-at.invariant)

pub loop-at-preserved : goal.loop-at-preserved
loop-at-preserved c = let e = run_on in_integer c.args.bytes.now c.loop-at.at c.loop-at-test.true (sym c.is_in_integer.ensures ∙ c.if-not-is_in_integer.false) in omega (arith, c.loop-at.invariant)

pub returns : goal.returns
returns c = let e = run_over in_integer c.args.bytes.now c.loop-at.at c.loop-at-test.false in omega (arith, c.loop-at.invariant)
