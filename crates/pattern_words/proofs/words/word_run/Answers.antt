use mathlib.Core.Path.{sym, ◌∙◌}
use native.Mathlib.Omega.{arith}
use Rattle.pattern_words.specs.Words.{in_word}
use Rattle.text_chars.proofs.Loops.{run_on, run_stops, run_over}
use Rattle.pattern_words.proofs.words.word_run.Goals as goal

pub returns-then-not-is_in_word : goal.returns-then-not-is_in_word
returns-then-not-is_in_word c = let e = run_stops in_word c.args.bytes.now c.loop-at.at c.loop-at-test.true (sym c.is_in_word.ensures ∙ c.if-not-is_in_word.true) in omega (arith, c.loop-at.invariant.1)

pub loop-at-preserved : goal.loop-at-preserved
loop-at-preserved c = let e = run_on in_word c.args.bytes.now c.loop-at.at c.loop-at-test.true (sym c.is_in_word.ensures ∙ c.if-not-is_in_word.false) in (omega (arith, c.loop-at.invariant.0), omega (arith, c.loop-at.invariant.0, c.loop-at.invariant.1))

pub returns : goal.returns
returns c = let e = run_over in_word c.args.bytes.now c.loop-at.at c.loop-at-test.false in omega (arith, c.loop-at.invariant.1, c.loop-at.auto.at-end, c.requires)
