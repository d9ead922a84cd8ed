use native.Mathlib.Omega.{arith}
use Rattle.param_lists.proofs.Looking.{names_end, no_pattern_lem, no_type_lem, names_again, names_next}
use Rattle.param_lists.proofs.params_named.Goals as goal

pub returns-then-tables-words : goal.returns-then-tables-words
returns-then-tables-words c = no_pattern_lem _ _ c.loop-i.invariant (λ e. omega (arith, c.loop-i-test.true)) c.requires.0 c.if-tables-words.true

pub returns-then-tables-words-2 : goal.returns-then-tables-words-2
returns-then-tables-words-2 c = no_type_lem _ _ c.loop-i.invariant (λ e. omega (arith, c.loop-i-test.true)) c.requires.0 c.if-tables-words.false c.if-tables-words-2.true

pub loop-i-preserved : goal.loop-i-preserved
loop-i-preserved c = names_next _ _ _ _ (names_again _ _ c.loop-i.invariant (λ e. omega (arith, c.loop-i-test.true)) c.requires.0 c.if-tables-words.false c.if-tables-words-2.false)

pub returns : goal.returns
returns c = names_end _ _ c.loop-i.invariant (omega (arith, c.loop-i-test.false))
