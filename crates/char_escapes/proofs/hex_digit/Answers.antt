use borrow.Author.Rules.{rules}
use mathlib.Core.Path.{sym, ◌∙◌}
use native.Mathlib.Omega.{arith}
use Rattle.pattern_tokens.specs.Literals.{hex_digit}
use Rattle.pattern_words.proofs.Spelling.{between_true}
use Rattle.char_escapes.proofs.hex_digit.Goals as goal

pub overflow_sub-b : goal.overflow_sub-b
overflow_sub-b c = omega (arith, (between_true 48 57 c.args.b (sym c.is_between.ensures ∙ c.if-is_between.true)).0)

pub returns-then-is_between : goal.returns-then-is_between
unfolding hex_digit
returns-then-is_between c = simp (sym c.is_between.ensures ∙ c.if-is_between.true) c.wide.ensures

pub overflow_sub-b-then-is_between-2 : goal.overflow_sub-b-then-is_between-2
overflow_sub-b-then-is_between-2 c = omega (arith, (between_true 97 102 c.args.b (sym c.is_between-2.ensures ∙ c.if-is_between-2.true)).0)

pub overflow_add-b : goal.overflow_add-b
overflow_add-b c = let r = between_true 97 102 c.args.b (sym c.is_between-2.ensures ∙ c.if-is_between-2.true) in omega (arith, r.0, r.1)

pub returns-then-is_between-2 : goal.returns-then-is_between-2
unfolding hex_digit
returns-then-is_between-2 c = simp (sym c.is_between.ensures ∙ c.if-is_between.false, sym c.is_between-2.ensures ∙ c.if-is_between-2.true) c.wide-then-is_between-2.ensures

pub overflow_sub-b-then-is_between-3 : goal.overflow_sub-b-then-is_between-3
overflow_sub-b-then-is_between-3 c = omega (arith, (between_true 65 70 c.args.b (sym c.is_between-3.ensures ∙ c.if-is_between-3.true)).0)

pub overflow_add-b-then-is_between-3 : goal.overflow_add-b-then-is_between-3
overflow_add-b-then-is_between-3 c = let r = between_true 65 70 c.args.b (sym c.is_between-3.ensures ∙ c.if-is_between-3.true) in omega (arith, r.0, r.1)

pub returns-then-is_between-3 : goal.returns-then-is_between-3
unfolding hex_digit
returns-then-is_between-3 c = simp (sym c.is_between.ensures ∙ c.if-is_between.false, sym c.is_between-2.ensures ∙ c.if-is_between-2.false, sym c.is_between-3.ensures ∙ c.if-is_between-3.true) c.wide-then-is_between-3.ensures

pub returns : goal.returns
unfolding hex_digit
returns c = simp (sym c.is_between.ensures ∙ c.if-is_between.false, sym c.is_between-2.ensures ∙ c.if-is_between-2.false, sym c.is_between-3.ensures ∙ c.if-is_between-3.false)
