use borrow.Author.Rules.{rules}
use mathlib.Core.Path.{sym, ◌∙◌}
use native.Mathlib.Omega.{arith}
use borrow.Author.Tests.{eq-eqb, ne_eqb}
use Rattle.pattern_tokens.specs.Literals.{closed_char}
use Prim.Native.Nat.{◌+◌}
use Rattle.pattern_tokens.proofs.Sizes.{quote_there}
use Rattle.char_tokens.proofs.closed_char.Goals as goal

pub returns-then-byte_behind-ne39 : goal.returns-then-byte_behind-ne39
unfolding closed_char
returns-then-byte_behind-ne39 c = simp (← c.byte_behind.ensures, ne_eqb _ _ c.if-byte_behind-ne39.true)

pub returns-then-is_suffix : goal.returns-then-is_suffix
unfolding closed_char
returns-then-is_suffix c = simp (← c.byte_behind-3.ensures, ← c.byte_behind-2.ensures, ← c.byte_behind.ensures, eq-eqb _ _ c.if-byte_behind-ne39.false, sym c.is_suffix.ensures ∙ c.if-is_suffix.true)

pub overflow_add-result : goal.overflow_add-result
overflow_add-result c = omega (arith, quote_there c.args.bytes.now (c.args.more + 2) (sym c.byte_behind.ensures ∙ c.if-byte_behind-ne39.false))

pub returns : goal.returns
unfolding closed_char
returns c = simp (← c.byte_behind-3.ensures, ← c.byte_behind-2.ensures, ← c.byte_behind.ensures, eq-eqb _ _ c.if-byte_behind-ne39.false, sym c.is_suffix.ensures ∙ c.if-is_suffix.false)
