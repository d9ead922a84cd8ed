use borrow.Author.Rules.{rules}
use borrow.Author.Tests.{lt-ltb, le-ltb}
use Rattle.pattern_tokens.specs.Literals.{byte_escape}
use Rattle.char_escapes.proofs.byte_escape.Goals as goal

pub returns-then-high-ge8 : goal.returns-then-high-ge8
unfolding byte_escape
returns-then-high-ge8 c = simp (← c.hex_digit-high.ensures, le-ltb _ _ c.if-high-ge8.true)

pub returns-then-low-ge16 : goal.returns-then-low-ge16
unfolding byte_escape
returns-then-low-ge16 c = simp (← c.hex_digit-low.ensures, ← c.hex_digit-high.ensures, lt-ltb _ _ c.if-high-ge8.false, le-ltb _ _ c.if-low-ge16.true)

pub returns : goal.returns
unfolding byte_escape
returns c = simp (← c.hex_digit-low.ensures, ← c.hex_digit-high.ensures, lt-ltb _ _ c.if-high-ge8.false, lt-ltb _ _ c.if-low-ge16.false)
