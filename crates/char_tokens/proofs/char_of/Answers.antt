use borrow.Author.Rules.{rules}
use borrow.Author.Tests.{eq-eqb, ne_eqb}
use Rattle.pattern_tokens.specs.Literals.{char_of}
use Rattle.char_tokens.proofs.char_of.Goals as goal

pub returns-then-byte_of-eq92 : goal.returns-then-byte_of-eq92
unfolding char_of
returns-then-byte_of-eq92 c = simp (← c.byte_of.ensures, eq-eqb _ _ c.if-byte_of-eq92.true) c.escape_of.ensures

pub returns : goal.returns
unfolding char_of
returns c = simp (← c.scalar_of.ensures, ← c.byte_of.ensures, ne_eqb _ _ c.if-byte_of-eq92.false) c.plain_char.ensures
