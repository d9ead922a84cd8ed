use borrow.Author.Rules.{rules}
use borrow.Author.Tests.{eq-eqb, ne_eqb}
use Rattle.pattern_tokens.specs.Literals.{escape_of}
use Rattle.char_escapes.proofs.escape_of.Goals as goal

pub returns-then-b-eq120 : goal.returns-then-b-eq120
unfolding escape_of
returns-then-b-eq120 c = simp (← c.byte_of-then-b-eq120.ensures, ← c.byte_of.ensures, ← c.byte_of-b.ensures, eq-eqb _ _ c.if-b-eq120.true) c.byte_escape.ensures

pub returns-then-b-ne117 : goal.returns-then-b-ne117
unfolding escape_of
returns-then-b-ne117 c = simp (← c.byte_of-b.ensures, ne_eqb _ _ c.if-b-eq120.false, ne_eqb _ _ c.if-b-ne117.true) c.simple_escape.ensures

pub returns-then-byte_of-eq123 : goal.returns-then-byte_of-eq123
unfolding escape_of
returns-then-byte_of-eq123 c = simp (← c.byte_of-2.ensures, ← c.byte_of-b.ensures, ne_eqb _ _ c.if-b-eq120.false, eq-eqb _ _ c.if-b-ne117.false, eq-eqb _ _ c.if-byte_of-eq123.true) c.unicode_escape.ensures

pub returns : goal.returns
unfolding escape_of
returns c = simp (← c.byte_of-2.ensures, ← c.byte_of-b.ensures, ne_eqb _ _ c.if-b-eq120.false, eq-eqb _ _ c.if-b-ne117.false, ne_eqb _ _ c.if-byte_of-eq123.false) c.simple_escape-2.ensures
