use borrow.Author.Rules.{rules}
use borrow.Author.Tests.{eq-eqb, ne_eqb}
use Rattle.pattern_words.specs.Words.{is_raw}
use Rattle.pattern_words.proofs.words.is_raw.Goals as goal

pub returns-then-byte_of-ne114 : goal.returns-then-byte_of-ne114
unfolding is_raw
returns-then-byte_of-ne114 c = simp (← c.byte_of.ensures, ne_eqb _ _ c.if-byte_of-ne114.true)

pub returns-then-byte_of-ne35 : goal.returns-then-byte_of-ne35
unfolding is_raw
returns-then-byte_of-ne35 c = simp (← c.byte_of-2.ensures, ← c.byte_of.ensures, eq-eqb _ _ c.if-byte_of-ne114.false, ne_eqb _ _ c.if-byte_of-ne35.true)

pub returns : goal.returns
unfolding is_raw
returns c = simp (← c.byte_of-3.ensures, ← c.byte_of-2.ensures, ← c.byte_of.ensures, eq-eqb _ _ c.if-byte_of-ne114.false, eq-eqb _ _ c.if-byte_of-ne35.false) c.begins_word.ensures
