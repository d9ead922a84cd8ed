use borrow.Author.Rules.{rules}
use mathlib.Core.Path.{sym, ◌∙◌}
use native.Mathlib.Omega.{arith}
use borrow.Author.Tests.{eq-eqb, ne_eqb}
use Rattle.pattern_tokens.specs.Tokens.{piece_of}
use Rattle.pattern_tokens.proofs.Sizes.{quote_there}
use Rattle.token_reading.proofs.piece_of.Goals as goal

pub returns-then-begins_word : goal.returns-then-begins_word
unfolding piece_of
returns-then-begins_word c = simp (← c.byte_of-b.ensures, sym c.begins_word.ensures ∙ c.if-begins_word.true) c.word_piece.ensures

pub returns-then-is_digit : goal.returns-then-is_digit
unfolding piece_of
returns-then-is_digit c = simp (← c.byte_of-b.ensures, sym c.begins_word.ensures ∙ c.if-begins_word.false, sym c.is_digit.ensures ∙ c.if-is_digit.true) c.integer_piece.ensures

pub char_piece-requires : goal.char_piece-requires
char_piece-requires c = omega (arith, quote_there c.args.bytes.now 0 (sym c.byte_of-b.ensures ∙ c.if-b-eq39.true))

pub returns-then-b-eq39 : goal.returns-then-b-eq39
unfolding piece_of
returns-then-b-eq39 c = simp (← c.byte_of-b.ensures, sym c.begins_word.ensures ∙ c.if-begins_word.false, sym c.is_digit.ensures ∙ c.if-is_digit.false, eq-eqb _ _ c.if-b-eq39.true) c.char_piece.ensures

pub returns : goal.returns
unfolding piece_of
returns c = simp (← c.byte_of-b.ensures, sym c.begins_word.ensures ∙ c.if-begins_word.false, sym c.is_digit.ensures ∙ c.if-is_digit.false, ne_eqb _ _ c.if-b-eq39.false) c.mark_piece.ensures
