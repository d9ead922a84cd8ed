use borrow.Author.Rules.{rules}
use mathlib.Core.Path.{sym, ◌∙◌}
use native.Mathlib.Omega.{arith}
use Rattle.pattern_words.specs.Words.{word_piece}
use Rattle.pattern_words.proofs.Spelling.{raw_long}
use Rattle.pattern_words.proofs.words.word_piece.Goals as goal

pub raw_piece-requires : goal.raw_piece-requires
raw_piece-requires c = (omega (arith, raw_long c.args.bytes.now (sym c.is_raw.ensures ∙ c.if-is_raw.true)), c.requires)

pub returns-then-is_raw : goal.returns-then-is_raw
unfolding word_piece
returns-then-is_raw c = simp (sym c.is_raw.ensures ∙ c.if-is_raw.true) c.raw_piece.ensures

pub returns : goal.returns
unfolding word_piece
returns c = simp (sym c.is_raw.ensures ∙ c.if-is_raw.false) c.plain_piece.ensures
