use borrow.Author.Rules.{rules}
use mathlib.Core.Path.{sym, ◌∙◌}
use native.Mathlib.Omega.{arith}
use Rattle.pattern_words.specs.Words.{in_word, plain_piece}
use Rattle.pattern_words.proofs.Spelling.{run_bound, run_all}
use lib.Seq.{length-take-le}
use Rattle.pattern_words.proofs.words.plain_piece.Goals as goal

pub returns-then-ends_prefix : goal.returns-then-ends_prefix
unfolding plain_piece
returns-then-ends_prefix c = simp (← c.word_run-size.ensures, ← c.byte_of.ensures, sym c.ends_prefix.ensures ∙ c.if-ends_prefix.true)

pub slice_bounds-word_of-end : goal.slice_bounds-word_of-end
slice_bounds-word_of-end c = sym (length-take-le c.word_run-size.result c.args.bytes.now (omega (arith, c.word_run-size.ensures, run_bound in_word c.args.bytes.now)))

pub word_of-requires : goal.word_of-requires
word_of-requires c = rw c.word_run-size.ensures (run_all in_word c.args.bytes.now)

pub returns : goal.returns
unfolding plain_piece
returns c = simp (← c.word_run-size.ensures, ← c.byte_of.ensures, sym c.ends_prefix.ensures ∙ c.if-ends_prefix.false) (rw (length-take-le c.word_run-size.result c.args.bytes.now (omega (arith, c.word_run-size.ensures, run_bound in_word c.args.bytes.now))) at c.word_of.ensures)
