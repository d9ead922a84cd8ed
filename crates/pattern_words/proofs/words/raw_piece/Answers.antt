use borrow.Author.Rules.{rules}
use mathlib.Core.Path.{◌≡◌, sym, ◌∙◌}
use native.Mathlib.Omega.{arith}
use Prim.Native.Nat.{◌≤◌, ◌+◌, ◌-◌}
use lib.ListN.{length, drop}
use Rattle.text_chars.specs.Bytes.{run}
use Rattle.pattern_words.specs.Words.{in_word, raw_piece}
use Rattle.pattern_words.proofs.Spelling.{run_bound, run_all}
use lib.ListN.{length-drop}
use Rattle.pattern_words.proofs.words.raw_piece.Goals as goal

pub overflow_add-end : goal.overflow_add-end
overflow_add-end c = omega (arith, c.word_run-size.ensures, run_bound in_word (drop 2 c.args.bytes.now), length-drop 2 c.args.bytes.now, c.requires.0, c.requires.1)

pub slice_bounds-is_reserved-count : goal.slice_bounds-is_reserved-count
slice_bounds-is_reserved-count c = omega arith

pub slice_bounds-is_reserved-end : goal.slice_bounds-is_reserved-end
slice_bounds-is_reserved-end c = let b : c.word_run-size.result + 2 ≤ length c.args.bytes.now = omega (arith, c.word_run-size.ensures, run_bound in_word (drop 2 c.args.bytes.now), length-drop 2 c.args.bytes.now, c.requires.0, c.requires.1) in search rules

pub is_reserved-requires : goal.is_reserved-requires
is_reserved-requires c = let p : c.word_run-size.result + 2 - 2 ≡ run in_word (drop 2 c.args.bytes.now) = omega (arith, c.word_run-size.ensures) in rw (p) (run_all in_word (drop 2 c.args.bytes.now))

pub returns-then-is_reserved : goal.returns-then-is_reserved
unfolding raw_piece
returns-then-is_reserved c = let p : c.word_run-size.result + 2 - 2 ≡ c.word_run-size.result = omega arith in simp (← c.word_run-size.ensures, sym (rw (p) at c.is_reserved.ensures) ∙ c.if-is_reserved.true)

pub overflow_add-result : goal.overflow_add-result
overflow_add-result c = omega (arith, c.requires.0, c.requires.1)

pub returns : goal.returns
unfolding raw_piece
returns c = let p : c.word_run-size.result + 2 - 2 ≡ c.word_run-size.result = omega arith in simp (← c.word_run-size.ensures, sym (rw (p) at c.is_reserved.ensures) ∙ c.if-is_reserved.false)
