use mathlib.Core.Path.{refl}
use Rattle.listing_text.proofs.Pieces.{and_then_lem}
use Rattle.listing_text.proofs.Loops.{going_start, going_more, going_end}
use Rattle.params_words.proofs.Words.{words_more_lem, words_end}
use Rattle.params_words.proofs.put_words.Goals as goal

pub loop-word-init : goal.loop-word-init
loop-word-init c = going_start c.put-written.ensures refl

pub loop-word-preserved : goal.loop-word-preserved
loop-word-preserved c = going_more c.loop-word.invariant c.put_word-written.ensures c.put_word-written.auto.out (words_more_lem c.args.words.now c.loop-word.word-index c.loop-word-test.true)

pub returns : goal.returns
returns c = and_then_lem c.put-written.ensures (going_end c.loop-word.invariant (words_end c.args.words.now c.loop-word.word-index c.loop-word-test.false))
