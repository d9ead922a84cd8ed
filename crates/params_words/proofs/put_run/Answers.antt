use Rattle.listing_text.proofs.Pieces.{and_then_lem}
use Rattle.listing_text.proofs.Loops.{going_start, going_more, going_end}
use Rattle.params_words.proofs.Words.{run_begin, run_more, run_end}
use Rattle.params_words.proofs.put_run.Goals as goal

pub loop-word-init : goal.loop-word-init
loop-word-init c = going_start c.put-written.ensures (run_begin c.args.first.0 c.args.count)

pub loop-word-preserved : goal.loop-word-preserved
loop-word-preserved c = going_more c.loop-word.invariant c.put_word-written.ensures c.put_word-written.auto.out (run_more c.args.first.0 c.args.count c.loop-word.word c.loop-word-test.true)

pub returns : goal.returns
returns c = and_then_lem c.put-written.ensures (going_end c.loop-word.invariant (run_end c.args.first.0 c.args.count c.loop-word.word c.loop-word-test.false))
