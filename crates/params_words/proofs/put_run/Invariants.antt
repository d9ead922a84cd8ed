use Rattle.listing_text.proofs.Loops.{Going}
use Rattle.image.specs.Lists.{up_from}
use Rattle.params_words.specs.Words.{words_text}
use Rattle.params_words.proofs.Words.{run_from}
use Rattle.params_words.proofs.put_run.Given as goal

abbrev pub invariant-loop-word : goal.invariant-loop-word
invariant-loop-word l = Going l.initial.out l.initial.written (words_text (up_from l.fn.first.0 l.count)) (run_from l.fn.first.0 l.count l.word) l.written l.out
