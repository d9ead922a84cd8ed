use Rattle.listing_text.proofs.Loops.{Going}
use Rattle.params_words.proofs.Words.{words_from}
use Rattle.params_words.proofs.put_words.Given as goal

abbrev pub invariant-loop-word : goal.invariant-loop-word
invariant-loop-word l = Going l.initial.out l.initial.written (words_from l.words 0) (words_from l.words l.word-index) l.written l.out
