use borrow.Author.Rules.{rules}
use Rattle.pattern_matching.specs.Walking.{local_place}
use Rattle.lowering_c.specs.Words.{counts_of_words}
use Rattle.lowering_c.proofs.Handing.{hands_out}
use Rattle.lowering_c.proofs.fithongu_pattern_match.Goals as goal

pub returns : goal.returns
unfolding counts_of_words local_place
returns c = hands_out _ _ _ _ _ c.block_or_none.ensures c.pattern_match-given.ensures c.answer_words.ensures
