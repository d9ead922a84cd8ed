use Rattle.std.specs.Prelude.{Err}
use mathlib.Core.Path.{ap, ◌∙◌}
use Rattle.std.specs.Prelude.{Ok}
use borrow.Author.Rules.{rules}
use Rattle.lowering_c.specs.Words.{answer_words}
use Rattle.lowering_c.proofs.Handing.{matched_words, refused_words}
use Rattle.lowering_c.proofs.answer_words.Goals as goal

pub returns-in-Ok : goal.returns-in-Ok
returns-in-Ok c = matched_words c.in-Ok.is c.block_word.ensures

pub returns-in-Err-Refused : goal.returns-in-Err-Refused
returns-in-Err-Refused c = refused_words (c.in-Err-Refused.is ∙ ap Err (rw c.in-Err-Refused.is at c.in-Err-Refused.field-0-is)) c.number_of.ensures c.reason_of.ensures

pub returns-in-Err-BadCall : goal.returns-in-Err-BadCall
unfolding answer_words
returns-in-Err-BadCall c = rw (c.in-Err-BadCall.is ∙ ap Err (rw c.in-Err-BadCall.is at c.in-Err-BadCall.field-0-is))

pub returns-in-Err-BadImage : goal.returns-in-Err-BadImage
unfolding answer_words
returns-in-Err-BadImage c = rw (c.in-Err-BadImage.is ∙ ap Err (rw c.in-Err-BadImage.is at c.in-Err-BadImage.field-0-is))
