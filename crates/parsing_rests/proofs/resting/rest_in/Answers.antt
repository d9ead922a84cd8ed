use borrow.Author.Rules.{rules}
use native.Mathlib.Omega.{arith}
use Rattle.parsing_steps.proofs.Lasting.{fewer}
use Rattle.parsing_rests.proofs.Items.{rests_in}
use Rattle.parsing_rests.proofs.resting.rest_in.Goals as goal

pub rest_item-requires : goal.rest_item-requires
rest_item-requires c = (omega (arith, c.note_rest-h.ensures.total, c.requires.0), fewer c.requires.1 c.note_rest-h.ensures.shallow)

pub returns : goal.returns
returns c = rests_in c.note_rest-h.ensures c.rest_item.ensures
