use borrow.Author.Rules.{rules}
use mathlib.Core.Path.{sym}
use native.Mathlib.Omega.{arith}
use lib.Seq.{length-take-le}
use Rattle.image_text.proofs.Printed.{wrote_as, called}
use Rattle.image_text.proofs.Answered.{answered, listable}
use Rattle.image_listing.proofs.Ways.{few, some_pattern, handed}
use Rattle.image_listing.proofs.put_lowered.Goals as goal

pub slice_bounds-numbers-end : goal.slice_bounds-numbers-end
slice_bounds-numbers-end c = search (rules, few c.args.image.now c.requires.0 c.requires.1)

pub slice_bounds-pattern_match-end : goal.slice_bounds-pattern_match-end
slice_bounds-pattern_match-end c = sym (length-take-le _ _ (omega (arith, few c.args.image.now c.requires.0 c.requires.1)))

pub overflow_sub-tables : goal.overflow_sub-tables
overflow_sub-tables c = some_pattern c.args.image.now c.requires.0 c.requires.1

pub put_answer-requires : goal.put_answer-requires
put_answer-requires c = (search rules, listable c.pattern_match-answer.result c.pattern_match-answer.ensures)

pub returns : goal.returns
returns c = wrote_as (answered c.pattern_match-answer.result (called (handed c.args.image.now c.requires.0 c.requires.1 c.args.visits.now c.number_bindings.ensures c.start_body-counts.ensures (search (rules, c.well_formed.1.1.1.1.0)) c.clear_from.ensures c.start_place-place.ensures) c.pattern_match-answer.ensures)) c.put_answer.ensures
