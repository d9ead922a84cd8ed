use borrow.Author.Rules.{rules}
use mathlib.Core.Path.{◌∙◌}
use Rattle.image_text.proofs.Printed.{wrote_as}
use Rattle.params_text.proofs.Answered.{answered, listable}
use Rattle.params_start.proofs.Starting.{few_locals}
use Rattle.params_listing.proofs.Ways.{text_is}
use Rattle.params_listing.proofs.put_called.Goals as goal

pub put_params_answer-requires : goal.put_params_answer-requires
put_params_answer-requires c = (search rules, listable _ (few_locals c.requires _ _ c.many_of-many.ensures) c.lower_params_and_bindings-answer.result c.lower_params_and_bindings-answer.ensures)

pub returns : goal.returns
returns c = wrote_as (answered _ c.lower_params_and_bindings-answer.result c.lower_params_and_bindings-answer.ensures ∙ text_is c.requires c.args.receiver c.args.list.now c.many_of-many.ensures) c.put_params_answer.ensures
