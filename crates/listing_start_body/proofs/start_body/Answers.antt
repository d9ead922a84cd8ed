use borrow.Author.Rules.{rules}
use native.Mathlib.Omega.{arith}
use Rattle.listing_start.proofs.Limits.{limits}
use Rattle.listing_start_body.proofs.Filling.{body_started, counts_started}
use Rattle.listing_start_body.proofs.start_body.Goals as goal

pub overflow_add-result : goal.overflow_add-result
overflow_add-result c = omega (arith, c.requires.1.binding_count_lem, (limits _ c.requires.0).bindings)

pub returns : goal.returns
returns c = (counts_started c.args.image.now c.args.t c.requires.1.binding_count_lem, body_started c.args.image.now c.args.t c.args.body.now (search (rules, c.well_formed.1.1.1)) c.clear_from.ensures c.type_body.ensures)
