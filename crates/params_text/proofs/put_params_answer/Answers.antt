use Rattle.std.specs.Prelude.{Err}
use mathlib.Core.Path.{ap, ◌∙◌}
use Rattle.std.specs.Prelude.{Ok}
use borrow.Author.Rules.{rules}
use native.Mathlib.Omega.{arith}
use Rattle.body_tables.specs.Layout.{body_of}
use Rattle.listing_text.proofs.Pieces.{and_then_lem}
use Rattle.image_text.proofs.Printed.{wrote_as, refusal_numbers}
use Rattle.params_text.proofs.Answered.{entries_part, listing_asked, lists, refuses, refuses_call, refuses_image}
use Rattle.params_text.proofs.put_params_answer.Goals as goal

pub put_listing-listed-requires : goal.put_listing-listed-requires
put_listing-listed-requires c = let L = listing_asked (body_of c.args.body.now) c.args.bindings.now _ c.in-Ok.is c.requires.1 in (c.requires.0, L.0.0, L.0.1, L.0.2)

pub slice_bounds-put_lines-end : goal.slice_bounds-put_lines-end
slice_bounds-put_lines-end c = let L = listing_asked (body_of c.args.body.now) c.args.bindings.now _ c.in-Ok.is c.requires.1 in omega (arith, c.requires.0, L.1)

pub put_lines-requires : goal.put_lines-requires
put_lines-requires c = (listing_asked (body_of c.args.body.now) c.args.bindings.now _ c.in-Ok.is c.requires.1).2

pub returns-in-Ok : goal.returns-in-Ok
returns-in-Ok c = wrote_as (lists _ _ _ c.in-Ok.is) (and_then_lem c.put_listing-listed.ensures (rw (entries_part c.args.body.now _ (listing_asked (body_of c.args.body.now) c.args.bindings.now _ c.in-Ok.is c.requires.1).1) at c.put_lines.ensures))

pub returns-in-Err-Refused : goal.returns-in-Err-Refused
returns-in-Err-Refused c = wrote_as (refuses _ _ _ (c.in-Err-Refused.is ∙ ap Err (rw c.in-Err-Refused.is at c.in-Err-Refused.field-0-is))) (wrote_as (refusal_numbers _ _ c.number_of.ensures c.reason_of.ensures) c.put_refusal.ensures)

pub returns-in-Err-BadCall : goal.returns-in-Err-BadCall
returns-in-Err-BadCall c = wrote_as (refuses_call _ _ _ (c.in-Err-BadCall.is ∙ ap Err (rw c.in-Err-BadCall.is at c.in-Err-BadCall.field-0-is))) c.put_refusal-in-Err-BadCall.ensures

pub returns-in-Err-BadImage : goal.returns-in-Err-BadImage
returns-in-Err-BadImage c = wrote_as (refuses_image _ _ _ (c.in-Err-BadImage.is ∙ ap Err (rw c.in-Err-BadImage.is at c.in-Err-BadImage.field-0-is))) c.put_refusal-in-Err-BadImage.ensures
