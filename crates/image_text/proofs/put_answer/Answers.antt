use Rattle.std.specs.Prelude.{Err}
use mathlib.Core.Path.{ap, ◌∙◌}
use Rattle.std.specs.Prelude.{Ok}
use borrow.Author.Rules.{rules}
use Rattle.image_text.proofs.Printed.{wrote_as}
use Rattle.image_text.proofs.Answered.{listing_asked, lists, refuses, refuses_call, refuses_image}
use Rattle.body_tables.specs.Layout.{body_of}
use Rattle.image_text.proofs.put_answer.Goals as goal

pub put_listing-requires : goal.put_listing-requires
put_listing-requires c = let L = listing_asked (body_of c.args.body.now) c.in-Ok.is c.requires.1 in (c.requires.0, L.0, L.1, L.2)

pub returns-in-Ok : goal.returns-in-Ok
returns-in-Ok c = wrote_as (lists _ c.in-Ok.is) c.put_listing.ensures

pub returns-in-Err-Refused : goal.returns-in-Err-Refused
returns-in-Err-Refused c = wrote_as (refuses _ (c.in-Err-Refused.is ∙ ap Err (rw c.in-Err-Refused.is at c.in-Err-Refused.field-0-is))) c.put_refused.ensures

pub returns-in-Err-BadCall : goal.returns-in-Err-BadCall
returns-in-Err-BadCall c = wrote_as (refuses_call _ (c.in-Err-BadCall.is ∙ ap Err (rw c.in-Err-BadCall.is at c.in-Err-BadCall.field-0-is))) c.put_refusal.ensures

pub returns-in-Err-BadImage : goal.returns-in-Err-BadImage
returns-in-Err-BadImage c = wrote_as (refuses_image _ (c.in-Err-BadImage.is ∙ ap Err (rw c.in-Err-BadImage.is at c.in-Err-BadImage.field-0-is))) c.put_refusal-in-Err-BadImage.ensures
