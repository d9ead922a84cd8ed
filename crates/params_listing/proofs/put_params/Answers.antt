use borrow.Author.Rules.{rules}
use Rattle.image_text.proofs.Printed.{wrote_as, is_read}
use Rattle.params_listing.proofs.Ways.{too_few, prints_refused, prints_lowered}
use Rattle.params_listing.proofs.put_params.Goals as goal

pub returns-in_default : goal.returns-in_default
returns-in_default c = wrote_as (prints_refused _ _ c.read_image.ensures c.in_default.is) c.put_refusal.ensures

pub returns-then-words-lt4 : goal.returns-then-words-lt4
returns-then-words-lt4 c = wrote_as (too_few _ _ (is_read _ c.read_image.ensures c.in-Some.is).0 c.if-words-lt4.true) c.put_refusal-then-words-lt4.ensures

pub put_lowered-requires : goal.put_lowered-requires
put_lowered-requires c = is_read _ c.read_image.ensures c.in-Some.is

pub returns : goal.returns
returns c = wrote_as (prints_lowered _ _ (is_read _ c.read_image.ensures c.in-Some.is).0 c.if-words-lt4.false c.call_words-call.ensures) c.put_lowered.ensures
