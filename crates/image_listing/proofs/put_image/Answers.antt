use Rattle.std.specs.Prelude.{None}
use borrow.Author.Rules.{rules}
use Rattle.image_text.proofs.Printed.{wrote_as, prints_refused, is_read, prints_none, prints_lowered}
use Rattle.image_listing.proofs.Ways.{type_there, type_missing}
use Rattle.image_listing.proofs.put_image.Goals as goal

pub start_type-requires : goal.start_type-requires
start_type-requires c = is_read _ c.read_image.ensures c.in-Some.is

pub put_lowered-requires : goal.put_lowered-requires
put_lowered-requires c = let read = is_read _ c.read_image.ensures c.in-Some.is in (read.0, read.1, (type_there _ c.in-Some-start_type.is c.start_type.ensures).1)

pub returns-in-None : goal.returns-in-None
returns-in-None c = wrote_as (prints_refused _ c.read_image.ensures c.in-None.is) c.put_refusal.ensures

pub returns-in-None-start_type : goal.returns-in-None-start_type
returns-in-None-start_type c = wrote_as (prints_none _ (is_read _ c.read_image.ensures c.in-Some.is).0 (type_missing _ c.in-None-start_type.is c.start_type.ensures)) c.put_refusal-in-None-start_type.ensures

pub returns-in-Some-start_type : goal.returns-in-Some-start_type
returns-in-Some-start_type c = wrote_as (prints_lowered _ (is_read _ c.read_image.ensures c.in-Some.is).0 (type_there _ c.in-Some-start_type.is c.start_type.ensures).0) c.put_lowered.ensures
