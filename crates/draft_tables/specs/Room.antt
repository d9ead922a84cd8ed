-- Counts within the limits beside a sheet's: "At most T 256, .. P 512 .., B 256, L 2,048, D 16,384". Assumes nothing: these are definitions.
use Rattle.std.specs.Prelude.{◌+◌, ◌≤◌}
use Rattle.image.specs.declared.Tables.{Tables}
use Rattle.draft_tables.specs.declared.DraftCounts.{DraftCounts}

pub record DraftRoom (tables : Tables) (c : DraftCounts) : Type 0 where
  pub types : tables.types.count + c.types ≤ 256
  pub patterns : tables.patterns.count + c.patterns ≤ 512
  pub bindings : tables.bindings.count + c.bindings ≤ 256
  pub words : tables.list.count + c.words ≤ 2048
  pub bytes : tables.bytes.count + c.bytes ≤ 16384
  pub height : c.height ≤ 16384
