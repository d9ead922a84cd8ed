-- A plain parameter, by its row. Assumes nothing: these are definitions.
use Rattle.std.specs.Prelude.{Bool, ◌&&◌, eqb, ltb}
use Rattle.image.specs.declared.rows.PatRow.{PatRow}

-- the row of a plain parameter `x`: a Bind (kind 11) with no subpattern, and with annotation 0 or 1
unfoldable pub is_plain : PatRow → Bool
is_plain row = eqb row.kind 11 && eqb row.b 65535 && ltb row.d 2
