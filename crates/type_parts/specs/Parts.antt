-- What the numbers of types, fields, parts and contexts stand for. Assumes nothing: these are definitions.
use Rattle.std.specs.Prelude.{cond, eqb}
use Rattle.node_rows.specs.Nodes.{number_in}
use Rattle.pattern_typing.specs.Crossing.{Crossed, FieldTypes}
use Rattle.pattern_typing.specs.Contexts.{Context, typed, rest_among, field_at, partless, unseen, PartsRead, unseen_parts, same_parts, target_part, argument_parts, item_parts, field_parts, field_part}
use Rattle.type_parts.specs.declared.CrossedType.{CrossedType}
use Rattle.type_parts.specs.declared.FieldRun.{FieldRun}
use Rattle.type_parts.specs.declared.PartsRow.{PartsRow}
use Rattle.type_parts.specs.declared.PartContext.{PartContext}

abbrev pub crossed_of : CrossedType → Crossed
crossed_of c = record { ty = c.ty; derefs = c.derefs; mode = c.mode }

abbrev pub fields_of : FieldRun → FieldTypes
fields_of fields = record { start = fields.start; count = fields.count }

unfoldable pub context_of : PartContext → Context
context_of (PartContext.Typed t mode) = typed t mode
context_of (PartContext.RestAmong t others mode) = rest_among t others mode
context_of (PartContext.FieldAt t v mode) = field_at t v mode
context_of PartContext.Partless = partless
context_of PartContext.Unseen = unseen

-- the fields of a row of parts
abbrev pub fields_in : PartsRow → FieldTypes
fields_in row = record { start = row.a; count = row.b }

unfoldable pub parts_of : PartsRow → PartsRead
parts_of row =
    cond (eqb row.kind 0) unseen_parts
    (cond (eqb row.kind 1) (same_parts row.a row.mode)
    (cond (eqb row.kind 2) (target_part (eqb row.b 1) row.a)
    (cond (eqb row.kind 3) (argument_parts (fields_in row) row.mode (number_in row.c) row.many)
    (cond (eqb row.kind 4) (item_parts row.a row.mode (number_in row.c) row.many)
    (cond (eqb row.kind 5) (field_parts row.a row.b row.mode)
    (field_part (fields_in row) row.mode row.c))))))
