-- The types that a context and the parts of a node name are the sheet's. Assumes nothing: these are definitions.
use Rattle.std.specs.Prelude.{ℕ, ◌+◌, ◌<◌, List}
use Rattle.image.specs.Tables.{type_count}
use Rattle.image.specs.Rows.{list_at}
use Rattle.pattern_typing.specs.Crossing.{FieldTypes}
use Rattle.pattern_typing.specs.Contexts.{Context, typed, rest_among, field_at, partless, unseen, PartsRead, unseen_parts, same_parts, target_part, argument_parts, item_parts, field_parts, field_part}

abbrev pub ContextKnown : List ℕ → Context → Type 0
ContextKnown sheet (typed t mode) = t < type_count sheet
ContextKnown sheet (rest_among t others mode) = t < type_count sheet
ContextKnown sheet (field_at t v mode) = t < type_count sheet
ContextKnown sheet partless = Unit
ContextKnown sheet unseen = Unit

-- each field's type
abbrev pub FieldsKnown : List ℕ → FieldTypes → Type 0
FieldsKnown sheet fields = (i : ℕ) → i < fields.count → list_at sheet (fields.start + i) < type_count sheet

abbrev pub PartsKnown : List ℕ → PartsRead → Type 0
PartsKnown sheet unseen_parts = Unit
PartsKnown sheet (same_parts t mode) = t < type_count sheet
PartsKnown sheet (target_part mutable t) = t < type_count sheet
PartsKnown sheet (argument_parts fields mode before many) = FieldsKnown sheet fields
PartsKnown sheet (item_parts t mode before many) = t < type_count sheet
PartsKnown sheet (field_parts t v mode) = t < type_count sheet
PartsKnown sheet (field_part fields mode number) = FieldsKnown sheet fields
