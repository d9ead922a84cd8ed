-- What a default arm answers, for each kind that it stands for. Assumes nothing.
use mathlib.Core.Path.{◌≡◌, refl}
use mathlib.Core.List.{[], ◌∷◌}
use types.Run.{OneOf, miss}
use denote.Enum.Declared as Declared
use Rattle.image.specs.declared.kinds.TypeKind.{TypeKind}
use Rattle.image.specs.contracts.kinds.TypeKind as type-kind
use Rattle.pattern_rows.specs.declared.Sequence.{Sequence}
use Rattle.pattern_rows.specs.Rows.{sequence_by}

pub no_sequence : (kind : TypeKind) → OneOf (0 ∷ 1 ∷ 2 ∷ 3 ∷ 4 ∷ 5 ∷ 6 ∷ 9 ∷ []) (Declared.tag_of type-kind.the_type kind) → Sequence.Other ≡ sequence_by kind
unfolding sequence_by
no_sequence TypeKind.Integer h = refl
no_sequence TypeKind.Bool h = refl
no_sequence TypeKind.Char h = refl
no_sequence TypeKind.Str h = refl
no_sequence TypeKind.Tuple h = refl
no_sequence TypeKind.Adt h = refl
no_sequence TypeKind.Reference h = refl
no_sequence TypeKind.Array h = absurd (miss (0 ∷ 1 ∷ 2 ∷ 3 ∷ 4 ∷ 5 ∷ 6 ∷ 9 ∷ []) 7 tt h)
no_sequence TypeKind.Slice h = absurd (miss (0 ∷ 1 ∷ 2 ∷ 3 ∷ 4 ∷ 5 ∷ 6 ∷ 9 ∷ []) 8 tt h)
no_sequence TypeKind.Unknown h = refl
