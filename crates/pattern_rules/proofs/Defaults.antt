-- What a default arm answers, for each kind that it stands for. Assumes nothing.
use Prim.Native.Nat.{ℕ}
use mathlib.Core.Path.{◌≡◌, refl}
use mathlib.Core.Bool.{true}
use mathlib.Core.List.{List, [], ◌∷◌}
use types.Run.{OneOf, miss}
use denote.Enum.Declared as Declared
use Rattle.image.specs.declared.kinds.OperandKind.{OperandKind}
use Rattle.image.specs.declared.kinds.PatKind.{PatKind}
use Rattle.image.specs.declared.rows.PatRow.{PatRow}
use Rattle.image.specs.Operands.{operand_value_holds}
use Rattle.image.specs.Patterns.{pattern_shape_holds}
use Rattle.image.specs.contracts.kinds.OperandKind as operand-kind
use Rattle.image.specs.contracts.kinds.PatKind as pat-kind

-- an operand of any bytes
pub any_bytes : (kind : OperandKind) (bytes : List ℕ) → OneOf (4 ∷ 5 ∷ 6 ∷ 8 ∷ 9 ∷ []) (Declared.tag_of operand-kind.the_type kind) → true ≡ operand_value_holds kind bytes
unfolding operand_value_holds
any_bytes OperandKind.Int bytes h = absurd (miss (4 ∷ 5 ∷ 6 ∷ 8 ∷ 9 ∷ []) 0 tt h)
any_bytes OperandKind.Uint bytes h = absurd (miss (4 ∷ 5 ∷ 6 ∷ 8 ∷ 9 ∷ []) 1 tt h)
any_bytes OperandKind.Char bytes h = absurd (miss (4 ∷ 5 ∷ 6 ∷ 8 ∷ 9 ∷ []) 2 tt h)
any_bytes OperandKind.Bool bytes h = absurd (miss (4 ∷ 5 ∷ 6 ∷ 8 ∷ 9 ∷ []) 3 tt h)
any_bytes OperandKind.Str bytes h = refl
any_bytes OperandKind.CStr bytes h = refl
any_bytes OperandKind.ByteStr bytes h = refl
any_bytes OperandKind.Constant bytes h = absurd (miss (4 ∷ 5 ∷ 6 ∷ 8 ∷ 9 ∷ []) 7 tt h)
any_bytes OperandKind.Float bytes h = refl
any_bytes OperandKind.Other bytes h = refl
any_bytes OperandKind.Unknown bytes h = absurd (miss (4 ∷ 5 ∷ 6 ∷ 8 ∷ 9 ∷ []) 10 tt h)

-- a pattern whose row names nothing
pub names_nothing_lem : (kind : PatKind) (image : List ℕ) (row : PatRow) → OneOf (0 ∷ 1 ∷ 2 ∷ 3 ∷ 13 ∷ 14 ∷ 15 ∷ 16 ∷ []) (Declared.tag_of pat-kind.the_type kind) → true ≡ pattern_shape_holds kind image row
unfolding pattern_shape_holds
names_nothing_lem PatKind.Missing image row h = refl
names_nothing_lem PatKind.Rest image row h = refl
names_nothing_lem PatKind.NotNull image row h = refl
names_nothing_lem PatKind.Wild image row h = refl
names_nothing_lem PatKind.Tuple image row h = absurd (miss (0 ∷ 1 ∷ 2 ∷ 3 ∷ 13 ∷ 14 ∷ 15 ∷ 16 ∷ []) 4 tt h)
names_nothing_lem PatKind.Or image row h = absurd (miss (0 ∷ 1 ∷ 2 ∷ 3 ∷ 13 ∷ 14 ∷ 15 ∷ 16 ∷ []) 5 tt h)
names_nothing_lem PatKind.Record image row h = absurd (miss (0 ∷ 1 ∷ 2 ∷ 3 ∷ 13 ∷ 14 ∷ 15 ∷ 16 ∷ []) 6 tt h)
names_nothing_lem PatKind.Range image row h = absurd (miss (0 ∷ 1 ∷ 2 ∷ 3 ∷ 13 ∷ 14 ∷ 15 ∷ 16 ∷ []) 7 tt h)
names_nothing_lem PatKind.Slice image row h = absurd (miss (0 ∷ 1 ∷ 2 ∷ 3 ∷ 13 ∷ 14 ∷ 15 ∷ 16 ∷ []) 8 tt h)
names_nothing_lem PatKind.Path image row h = absurd (miss (0 ∷ 1 ∷ 2 ∷ 3 ∷ 13 ∷ 14 ∷ 15 ∷ 16 ∷ []) 9 tt h)
names_nothing_lem PatKind.Lit image row h = absurd (miss (0 ∷ 1 ∷ 2 ∷ 3 ∷ 13 ∷ 14 ∷ 15 ∷ 16 ∷ []) 10 tt h)
names_nothing_lem PatKind.Bind image row h = absurd (miss (0 ∷ 1 ∷ 2 ∷ 3 ∷ 13 ∷ 14 ∷ 15 ∷ 16 ∷ []) 11 tt h)
names_nothing_lem PatKind.TupleStruct image row h = absurd (miss (0 ∷ 1 ∷ 2 ∷ 3 ∷ 13 ∷ 14 ∷ 15 ∷ 16 ∷ []) 12 tt h)
names_nothing_lem PatKind.Ref image row h = refl
names_nothing_lem PatKind.Expr image row h = refl
names_nothing_lem PatKind.Box image row h = refl
names_nothing_lem PatKind.Deref image row h = refl
names_nothing_lem PatKind.Unknown image row h = absurd (miss (0 ∷ 1 ∷ 2 ∷ 3 ∷ 13 ∷ 14 ∷ 15 ∷ 16 ∷ []) 17 tt h)
