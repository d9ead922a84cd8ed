-- What a default arm answers, for each kind that it stands for. Assumes nothing.
use Prim.Native.Nat.{ℕ}
use mathlib.Core.Bool.{true}
use mathlib.Core.List.{List, [], ◌∷◌}
use types.Run.{OneOf, miss}
use denote.Enum.Declared as Declared
use Rattle.image.specs.declared.kinds.PatKind.{PatKind}
use Rattle.image.specs.declared.rows.PatRow.{PatRow}
use Rattle.image.specs.Subpatterns.{subpatterns_by}
use Rattle.image.specs.contracts.kinds.PatKind as pat-kind
use Rattle.marks.specs.Marks.{Taken}
use Rattle.marks.proofs.Takes.{taken_none}

-- a pattern without subpatterns
pub no_subpatterns : (kind : PatKind) (image : List ℕ) (row : PatRow) (bound : ℕ) (marks : List ℕ) → OneOf (0 ∷ 1 ∷ 2 ∷ 3 ∷ 7 ∷ 9 ∷ 10 ∷ 14 ∷ 15 ∷ 16 ∷ 17 ∷ []) (Declared.tag_of pat-kind.the_type kind) → Taken bound marks marks (subpatterns_by kind image row) true
unfolding subpatterns_by
no_subpatterns PatKind.Missing image row bound marks h = taken_none bound marks
no_subpatterns PatKind.Rest image row bound marks h = taken_none bound marks
no_subpatterns PatKind.NotNull image row bound marks h = taken_none bound marks
no_subpatterns PatKind.Wild image row bound marks h = taken_none bound marks
no_subpatterns PatKind.Tuple image row bound marks h = absurd (miss (0 ∷ 1 ∷ 2 ∷ 3 ∷ 7 ∷ 9 ∷ 10 ∷ 14 ∷ 15 ∷ 16 ∷ 17 ∷ []) 4 tt h)
no_subpatterns PatKind.Or image row bound marks h = absurd (miss (0 ∷ 1 ∷ 2 ∷ 3 ∷ 7 ∷ 9 ∷ 10 ∷ 14 ∷ 15 ∷ 16 ∷ 17 ∷ []) 5 tt h)
no_subpatterns PatKind.Record image row bound marks h = absurd (miss (0 ∷ 1 ∷ 2 ∷ 3 ∷ 7 ∷ 9 ∷ 10 ∷ 14 ∷ 15 ∷ 16 ∷ 17 ∷ []) 6 tt h)
no_subpatterns PatKind.Range image row bound marks h = taken_none bound marks
no_subpatterns PatKind.Slice image row bound marks h = absurd (miss (0 ∷ 1 ∷ 2 ∷ 3 ∷ 7 ∷ 9 ∷ 10 ∷ 14 ∷ 15 ∷ 16 ∷ 17 ∷ []) 8 tt h)
no_subpatterns PatKind.Path image row bound marks h = taken_none bound marks
no_subpatterns PatKind.Lit image row bound marks h = taken_none bound marks
no_subpatterns PatKind.Bind image row bound marks h = absurd (miss (0 ∷ 1 ∷ 2 ∷ 3 ∷ 7 ∷ 9 ∷ 10 ∷ 14 ∷ 15 ∷ 16 ∷ 17 ∷ []) 11 tt h)
no_subpatterns PatKind.TupleStruct image row bound marks h = absurd (miss (0 ∷ 1 ∷ 2 ∷ 3 ∷ 7 ∷ 9 ∷ 10 ∷ 14 ∷ 15 ∷ 16 ∷ 17 ∷ []) 12 tt h)
no_subpatterns PatKind.Ref image row bound marks h = absurd (miss (0 ∷ 1 ∷ 2 ∷ 3 ∷ 7 ∷ 9 ∷ 10 ∷ 14 ∷ 15 ∷ 16 ∷ 17 ∷ []) 13 tt h)
no_subpatterns PatKind.Expr image row bound marks h = taken_none bound marks
no_subpatterns PatKind.Box image row bound marks h = taken_none bound marks
no_subpatterns PatKind.Deref image row bound marks h = taken_none bound marks
no_subpatterns PatKind.Unknown image row bound marks h = taken_none bound marks
