-- The subpatterns of a pattern, in order. Assumes nothing: these are definitions.
use Rattle.std.specs.Prelude.{ℕ, ◌+◌, cond, List, [], ◌∷◌, ◌++◌, eqb}
use Rattle.image.specs.declared.kinds.PatKind.{PatKind}
use Rattle.image.specs.declared.rows.PatRow.{PatRow}
use Rattle.image.specs.Kinds.{pat_kind}
use Rattle.image.specs.Rows.{pat_at}
use Rattle.image.specs.Rules.{absent, listed}

-- a number that may be absent, as a list
unfoldable pub if_present : ℕ → List ℕ
if_present w = cond (eqb w absent) [] (w ∷ [])

-- the items of a Tuple, an Or, a Record (the second of each two words), a Slice (prefix, suffix, and its rest) and a TupleStruct; a Bind's and a
-- Ref's subpattern
unfoldable pub subpatterns_by : PatKind → List ℕ → PatRow → List ℕ
subpatterns_by PatKind.Missing image row = []
subpatterns_by PatKind.Rest image row = []
subpatterns_by PatKind.NotNull image row = []
subpatterns_by PatKind.Wild image row = []
subpatterns_by PatKind.Tuple image row = listed image 1 row.a row.b
subpatterns_by PatKind.Or image row = listed image 1 row.a row.b
subpatterns_by PatKind.Record image row = listed image 2 (row.a + 1) row.b
subpatterns_by PatKind.Range image row = []
subpatterns_by PatKind.Slice image row = listed image 1 row.a row.b ++ (listed image 1 (row.a + row.b) row.c ++ if_present row.d)
subpatterns_by PatKind.Path image row = []
subpatterns_by PatKind.Lit image row = []
subpatterns_by PatKind.Bind image row = if_present row.b
subpatterns_by PatKind.TupleStruct image row = listed image 1 row.a row.b
subpatterns_by PatKind.Ref image row = row.a ∷ []
subpatterns_by PatKind.Expr image row = []
subpatterns_by PatKind.Box image row = []
subpatterns_by PatKind.Deref image row = []
subpatterns_by PatKind.Unknown image row = []

abbrev pub subpatterns : List ℕ → ℕ → List ℕ
subpatterns image p = subpatterns_by (pat_kind (pat_at image p).kind) image (pat_at image p)
