-- Patterns at which a walk has nothing to do but to count the visit. Assumes nothing: these are definitions.
use Rattle.std.specs.Prelude.{ℕ, Bool, true, false, cond, ◌&&◌, List, eqb}
use Rattle.image.specs.declared.kinds.PatKind.{PatKind}
use Rattle.image.specs.declared.kinds.PathKind.{PathKind}
use Rattle.image.specs.declared.rows.PatRow.{PatRow}
use Rattle.image.specs.Kinds.{pat_kind, path_kind}
use Rattle.image.specs.Types.{operand_of}
use Rattle.pattern_matching.specs.declared.MatchingMode.{MatchingMode}
use Rattle.pattern_matching.specs.Modes.{is_check}
use Rattle.pattern_tests.specs.Testing.{is_literal}

-- in Check: a wildcard, and a Bind that has no subpattern, b being the subpattern's word
unfoldable pub idle_in_check : PatKind → ℕ → Bool
idle_in_check PatKind.Missing b = false
idle_in_check PatKind.Rest b = false
idle_in_check PatKind.NotNull b = false
idle_in_check PatKind.Wild b = true
idle_in_check PatKind.Tuple b = false
idle_in_check PatKind.Or b = false
idle_in_check PatKind.Record b = false
idle_in_check PatKind.Range b = false
idle_in_check PatKind.Slice b = false
idle_in_check PatKind.Path b = false
idle_in_check PatKind.Lit b = false
idle_in_check PatKind.Bind b = eqb b 65535
idle_in_check PatKind.TupleStruct b = false
idle_in_check PatKind.Ref b = false
idle_in_check PatKind.Expr b = false
idle_in_check PatKind.Box b = false
idle_in_check PatKind.Deref b = false
idle_in_check PatKind.Unknown b = false

-- a path that names a constant
unfoldable pub names_constant : PathKind → Bool
names_constant PathKind.Unresolved = false
names_constant PathKind.Variant = false
names_constant PathKind.Local = false
names_constant PathKind.Constant = true
names_constant PathKind.Other = false
names_constant PathKind.Unknown = false

-- beyond Check: a wildcard, and what only tests
unfoldable pub idle_beyond_check : PatKind → List ℕ → PatRow → Bool
idle_beyond_check PatKind.Missing image row = false
idle_beyond_check PatKind.Rest image row = false
idle_beyond_check PatKind.NotNull image row = false
idle_beyond_check PatKind.Wild image row = true
idle_beyond_check PatKind.Tuple image row = false
idle_beyond_check PatKind.Or image row = false
idle_beyond_check PatKind.Record image row = false
idle_beyond_check PatKind.Range image row = true
idle_beyond_check PatKind.Slice image row = false
idle_beyond_check PatKind.Path image row = names_constant (path_kind row.a)
idle_beyond_check PatKind.Lit image row = is_literal (operand_of image row.a).kind
idle_beyond_check PatKind.Bind image row = false
idle_beyond_check PatKind.TupleStruct image row = false
idle_beyond_check PatKind.Ref image row = false
idle_beyond_check PatKind.Expr image row = false
idle_beyond_check PatKind.Box image row = false
idle_beyond_check PatKind.Deref image row = false
idle_beyond_check PatKind.Unknown image row = false

-- a pattern that has no derefs, and at which a walk has nothing to do but to count the visit
unfoldable pub nothing_to_do : List ℕ → MatchingMode → PatRow → Bool
nothing_to_do image mode row =
    eqb row.derefs 0 && cond (is_check mode) (idle_in_check (pat_kind row.kind) row.b) (idle_beyond_check (pat_kind row.kind) image row)
