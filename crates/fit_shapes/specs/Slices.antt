-- The kind Rest, and a pattern's number that may be absent. Assumes nothing: these are definitions.
use Rattle.std.specs.Prelude.{ℕ, Bool, true, false, ◌||◌, List, eqb, ltb}
use Rattle.image.specs.declared.kinds.PatKind.{PatKind}
use Rattle.image.specs.Tables.{pattern_count}
use Rattle.image.specs.Rules.{absent}

-- a pattern's number that may be absent
abbrev pub pattern_or_absent : List ℕ → ℕ → Bool
pattern_or_absent image q = eqb q absent || ltb q (pattern_count image)

-- the kind of a Rest
abbrev pub rest_kind : PatKind → Bool
rest_kind PatKind.Missing = false
rest_kind PatKind.Rest = true
rest_kind PatKind.NotNull = false
rest_kind PatKind.Wild = false
rest_kind PatKind.Tuple = false
rest_kind PatKind.Or = false
rest_kind PatKind.Record = false
rest_kind PatKind.Range = false
rest_kind PatKind.Slice = false
rest_kind PatKind.Path = false
rest_kind PatKind.Lit = false
rest_kind PatKind.Bind = false
rest_kind PatKind.TupleStruct = false
rest_kind PatKind.Ref = false
rest_kind PatKind.Expr = false
rest_kind PatKind.Box = false
rest_kind PatKind.Deref = false
rest_kind PatKind.Unknown = false
