-- The number of a pattern's kind: that of a Record is 6, and that of a TupleStruct 12. Assumes nothing.
use Prim.Native.Nat.{ℕ, zero, suc, ◌+◌, ◌≤◌, ◌<◌}
use mathlib.Core.Path.{◌≡◌, refl, sym, ap}
use mathlib.Core.Bool.{Bool, true, false}
use native.Mathlib.Omega.{arith}
use borrow.Author.Tests.{ltb-true, ltb-false}
use lib.Dec.{ltb}
use lib.ListN.{get_or, get_or-map}
use Rattle.image.specs.declared.kinds.PatKind.{PatKind}
use Rattle.image.specs.declared.rows.PatRow.{PatRow}
use Rattle.image.specs.Kinds.{pat_kinds, pat_kind}
use Rattle.image.specs.Lists.{up_from}
use Rattle.pattern_rows.specs.declared.AdtPatternShape.{AdtPatternShape}
use Rattle.pattern_rows.specs.Rows.{variant_word, variant_shape}

-- the number of each kind
unfoldable number : PatKind → ℕ
number PatKind.Missing = 0
number PatKind.Rest = 1
number PatKind.NotNull = 2
number PatKind.Wild = 3
number PatKind.Tuple = 4
number PatKind.Or = 5
number PatKind.Record = 6
number PatKind.Range = 7
number PatKind.Slice = 8
number PatKind.Path = 9
number PatKind.Lit = 10
number PatKind.Bind = 11
number PatKind.TupleStruct = 12
number PatKind.Ref = 13
number PatKind.Expr = 14
number PatKind.Box = 15
number PatKind.Deref = 16
number PatKind.Unknown = 17

-- the number n of those from a on
from_at : (a m n d : ℕ) → n < m → get_or (up_from a m) n d ≡ a + n
unfolding up_from
from_at a zero n d h = absurd (omega arith)
from_at a (suc m) zero d h = omega arith
from_at a (suc m) (suc n) d h = let e = from_at (a + 1) m n d (omega arith) in omega arith

-- behind their last there is none
from_past : (a m n d : ℕ) → m ≤ n → get_or (up_from a m) n d ≡ d
unfolding up_from
from_past a zero n d h = refl
from_past a (suc m) zero d h = absurd (omega arith)
from_past a (suc m) (suc n) d h = from_past (a + 1) m n d (omega arith)

-- the number of the kind of the number n: n, or 17
number_at_lem : (n : ℕ) → number (pat_kind n) ≡ get_or (up_from 0 17) n 17
unfolding number up_from
number_at_lem n = sym (get_or-map number pat_kinds n PatKind.Unknown)

-- a number whose kind has the number k is k
number_back : (n k : ℕ) → number (pat_kind n) ≡ k → k < 17 → n ≡ k
number_back n k e h = by (ltb n 17) refl
  where
    by : (b : Bool) → ltb n 17 ≡ b → n ≡ k
    by true t = omega (arith, e, number_at_lem n, from_at 0 17 n 17 (ltb-true n 17 t))
    by false t = omega (arith, e, h, number_at_lem n, from_past 0 17 n 17 (ltb-false n 17 t))

-- a Record's kind word
record_number : (row : PatRow) → pat_kind row.kind ≡ PatKind.Record → row.kind ≡ 6
unfolding number
record_number row e = number_back row.kind 6 (ap number e) (omega arith)

-- a TupleStruct's
tuple_struct_number : (row : PatRow) → pat_kind row.kind ≡ PatKind.TupleStruct → row.kind ≡ 12
unfolding number
tuple_struct_number row e = number_back row.kind 12 (ap number e) (omega arith)

-- a Path's
path_number : (row : PatRow) → pat_kind row.kind ≡ PatKind.Path → row.kind ≡ 9
unfolding number
path_number row e = number_back row.kind 9 (ap number e) (omega arith)

-- the variant's word and the arguments of each of the three
pub record_word : (row : PatRow) → pat_kind row.kind ≡ PatKind.Record → variant_word row ≡ row.c
unfolding variant_word
record_word row e = rw (record_number row e)

pub record_shape : (row : PatRow) → pat_kind row.kind ≡ PatKind.Record → variant_shape row ≡ AdtPatternShape.Record row.a row.b
unfolding variant_shape
record_shape row e = rw (record_number row e)

pub tuple_struct_word : (row : PatRow) → pat_kind row.kind ≡ PatKind.TupleStruct → variant_word row ≡ row.d
unfolding variant_word
tuple_struct_word row e = rw (tuple_struct_number row e)

pub tuple_struct_shape : (row : PatRow) → pat_kind row.kind ≡ PatKind.TupleStruct → variant_shape row ≡ AdtPatternShape.Tuple row.a row.b row.c
unfolding variant_shape
tuple_struct_shape row e = rw (tuple_struct_number row e)

pub path_word_lem : (row : PatRow) → pat_kind row.kind ≡ PatKind.Path → variant_word row ≡ row.b
unfolding variant_word
path_word_lem row e = rw (path_number row e)

pub path_shape : (row : PatRow) → pat_kind row.kind ≡ PatKind.Path → variant_shape row ≡ AdtPatternShape.Unit
unfolding variant_shape
path_shape row e = rw (path_number row e)
