-- What patterns of an image have, beside fitting: their operands are drawn from it. Assumes nothing.
use Prim.Native.Nat.{ℕ, ◌+◌, ◌/◌, ◌<◌}
use native.Mathlib.Nat.{div-lt_iff_lt-mul}
use native.Mathlib.Omega.{arith}
use mathlib.Core.Path.{◌≡◌}
use mathlib.Core.Option.{Option, none, some}
use mathlib.Core.List.{List}
use lib.ListN.{drop}
use lib.Seq.{get_or-drop}
use Rattle.image.specs.declared.kinds.OperandKind.{OperandKind}
use Rattle.image.specs.Tables.{data_at}
use Rattle.image.specs.Rows.{variant_at}
use Rattle.image.specs.Types.{variant_of, Operand}
use Rattle.image.specs.Tree.{Target, unresolved, variant, local, constant, other, Pat, Pats, nil, cons, PatOpt, no, sub}
use Rattle.meaning.specs.Fit.{pat_count}
use Rattle.meaning.proofs.Cutting.{Bytes, little_small}
use Rattle.correctness.proofs.Halving.{Drawn}

-- what patterns of an image have: their operands are drawn from it, a path's constant is an evaluated one, and a Slice has fewer than 8,192 items
abbrev pub Drawn? : List ℕ → Option Operand → Type 0
Drawn? image none = Unit {0}
Drawn? image (some o) = Drawn image o

abbrev pub OfTarget : List ℕ → Target → Type 0
OfTarget image unresolved = Unit {0}
OfTarget image (variant v) = Unit {0}
OfTarget image (local b) = Unit {0}
OfTarget image (constant o) = Drawn image o × (o.kind ≡ OperandKind.Constant)
OfTarget image other = Unit {0}

module _ (image : List ℕ) where
  unfoldable mutual
    pub OfImage : Pat → Type 0
    OfImage (Pat.Missing h) = Unit {0}
    OfImage (Pat.Rest h) = Unit {0}
    OfImage (Pat.NotNull h) = Unit {0}
    OfImage (Pat.Wild h) = Unit {0}
    OfImage (Pat.Tuple h args ellipsis) = AllOfImage args
    OfImage (Pat.Or h alts) = AllOfImage alts
    OfImage (Pat.Record h fields args v) = AllOfImage args
    OfImage (Pat.Range h start end halfOpen) = Drawn? image start × Drawn? image end
    OfImage (Pat.Slice h prefix rest suffix) = (pat_count prefix + pat_count suffix < 8192) × AllOfImage prefix × AllOfImage suffix
    OfImage (Pat.Path h target) = OfTarget image target
    OfImage (Pat.Lit h operand) = Drawn image operand
    OfImage (Pat.Bind h b s how annotation) = OfImage? s
    OfImage (Pat.TupleStruct h args ellipsis v) = AllOfImage args
    OfImage (Pat.Ref h s) = OfImage s
    OfImage (Pat.Expr h) = Unit {0}
    OfImage (Pat.Box h) = Unit {0}
    OfImage (Pat.Deref h) = Unit {0}

    pub AllOfImage : Pats → Type 0
    AllOfImage nil = Unit {0}
    AllOfImage (cons q qs) = OfImage q × AllOfImage qs

    pub OfImage? : PatOpt → Type 0
    OfImage? no = Unit {0}
    OfImage? (sub s) = OfImage s

-- bytes behind the first are bytes
bytes_drop : (n : ℕ) (xs : List ℕ) → Bytes xs → Bytes (drop n xs)
bytes_drop n xs h i = rw (get_or-drop n xs i 0) (h (n + i))

-- the high half of a discriminant
pub discriminant_small : (image : List ℕ) (v : ℕ) → Bytes image → (variant_of image v).discriminant / 18446744073709551616 < 18446744073709551616
unfolding variant_of
discriminant_small image v small =
    let at = data_at image + (variant_at image v).discriminant in
    (div-lt_iff_lt-mul {k = 18446744073709551616} (omega arith)).1 (little_small 16 (drop at image) (bytes_drop at image small))
