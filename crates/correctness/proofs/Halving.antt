-- The halves of a lowered constant are below 2^64. Assumes nothing.
use Prim.Native.Nat.{ℕ, zero, suc, ◌+◌, ◌≤◌, ◌<◌}
use native.Mathlib.Omega.{arith}
use mathlib.Core.Path.{◌≡◌, refl, subst}
use mathlib.Core.Bool.{Bool, true, false≢true}
use mathlib.Core.List.{List, [], ◌∷◌}
use borrow.Author.Tests.{eqb-true, leb-true}
use lib.Dec.{eqb, leb}
use lib.ListN.{length, get_or, take, drop, length-take, length-drop}
use lib.Seq.{get_or-drop, take_all}
use Rattle.image.specs.declared.kinds.OperandKind.{OperandKind}
use Rattle.image.specs.Bytes.{little_endian}
use Rattle.image.specs.Operands.{is_scalar_value, operand_value_holds}
use Rattle.image.specs.Rules.{is_integer_size}
use Rattle.image.specs.Types.{Shape, integer, bool, char, str, tuple, adt, reference, array, slice, unknown, ty_of, Operand}
use Rattle.image.proofs.Bools.{and_left, and_right}
use Rattle.refusals.specs.declared.MirLowerError.{MirLowerError}
use Rattle.refusals.specs.Refusals.{done, stopped}
use Rattle.mir.specs.declared.rvalues.Constant.{Constant}
use Rattle.literals.specs.Literals.{constant_of, string_constant, integer_constant, literal_by, lower_literal_to_operand, lower_const_to_operand, literal_or_const_by, lower_literal_or_const_to_operand}
use Rattle.views.proofs.ReadBack.{Small}
use Rattle.meaning.specs.Fit.{literal_fits, end_fits}
use Rattle.meaning.proofs.Cutting.{Bytes, little_small, size_some}
use Rattle.meaning.proofs.Constants.{Lies, Sized}

-- an operand of an image, of at most 65,535 bytes
pub record Drawn (image : List ℕ) (o : Operand) : Type 0 where
  pub lies : Lies image o
  pub short : length o.bytes < 65536

-- the first of some bytes are bytes
bytes_take : (n : ℕ) (xs : List ℕ) → Bytes xs → Bytes (take n xs)
bytes_take zero xs h i = omega arith
bytes_take (suc n) [] h i = h i
bytes_take (suc n) (x ∷ xs) h zero = h 0
bytes_take (suc n) (x ∷ xs) h (suc i) = bytes_take n xs (λ j. h (suc j)) i

-- those behind the first are bytes
bytes_drop : (n : ℕ) (xs : List ℕ) → Bytes xs → Bytes (drop n xs)
bytes_drop n xs h i = rw (get_or-drop n xs i 0) (h (n + i))

-- at most 16 bytes
bytes_small : (t : ℕ) (bytes : List ℕ) → Bytes bytes → length bytes ≤ 16 → Small (constant_of t bytes)
unfolding constant_of
bytes_small t bytes small few = (
  little_small 8 bytes small,
  subst (λ (xs : List ℕ). little_endian xs < 18446744073709551616) (take_all 8 (drop 8 bytes) (omega (arith, length-drop 8 bytes))) (little_small 8 (drop 8 bytes) (bytes_drop 8 bytes small)),
)

-- what was given is what was given
ok_is : {A : Type 0} {a b : A} → done a ≡ done b → a ≡ b
ok_is e = cc

-- a refusal gives no constant
not_ok : {A : Type 0} {x : MirLowerError} {b : A} → stopped x ≡ done b → ⊥
not_ok e = let z : ◌≡◌ {A = ℕ} 0 1 = cc in omega arith

-- an integer literal's, which is cut to its type's size
integer_small : (s : Shape) (t : ℕ) (bytes : List ℕ) (k : Constant) → ((size : ℕ) (signed : Bool) → s ≡ integer size signed → is_integer_size size ≡ true) → Bytes bytes →
    integer_constant s t bytes ≡ done k → Small k
unfolding integer_constant
integer_small (integer size signed) t bytes k sizes small e =
    let sized = size_some size (sizes size signed refl) in
    subst (λ (x : Constant). Small x) (ok_is e) (bytes_small t (take size bytes) (bytes_take size bytes small) (omega (arith, length-take size bytes, sized.1)))
integer_small bool t bytes k sizes small e = absurd (not_ok e)
integer_small char t bytes k sizes small e = absurd (not_ok e)
integer_small str t bytes k sizes small e = absurd (not_ok e)
integer_small (tuple ts) t bytes k sizes small e = absurd (not_ok e)
integer_small (adt kind variants) t bytes k sizes small e = absurd (not_ok e)
integer_small (reference u) t bytes k sizes small e = absurd (not_ok e)
integer_small (array u n) t bytes k sizes small e = absurd (not_ok e)
integer_small (slice u) t bytes k sizes small e = absurd (not_ok e)
integer_small unknown t bytes k sizes small e = absurd (not_ok e)

module _ (image : List ℕ) (t : ℕ) (sized : Sized image t) where
  -- a literal's, by its kind
  literal_by_lem : (kind : OperandKind) (offset : ℕ) (bytes : List ℕ) (k : Constant) → operand_value_holds kind bytes ≡ true → Bytes bytes → length bytes < 65536 →
      literal_fits kind image (ty_of image t).shape bytes ≡ true → literal_by kind image t offset bytes ≡ done k → Small k
  unfolding literal_by literal_fits operand_value_holds string_constant
  literal_by_lem OperandKind.Int offset bytes k holds small short fits e = integer_small (ty_of image t).shape t bytes k sized.sizes small e
  literal_by_lem OperandKind.Uint offset bytes k holds small short fits e = integer_small (ty_of image t).shape t bytes k sized.sizes small e
  literal_by_lem OperandKind.Char offset bytes k holds small short fits e =
      subst (λ (x : Constant). Small x) (ok_is e) (bytes_small t bytes small (omega (arith, eqb-true (length bytes) 4 (and_left (eqb (length bytes) 4) (is_scalar_value (little_endian bytes)) holds))))
  literal_by_lem OperandKind.Bool offset bytes k holds small short fits e =
      subst (λ (x : Constant). Small x) (ok_is e) (bytes_small t bytes small (omega (arith, eqb-true (length bytes) 1 (and_left (eqb (length bytes) 1) (leb (get_or bytes 0 0) 1) holds))))
  literal_by_lem OperandKind.Str offset bytes k holds small short fits e = subst (λ (x : Constant). Small x) (ok_is e) (omega arith, omega arith)
  literal_by_lem OperandKind.CStr offset bytes k holds small short fits e = absurd (false≢true fits)
  literal_by_lem OperandKind.ByteStr offset bytes k holds small short fits e = absurd (false≢true fits)
  literal_by_lem OperandKind.Constant offset bytes k holds small short fits e = absurd (false≢true fits)
  literal_by_lem OperandKind.Float offset bytes k holds small short fits e = absurd (false≢true fits)
  literal_by_lem OperandKind.Other offset bytes k holds small short fits e = absurd (false≢true fits)
  literal_by_lem OperandKind.Unknown offset bytes k holds small short fits e = absurd (false≢true fits)

  module _ (o : Operand) (d : Drawn image o) where
    -- a literal's
    pub literal_small : (k : Constant) → literal_fits o.kind image (ty_of image t).shape o.bytes ≡ true → lower_literal_to_operand image t o ≡ done k → Small k
    unfolding lower_literal_to_operand
    literal_small k fits e = literal_by_lem o.kind o.offset o.bytes k d.lies.holds d.lies.small d.short fits e

    -- an evaluated constant's
    pub constant_small : o.kind ≡ OperandKind.Constant → Small (lower_const_to_operand t o)
    unfolding lower_const_to_operand operand_value_holds
    constant_small kind =
        let holds : operand_value_holds OperandKind.Constant o.bytes ≡ true = subst (λ (x : OperandKind). operand_value_holds x o.bytes ≡ true) kind d.lies.holds in
        bytes_small t o.bytes d.lies.small (leb-true (length o.bytes) 16 (and_right (leb 1 (length o.bytes)) (leb (length o.bytes) 16) holds))

    -- that of the end of a range
    pub end_small : (k : Constant) → end_fits o.kind (ty_of image t).shape o.bytes ≡ true → lower_literal_or_const_to_operand image t o ≡ done k → Small k
    unfolding lower_literal_or_const_to_operand literal_or_const_by end_fits literal_fits
    end_small k fits e = by o.kind refl fits e
      where
        by : (kind : OperandKind) → o.kind ≡ kind → end_fits kind (ty_of image t).shape o.bytes ≡ true → literal_or_const_by kind image t o ≡ done k → Small k
        by OperandKind.Int q fits e = literal_small k (rw q fits) e
        by OperandKind.Uint q fits e = literal_small k (rw q fits) e
        by OperandKind.Char q fits e = literal_small k (rw q fits) e
        by OperandKind.Bool q fits e = absurd (false≢true fits)
        by OperandKind.Str q fits e = absurd (false≢true fits)
        by OperandKind.CStr q fits e = absurd (false≢true fits)
        by OperandKind.ByteStr q fits e = absurd (false≢true fits)
        by OperandKind.Constant q fits e = subst (λ (x : Constant). Small x) (ok_is e) (constant_small q)
        by OperandKind.Float q fits e = absurd (false≢true fits)
        by OperandKind.Other q fits e = absurd (false≢true fits)
        by OperandKind.Unknown q fits e = absurd (false≢true fits)
