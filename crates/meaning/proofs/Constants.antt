-- What a lowered literal or constant is worth is what the Reference says of it. Assumes nothing.
use Prim.Native.Nat.{ℕ, zero, suc, ◌+◌, ◌<◌}
use mathlib.Core.Path.{◌≡◌, refl, sym, ap, ◌∙◌}
use mathlib.Core.Bool.{Bool, true, false, not, ◌&&◌, ◌||◌, false≢true}
use mathlib.Core.List.{List, [], ◌∷◌}
use native.Mathlib.Omega.{arith}
use borrow.Author.Tests.{leb-true, eqb-true, lt-ltb}
use lib.Dec.{eqb, leb}
use lib.ListN.{length, take, drop}
use lib.Seq.{get_or-drop}
use Rattle.image.specs.declared.kinds.OperandKind.{OperandKind}
use Rattle.image.specs.Bytes.{little_endian}
use Rattle.image.specs.Integers.{integer_value, in_range}
use Rattle.image.specs.Operands.{operand_value_holds, operand_lies, operand_holds}
use Rattle.image.specs.Rules.{is_flag, is_integer_size, type_shape_holds, within_limits}
use Rattle.image.specs.Types.{Shape, integer, bool, char, str, tuple, adt, reference, array, slice, unknown, shape_by, ty_of, Operand, operand_of}
use Rattle.image.specs.declared.kinds.TypeKind.{TypeKind}
use Rattle.image.specs.declared.rows.TypeRow.{TypeRow}
use Rattle.image.specs.Tables.{type_count, variant_count, pattern_count, binding_count, list_count, data_count, data_at}
use Rattle.image.specs.Kinds.{type_kind, operand_kind}
use Rattle.image.specs.Rows.{type_at, operand_at, operand_bytes}
use Rattle.image.specs.Valid.{rules, valid}
use Rattle.image.proofs.Bools.{and_left, and_right, all_true_at}
use Rattle.image.proofs.Known.{shape_holds}
use Rattle.refusals.specs.Refusals.{Result, done}
use Rattle.mir.specs.declared.rvalues.Constant.{Constant}
use Rattle.literals.specs.Literals.{constant_of, string_constant, integer_constant, literal_by, lower_literal_to_operand, lower_const_to_operand, literal_or_const_by, lower_literal_or_const_to_operand}
use Rattle.cases_spec.specs.Cases.{kind_number, referent}
use Rattle.meaning.specs.Values.{Value, Int, Bool', Char, Str, Reference, int_fits}
use Rattle.meaning.specs.Running.{data_bytes, signed_number, constant_number, constant_by, constant_value}
use Rattle.meaning.specs.Matching.{evaluated, created, operand_value}
use Rattle.meaning.specs.Fit.{integer_fits, refers_to_str, constant_fits, literal_fits, end_fits}
use Rattle.meaning.proofs.Cutting.{Bytes, little_split, cut, size_some}

-- an operand that holds, and whose bytes are those of the data
pub record Lies (image : List ℕ) (o : Operand) : Type 0 where
  pub holds : operand_value_holds o.kind o.bytes ≡ true
  pub small : Bytes o.bytes
  pub there : o.bytes ≡ data_bytes image o.offset (length o.bytes)

-- a type of the table, whose size is one of an integer's if it is an integer
pub record Sized (image : List ℕ) (t : ℕ) : Type 0 where
  pub few : t < 256
  pub sizes : (size : ℕ) (signed : Bool) → (ty_of image t).shape ≡ integer size signed → is_integer_size size ≡ true

-- a constant that is taken, and is worth a value
pub record Worth (image : List ℕ) (r : Result Constant) (v : Value) : Type 0 where
  pub constant : Constant
  pub taken : r ≡ done constant
  pub worth : constant_value image constant ≡ v

-- two halves of a constant are the number of its bytes
pub constant_number_lem : (t : ℕ) (bytes : List ℕ) → constant_number (constant_of t bytes) ≡ little_endian bytes
unfolding constant_of
constant_number_lem t bytes = little_split 8 bytes

only_char : (s : Shape) → eqb (kind_number s) 3 ≡ true → s ≡ char
unfolding kind_number
only_char (integer size signed) e = absurd (false≢true e)
only_char bool e = absurd (false≢true e)
only_char char e = refl
only_char str e = absurd (false≢true e)
only_char (tuple fields) e = absurd (false≢true e)
only_char (adt kind variants) e = absurd (false≢true e)
only_char (reference t) e = absurd (false≢true e)
only_char (array t n) e = absurd (false≢true e)
only_char (slice t) e = absurd (false≢true e)
only_char unknown e = absurd (false≢true e)

only_bool : (s : Shape) → eqb (kind_number s) 2 ≡ true → s ≡ bool
unfolding kind_number
only_bool (integer size signed) e = absurd (false≢true e)
only_bool bool e = refl
only_bool char e = absurd (false≢true e)
only_bool str e = absurd (false≢true e)
only_bool (tuple fields) e = absurd (false≢true e)
only_bool (adt kind variants) e = absurd (false≢true e)
only_bool (reference t) e = absurd (false≢true e)
only_bool (array t n) e = absurd (false≢true e)
only_bool (slice t) e = absurd (false≢true e)
only_bool unknown e = absurd (false≢true e)

only_reference : (image : List ℕ) (s : Shape) → refers_to_str image s ≡ true → (u : ℕ) × (s ≡ reference u)
unfolding refers_to_str referent
only_reference image (integer size signed) e = absurd (false≢true e)
only_reference image bool e = absurd (false≢true e)
only_reference image char e = absurd (false≢true e)
only_reference image str e = absurd (false≢true e)
only_reference image (tuple fields) e = absurd (false≢true e)
only_reference image (adt kind variants) e = absurd (false≢true e)
only_reference image (reference t) e = (t, refl)
only_reference image (array t n) e = absurd (false≢true e)
only_reference image (slice t) e = absurd (false≢true e)
only_reference image unknown e = absurd (false≢true e)

module _ (image : List ℕ) (t : ℕ) (few : t < 256) where
  -- a constant of a type of the table, by what the type is
  at_type : (c : Constant) (s : Shape) → c.ty ≡ t → (ty_of image t).shape ≡ s → constant_value image c ≡ constant_by s image c
  unfolding constant_value
  at_type c s d e = rw (d, lt-ltb t 256 few, e)

  -- an integer, cut to its type's size
  integer_worth : (as_signed : Bool) (bytes : List ℕ) (s : Shape) → (ty_of image t).shape ≡ s → ((size : ℕ) (signed : Bool) → s ≡ integer size signed → is_integer_size size ≡ true)
      → eqb (length bytes) 16 ≡ true → Bytes bytes → integer_fits s as_signed bytes ≡ true → Worth image (integer_constant (ty_of image t).shape t bytes) (Int (integer_value as_signed bytes))
  unfolding integer_fits integer_constant constant_by in_range int_fits
  integer_worth as_signed bytes (integer size signed) e sizes long small fits =
      let sized = size_some size (sizes size signed refl) in
      record {
        constant = constant_of t (take size bytes);
        taken = rw e;
        worth = at_type (constant_of t (take size bytes)) (integer size signed) (unfold constant_of in refl) e
            ∙ ap (λ (n : ℕ). Int (signed_number size signed n)) (constant_number_lem t (take size bytes))
            ∙ ap Int (cut bytes size as_signed signed small sized.0 (omega (arith, eqb-true (length bytes) 16 long)) fits);
      }
  integer_worth as_signed bytes bool e sizes long small fits = absurd (false≢true fits)
  integer_worth as_signed bytes char e sizes long small fits = absurd (false≢true fits)
  integer_worth as_signed bytes str e sizes long small fits = absurd (false≢true fits)
  integer_worth as_signed bytes (tuple fields) e sizes long small fits = absurd (false≢true fits)
  integer_worth as_signed bytes (adt kind variants) e sizes long small fits = absurd (false≢true fits)
  integer_worth as_signed bytes (reference u) e sizes long small fits = absurd (false≢true fits)
  integer_worth as_signed bytes (array u n) e sizes long small fits = absurd (false≢true fits)
  integer_worth as_signed bytes (slice u) e sizes long small fits = absurd (false≢true fits)
  integer_worth as_signed bytes unknown e sizes long small fits = absurd (false≢true fits)

  -- bytes as they are: what a constant of their number is worth
  bytes_worth : (bytes : List ℕ) (s : Shape) {v : Value} → (ty_of image t).shape ≡ s → constant_by s image (constant_of t bytes) ≡ v → constant_value image (constant_of t bytes) ≡ v
  bytes_worth bytes s e w = at_type (constant_of t bytes) s (unfold constant_of in refl) e ∙ w

  char_by : (bytes : List ℕ) → constant_by char image (constant_of t bytes) ≡ Char (little_endian bytes)
  unfolding constant_by
  char_by bytes = ap Char (constant_number_lem t bytes)

  bool_by : (bytes : List ℕ) → constant_by bool image (constant_of t bytes) ≡ Bool' (not (eqb (little_endian bytes) 0))
  unfolding constant_by
  bool_by bytes = ap (λ (n : ℕ). Bool' (not (eqb n 0))) (constant_number_lem t bytes)

  integer_by : (size : ℕ) (signed : Bool) (bytes : List ℕ) → length bytes ≡ size → constant_by (integer size signed) image (constant_of t bytes) ≡ Int (integer_value signed bytes)
  unfolding constant_by
  integer_by size signed bytes e = ap (λ (n : ℕ). Int (signed_number size signed n)) (constant_number_lem t bytes) ∙ ap (λ (n : ℕ). Int (signed_number n signed (little_endian bytes))) (sym e) ∙ ap Int (whole signed)
    where
      whole : (signed : Bool) → signed_number (length bytes) signed (little_endian bytes) ≡ integer_value signed bytes
      whole false = unfold signed_number integer_value in refl
      whole true = unfold signed_number integer_value in refl

  string_by : (u offset : ℕ) (bytes : List ℕ) → bytes ≡ data_bytes image offset (length bytes) → constant_by (reference u) image (string_constant t offset (length bytes)) ≡ Reference (Str bytes)
  unfolding constant_by string_constant referent
  string_by u offset bytes there = ap (λ (bs : List ℕ). Reference (Str bs)) (sym there)

  -- an evaluated constant, at what its type is
  evaluated_by : (bytes : List ℕ) (s : Shape) → constant_fits s bytes ≡ true → constant_by s image (constant_of t bytes) ≡ evaluated s bytes
  unfolding constant_fits evaluated
  evaluated_by bytes (integer size signed) fits = integer_by size signed bytes (eqb-true (length bytes) size fits)
  evaluated_by bytes bool fits = bool_by bytes
  evaluated_by bytes char fits = char_by bytes
  evaluated_by bytes str fits = absurd (false≢true fits)
  evaluated_by bytes (tuple fields) fits = absurd (false≢true fits)
  evaluated_by bytes (adt kind variants) fits = absurd (false≢true fits)
  evaluated_by bytes (reference u) fits = absurd (false≢true fits)
  evaluated_by bytes (array u n) fits = absurd (false≢true fits)
  evaluated_by bytes (slice u) fits = absurd (false≢true fits)
  evaluated_by bytes unknown fits = absurd (false≢true fits)

  -- a literal by its kind
  literal_by_lem : (kind : OperandKind) (offset : ℕ) (bytes : List ℕ) → ((size : ℕ) (signed : Bool) → (ty_of image t).shape ≡ integer size signed → is_integer_size size ≡ true)
      → operand_value_holds kind bytes ≡ true → Bytes bytes → bytes ≡ data_bytes image offset (length bytes) → literal_fits kind image (ty_of image t).shape bytes ≡ true
      → Worth image (literal_by kind image t offset bytes) (created kind (ty_of image t).shape bytes)
  unfolding literal_fits literal_by created operand_value_holds
  literal_by_lem OperandKind.Int offset bytes sizes holds small there fits = integer_worth true bytes (ty_of image t).shape refl sizes holds small fits
  literal_by_lem OperandKind.Uint offset bytes sizes holds small there fits = integer_worth false bytes (ty_of image t).shape refl sizes holds small fits
  literal_by_lem OperandKind.Char offset bytes sizes holds small there fits =
      record { constant = constant_of t bytes; taken = refl; worth = bytes_worth bytes char (only_char (ty_of image t).shape fits) (char_by bytes) }
  literal_by_lem OperandKind.Bool offset bytes sizes holds small there fits =
      record { constant = constant_of t bytes; taken = refl; worth = bytes_worth bytes bool (only_bool (ty_of image t).shape fits) (bool_by bytes) }
  literal_by_lem OperandKind.Str offset bytes sizes holds small there fits =
      let u = only_reference image (ty_of image t).shape fits in
      record {
        constant = string_constant t offset (length bytes);
        taken = refl;
        worth = at_type (string_constant t offset (length bytes)) (reference u.0) (unfold string_constant in refl) u.1 ∙ string_by u.0 offset bytes there;
      }
  literal_by_lem OperandKind.CStr offset bytes sizes holds small there fits = absurd (false≢true fits)
  literal_by_lem OperandKind.ByteStr offset bytes sizes holds small there fits = absurd (false≢true fits)
  literal_by_lem OperandKind.Constant offset bytes sizes holds small there fits = absurd (false≢true fits)
  literal_by_lem OperandKind.Float offset bytes sizes holds small there fits = absurd (false≢true fits)
  literal_by_lem OperandKind.Other offset bytes sizes holds small there fits = absurd (false≢true fits)
  literal_by_lem OperandKind.Unknown offset bytes sizes holds small there fits = absurd (false≢true fits)

module _ (image : List ℕ) (t : ℕ) (o : Operand) (sized : Sized image t) (lies : Lies image o) where
  -- a literal that fits is taken, and its constant is worth what the literal creates
  pub literal_taken : literal_fits o.kind image (ty_of image t).shape o.bytes ≡ true → Worth image (lower_literal_to_operand image t o) (operand_value image t o)
  unfolding lower_literal_to_operand
  literal_taken fits = literal_by_lem image t sized.few o.kind o.offset o.bytes sized.sizes lies.holds lies.small lies.there fits

  pub literal_worth : {c : Constant} → literal_fits o.kind image (ty_of image t).shape o.bytes ≡ true → lower_literal_to_operand image t o ≡ done c → constant_value image c ≡ operand_value image t o
  literal_worth fits e = let w = literal_taken fits in cc (w.taken, w.worth)

  -- an evaluated constant of its type's size
  pub constant_worth : o.kind ≡ OperandKind.Constant → constant_fits (ty_of image t).shape o.bytes ≡ true → constant_value image (lower_const_to_operand t o) ≡ operand_value image t o
  unfolding lower_const_to_operand created
  constant_worth k fits = rw k (bytes_worth image t sized.few o.bytes (ty_of image t).shape refl (evaluated_by image t sized.few o.bytes (ty_of image t).shape fits))

  -- the end of a range that fits is taken, and its constant is worth what the literal creates or the constant is
  pub end_taken : end_fits o.kind (ty_of image t).shape o.bytes ≡ true → Worth image (lower_literal_or_const_to_operand image t o) (operand_value image t o)
  unfolding lower_literal_or_const_to_operand
  end_taken fits = by o.kind refl fits
    where
      by : (kind : OperandKind) → o.kind ≡ kind → end_fits kind (ty_of image t).shape o.bytes ≡ true → Worth image (literal_or_const_by kind image t o) (operand_value image t o)
      by OperandKind.Int k f = unfold literal_or_const_by in literal_taken (rw k (unfold literal_fits end_fits in f))
      by OperandKind.Uint k f = unfold literal_or_const_by in literal_taken (rw k (unfold literal_fits end_fits in f))
      by OperandKind.Char k f = unfold literal_or_const_by in literal_taken (rw k (unfold literal_fits end_fits in f))
      by OperandKind.Constant k f =
          unfold literal_or_const_by in record {
            constant = lower_const_to_operand t o;
            taken = refl;
            worth = constant_worth k (and_left (constant_fits (ty_of image t).shape o.bytes) (eqb (kind_number (ty_of image t).shape) 1 || eqb (kind_number (ty_of image t).shape) 3) (unfold end_fits in f));
          }
      by OperandKind.Bool k f = absurd (false≢true (unfold end_fits in f))
      by OperandKind.Str k f = absurd (false≢true (unfold end_fits in f))
      by OperandKind.CStr k f = absurd (false≢true (unfold end_fits in f))
      by OperandKind.ByteStr k f = absurd (false≢true (unfold end_fits in f))
      by OperandKind.Float k f = absurd (false≢true (unfold end_fits in f))
      by OperandKind.Other k f = absurd (false≢true (unfold end_fits in f))
      by OperandKind.Unknown k f = absurd (false≢true (unfold end_fits in f))

  pub end_worth : {c : Constant} → end_fits o.kind (ty_of image t).shape o.bytes ≡ true → lower_literal_or_const_to_operand image t o ≡ done c → constant_value image c ≡ operand_value image t o
  end_worth fits e = let w = end_taken fits in cc (w.taken, w.worth)

bytes_take : (n : ℕ) (xs : List ℕ) → Bytes xs → Bytes (take n xs)
bytes_take zero xs h i = omega arith
bytes_take (suc n) [] h i = h i
bytes_take (suc n) (x ∷ xs) h zero = h 0
bytes_take (suc n) (x ∷ xs) h (suc i) = bytes_take n xs (λ j. h (suc j)) i

bytes_drop : (n : ℕ) (xs : List ℕ) → Bytes xs → Bytes (drop n xs)
bytes_drop n xs h i = rw (get_or-drop n xs i 0) (h (n + i))

-- taking as many as were there to take
take_taken : (n : ℕ) (xs : List ℕ) → take n xs ≡ take (length (take n xs)) xs
take_taken zero xs = refl
take_taken (suc n) [] = refl
take_taken (suc n) (x ∷ xs) = ap (λ (ys : List ℕ). x ∷ ys) (take_taken n xs)

-- an operand of an image
pub operand_lies_lem : (image : List ℕ) (k : ℕ) → Bytes image → operand_holds image k ≡ true → Lies image (operand_of image k)
unfolding operand_holds operand_of operand_bytes data_bytes
operand_lies_lem image k small holds =
    let row = operand_at image k in
    record {
      holds = and_right (leb (k + 3) (list_count image) && operand_lies image row) (operand_value_holds (operand_kind row.kind) (operand_bytes image row)) holds;
      small = bytes_take row.count (drop (data_at image + row.offset) image) (bytes_drop (data_at image + row.offset) image small);
      there = take_taken row.count (drop (data_at image + row.offset) image);
    }

-- the size of an integer, by the kind of its row
size_holds : (image : List ℕ) (kind : TypeKind) (row : TypeRow) (size : ℕ) (signed : Bool) → shape_by kind image row ≡ integer size signed → type_shape_holds kind image row ≡ true → is_integer_size size ≡ true
unfolding shape_by type_shape_holds
size_holds image TypeKind.Integer row size signed e h = let same : row.a ≡ size = cc in rw same at (and_left (is_integer_size row.a) (is_flag row.b) h)
size_holds image TypeKind.Bool row size signed e h = absurd (let z : ◌≡◌ {A = ℕ} 0 1 = cc in omega arith)
size_holds image TypeKind.Char row size signed e h = absurd (let z : ◌≡◌ {A = ℕ} 0 1 = cc in omega arith)
size_holds image TypeKind.Str row size signed e h = absurd (let z : ◌≡◌ {A = ℕ} 0 1 = cc in omega arith)
size_holds image TypeKind.Tuple row size signed e h = absurd (let z : ◌≡◌ {A = ℕ} 0 1 = cc in omega arith)
size_holds image TypeKind.Adt row size signed e h = absurd (let z : ◌≡◌ {A = ℕ} 0 1 = cc in omega arith)
size_holds image TypeKind.Reference row size signed e h = absurd (let z : ◌≡◌ {A = ℕ} 0 1 = cc in omega arith)
size_holds image TypeKind.Array row size signed e h = absurd (let z : ◌≡◌ {A = ℕ} 0 1 = cc in omega arith)
size_holds image TypeKind.Slice row size signed e h = absurd (let z : ◌≡◌ {A = ℕ} 0 1 = cc in omega arith)
size_holds image TypeKind.Unknown row size signed e h = absurd (false≢true h)

-- a type of a valid image
pub type_sized : (image : List ℕ) (t : ℕ) → valid image ≡ true → t < type_count image → Sized image t
unfolding valid within_limits ty_of
type_sized image t v h =
    let limits = all_true_at (rules image) 10 v in
    record {
      few = omega (
        arith,
        leb-true (type_count image) 256 (first (leb (type_count image) 256) (leb (variant_count image) 512)
            (leb 1 (pattern_count image) && leb (pattern_count image) 512) (leb (binding_count image) 256) (leb (list_count image) 2048) (leb (data_count image) 16384) limits),
      );
      sizes = λ size signed e. size_holds image (type_kind (type_at image t).kind) (type_at image t) size signed e (shape_holds image t v h);
    }
  where
    first : (a b c d e f : Bool) → a && b && c && d && e && f ≡ true → a ≡ true
    first true b c d e f q = refl
    first false b c d e f q = q
