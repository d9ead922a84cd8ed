-- Each way through the tests of literals, constants and range ends: the kind that is read says which clause of the definition it is. Assumes nothing.
use Prim.Native.Nat.{ℕ, zero, suc, ◌+◌, ◌*◌}
use mathlib.Core.Path.{◌≡◌, refl, ap, ◌∙◌}
use mathlib.Core.Bool.{Bool, true, false}
use mathlib.Core.List.{List, [], ◌∷◌}
use borrow.Author.Tests.{eq-eqb, ne_eqb}
use native.Mathlib.Omega.{arith}
use types.Run.{OneOf, miss}
use denote.Enum.Declared as Declared
use lib.Dec.{eqb, leb}
use lib.ListN.{length}
use Rattle.image.specs.declared.kinds.TypeKind.{TypeKind}
use Rattle.image.specs.declared.kinds.OperandKind.{OperandKind}
use Rattle.image.specs.contracts.kinds.TypeKind as type-kind
use Rattle.image.specs.contracts.kinds.OperandKind as the-kind
use Rattle.image.specs.declared.rows.TypeRow.{TypeRow}
use Rattle.image.specs.declared.rows.OperandRow.{OperandRow}
use Rattle.image.specs.Kinds.{type_kind, operand_kind}
use Rattle.image.specs.Rows.{type_at, operand_at, operand_bytes}
use Rattle.image.specs.Bytes.{little_endian}
use Rattle.image.specs.Operands.{operand_holds, operand_value_holds}
use Rattle.image.specs.Patterns.{operand_or_absent}
use Rattle.image.specs.Rules.{absent}
use Rattle.image.specs.Tree.{operand?}
use Rattle.image.specs.Types.{Shape, bool, shape_by, ty_of, operand_of}
use Rattle.literals.proofs.Operands.{int_bytes, uint_bytes}
use Rattle.meaning.specs.Fit.{integer_fits, constant_fits, literal_fits, end_fits, end_fits?, is_there}
use Rattle.fit_literals.proofs.Shapes.{shape_of_lem}

-- the row of the type t
module _ (image : List ℕ) (t : ℕ) {row : TypeRow} {kind : TypeKind} (at : row ≡ type_at image t) (told : kind ≡ type_kind row.kind) where
  pub integer_at : (negative : Bool) (bytes : List ℕ) → integer_fits (shape_by kind image row) negative bytes ≡ integer_fits (ty_of image t).shape negative bytes
  integer_at negative bytes = ap (λ (s : Shape). integer_fits s negative bytes) (shape_of_lem image t at told)

  pub constant_at_lem : (bytes : List ℕ) → constant_fits (shape_by kind image row) bytes ≡ constant_fits (ty_of image t).shape bytes
  constant_at_lem bytes = ap (λ (s : Shape). constant_fits s bytes) (shape_of_lem image t at told)

-- `bytes_fit`: a bool is one byte
pub bool_bytes_fit : (bytes : List ℕ) → operand_value_holds OperandKind.Bool bytes ≡ constant_fits bool bytes
unfolding operand_value_holds constant_fits little_endian
bool_bytes_fit [] = refl
bool_bytes_fit (b ∷ []) = let e : b ≡ b + 256 * 0 = omega arith in ap (λ (n : ℕ). leb n 1) e
bool_bytes_fit (b ∷ x ∷ bytes) = rw (ne_eqb (length (b ∷ x ∷ bytes)) 1 (λ e. omega arith))

-- `bytes_fit`: what is no integer, bool or char has no constant
pub no_scalar : (kind : TypeKind) (image : List ℕ) (row : TypeRow) (bytes : List ℕ) → OneOf (3 ∷ 4 ∷ 5 ∷ 6 ∷ 7 ∷ 8 ∷ 9 ∷ []) (Declared.tag_of type-kind.the_type kind) → false ≡ constant_fits (shape_by kind image row) bytes
unfolding constant_fits shape_by
no_scalar TypeKind.Integer image row bytes h = absurd (miss (3 ∷ 4 ∷ 5 ∷ 6 ∷ 7 ∷ 8 ∷ 9 ∷ []) 0 tt h)
no_scalar TypeKind.Bool image row bytes h = absurd (miss (3 ∷ 4 ∷ 5 ∷ 6 ∷ 7 ∷ 8 ∷ 9 ∷ []) 1 tt h)
no_scalar TypeKind.Char image row bytes h = absurd (miss (3 ∷ 4 ∷ 5 ∷ 6 ∷ 7 ∷ 8 ∷ 9 ∷ []) 2 tt h)
no_scalar TypeKind.Str image row bytes h = refl
no_scalar TypeKind.Tuple image row bytes h = refl
no_scalar TypeKind.Adt image row bytes h = refl
no_scalar TypeKind.Reference image row bytes h = refl
no_scalar TypeKind.Array image row bytes h = refl
no_scalar TypeKind.Slice image row bytes h = refl
no_scalar TypeKind.Unknown image row bytes h = refl

-- `end_fits`: the kinds that end no range
pub no_end : (kind : OperandKind) (shape : Shape) (bytes : List ℕ) → OneOf (3 ∷ 4 ∷ 5 ∷ 6 ∷ 8 ∷ 9 ∷ 10 ∷ []) (Declared.tag_of the-kind.the_type kind) → false ≡ end_fits kind shape bytes
unfolding end_fits
no_end OperandKind.Int shape bytes h = absurd (miss (3 ∷ 4 ∷ 5 ∷ 6 ∷ 8 ∷ 9 ∷ 10 ∷ []) 0 tt h)
no_end OperandKind.Uint shape bytes h = absurd (miss (3 ∷ 4 ∷ 5 ∷ 6 ∷ 8 ∷ 9 ∷ 10 ∷ []) 1 tt h)
no_end OperandKind.Char shape bytes h = absurd (miss (3 ∷ 4 ∷ 5 ∷ 6 ∷ 8 ∷ 9 ∷ 10 ∷ []) 2 tt h)
no_end OperandKind.Bool shape bytes h = refl
no_end OperandKind.Str shape bytes h = refl
no_end OperandKind.CStr shape bytes h = refl
no_end OperandKind.ByteStr shape bytes h = refl
no_end OperandKind.Constant shape bytes h = absurd (miss (3 ∷ 4 ∷ 5 ∷ 6 ∷ 8 ∷ 9 ∷ 10 ∷ []) 7 tt h)
no_end OperandKind.Float shape bytes h = refl
no_end OperandKind.Other shape bytes h = refl
no_end OperandKind.Unknown shape bytes h = refl

-- the number of the kind Int; Uint's is another
int_number : (k : ℕ) → OperandKind.Int ≡ operand_kind k → k ≡ 1
int_number zero e = absurd (let z : ◌≡◌ {A = ℕ} 0 1 = cc in omega arith)
int_number (suc zero) e = refl
int_number (suc (suc zero)) e = absurd (let z : ◌≡◌ {A = ℕ} 0 1 = cc in omega arith)
int_number (suc (suc (suc zero))) e = absurd (let z : ◌≡◌ {A = ℕ} 0 1 = cc in omega arith)
int_number (suc (suc (suc (suc zero)))) e = absurd (let z : ◌≡◌ {A = ℕ} 0 1 = cc in omega arith)
int_number (suc (suc (suc (suc (suc zero))))) e = absurd (let z : ◌≡◌ {A = ℕ} 0 1 = cc in omega arith)
int_number (suc (suc (suc (suc (suc (suc zero)))))) e = absurd (let z : ◌≡◌ {A = ℕ} 0 1 = cc in omega arith)
int_number (suc (suc (suc (suc (suc (suc (suc zero))))))) e = absurd (let z : ◌≡◌ {A = ℕ} 0 1 = cc in omega arith)
int_number (suc (suc (suc (suc (suc (suc (suc (suc zero)))))))) e = absurd (let z : ◌≡◌ {A = ℕ} 0 1 = cc in omega arith)
int_number (suc (suc (suc (suc (suc (suc (suc (suc (suc zero))))))))) e = absurd (let z : ◌≡◌ {A = ℕ} 0 1 = cc in omega arith)
int_number (suc (suc (suc (suc (suc (suc (suc (suc (suc (suc zero)))))))))) e = absurd (let z : ◌≡◌ {A = ℕ} 0 1 = cc in omega arith)
int_number (suc (suc (suc (suc (suc (suc (suc (suc (suc (suc (suc k))))))))))) e = absurd (let z : ◌≡◌ {A = ℕ} 0 1 = cc in omega arith)

module _ (image : List ℕ) (o : ℕ) {row : OperandRow} (at : row ≡ operand_at image o) where
  -- `constant_fits`: the bytes that are read
  pub constant_by_lem : (shape : Shape) {bytes : List ℕ} → bytes ≡ operand_bytes image row → constant_fits shape bytes ≡ constant_fits shape (operand_of image o).bytes
  unfolding operand_of
  constant_by_lem shape read = rw (read, at)

  module _ {kind : OperandKind} (is : OperandKind) (told : kind ≡ operand_kind row.kind) (k : kind ≡ is) (shape : Shape) where
    -- `literal_fits`: the clause of an operand's kind
    pub literal_by_lem : {bytes : List ℕ} → bytes ≡ operand_bytes image row → literal_fits is image shape bytes ≡ literal_fits (operand_of image o).kind image shape (operand_of image o).bytes
    unfolding operand_of
    literal_by_lem read = rw (← k, told, read, at)

    -- the same, where the bytes are the operand's
    pub literal_of : literal_fits is image shape (operand_of image o).bytes ≡ literal_fits (operand_of image o).kind image shape (operand_of image o).bytes
    unfolding operand_of
    literal_of = rw (← k, told, at)

    -- `end_fits`: the clause of an operand's kind
    pub end_by : end_fits is shape (operand_of image o).bytes ≡ end_fits (operand_of image o).kind shape (operand_of image o).bytes
    unfolding operand_of
    end_by = rw (← k, told, at)

  -- the integer kinds: an operand of one has 16 bytes, and its clause asks whether its number is Int's
  pub integer_bytes : operand_holds image o ≡ true → (kind : OperandKind) → kind ≡ operand_kind row.kind → OneOf (0 ∷ 1 ∷ []) (Declared.tag_of the-kind.the_type kind) → {bytes : List ℕ} → bytes ≡ operand_bytes image row → length bytes ≡ 16
  integer_bytes holds OperandKind.Int told h read = int_bytes image o holds at read told refl
  integer_bytes holds OperandKind.Uint told h read = uint_bytes image o holds at read told refl
  integer_bytes holds OperandKind.Char told h read = absurd (miss (0 ∷ 1 ∷ []) 2 tt h)
  integer_bytes holds OperandKind.Bool told h read = absurd (miss (0 ∷ 1 ∷ []) 3 tt h)
  integer_bytes holds OperandKind.Str told h read = absurd (miss (0 ∷ 1 ∷ []) 4 tt h)
  integer_bytes holds OperandKind.CStr told h read = absurd (miss (0 ∷ 1 ∷ []) 5 tt h)
  integer_bytes holds OperandKind.ByteStr told h read = absurd (miss (0 ∷ 1 ∷ []) 6 tt h)
  integer_bytes holds OperandKind.Constant told h read = absurd (miss (0 ∷ 1 ∷ []) 7 tt h)
  integer_bytes holds OperandKind.Float told h read = absurd (miss (0 ∷ 1 ∷ []) 8 tt h)
  integer_bytes holds OperandKind.Other told h read = absurd (miss (0 ∷ 1 ∷ []) 9 tt h)
  integer_bytes holds OperandKind.Unknown told h read = absurd (miss (0 ∷ 1 ∷ []) 10 tt h)

  pub literal_integer : (kind : OperandKind) → kind ≡ operand_kind row.kind → OneOf (0 ∷ 1 ∷ []) (Declared.tag_of the-kind.the_type kind) → (shape : Shape) {bytes : List ℕ} → bytes ≡ operand_bytes image row →
      integer_fits shape (eqb row.kind 1) bytes ≡ literal_fits (operand_of image o).kind image shape (operand_of image o).bytes
  unfolding literal_fits
  literal_integer OperandKind.Int told h shape read = rw (eq-eqb row.kind 1 (int_number row.kind told)) (literal_by_lem OperandKind.Int told refl shape read)
  literal_integer OperandKind.Uint told h shape read =
      let other : row.kind ≡ 1 → ⊥ = λ e. let t : OperandKind.Uint ≡ OperandKind.Int = told ∙ ap operand_kind e in let z : ◌≡◌ {A = ℕ} 0 1 = cc in omega arith in
      rw (ne_eqb row.kind 1 other) (literal_by_lem OperandKind.Uint told refl shape read)
  literal_integer OperandKind.Char told h shape read = absurd (miss (0 ∷ 1 ∷ []) 2 tt h)
  literal_integer OperandKind.Bool told h shape read = absurd (miss (0 ∷ 1 ∷ []) 3 tt h)
  literal_integer OperandKind.Str told h shape read = absurd (miss (0 ∷ 1 ∷ []) 4 tt h)
  literal_integer OperandKind.CStr told h shape read = absurd (miss (0 ∷ 1 ∷ []) 5 tt h)
  literal_integer OperandKind.ByteStr told h shape read = absurd (miss (0 ∷ 1 ∷ []) 6 tt h)
  literal_integer OperandKind.Constant told h shape read = absurd (miss (0 ∷ 1 ∷ []) 7 tt h)
  literal_integer OperandKind.Float told h shape read = absurd (miss (0 ∷ 1 ∷ []) 8 tt h)
  literal_integer OperandKind.Other told h shape read = absurd (miss (0 ∷ 1 ∷ []) 9 tt h)
  literal_integer OperandKind.Unknown told h shape read = absurd (miss (0 ∷ 1 ∷ []) 10 tt h)

  -- the kinds of which none fits
  pub literal_other : (kind : OperandKind) → kind ≡ operand_kind row.kind → OneOf (5 ∷ 6 ∷ 7 ∷ 8 ∷ 9 ∷ 10 ∷ []) (Declared.tag_of the-kind.the_type kind) → (shape : Shape) {bytes : List ℕ} → bytes ≡ operand_bytes image row →
      false ≡ literal_fits (operand_of image o).kind image shape (operand_of image o).bytes
  unfolding literal_fits
  literal_other OperandKind.Int told h shape read = absurd (miss (5 ∷ 6 ∷ 7 ∷ 8 ∷ 9 ∷ 10 ∷ []) 0 tt h)
  literal_other OperandKind.Uint told h shape read = absurd (miss (5 ∷ 6 ∷ 7 ∷ 8 ∷ 9 ∷ 10 ∷ []) 1 tt h)
  literal_other OperandKind.Char told h shape read = absurd (miss (5 ∷ 6 ∷ 7 ∷ 8 ∷ 9 ∷ 10 ∷ []) 2 tt h)
  literal_other OperandKind.Bool told h shape read = absurd (miss (5 ∷ 6 ∷ 7 ∷ 8 ∷ 9 ∷ 10 ∷ []) 3 tt h)
  literal_other OperandKind.Str told h shape read = absurd (miss (5 ∷ 6 ∷ 7 ∷ 8 ∷ 9 ∷ 10 ∷ []) 4 tt h)
  literal_other OperandKind.CStr told h shape read = literal_by_lem OperandKind.CStr told refl shape read
  literal_other OperandKind.ByteStr told h shape read = literal_by_lem OperandKind.ByteStr told refl shape read
  literal_other OperandKind.Constant told h shape read = literal_by_lem OperandKind.Constant told refl shape read
  literal_other OperandKind.Float told h shape read = literal_by_lem OperandKind.Float told refl shape read
  literal_other OperandKind.Other told h shape read = literal_by_lem OperandKind.Other told refl shape read
  literal_other OperandKind.Unknown told h shape read = literal_by_lem OperandKind.Unknown told refl shape read

-- an operand that may be absent
module _ (image : List ℕ) (o : ℕ) where
  pub absent_end : (shape : Shape) → o ≡ absent → true ≡ end_fits? shape (operand? image o)
  unfolding operand?
  absent_end shape e = rw (eq-eqb o absent e)

  pub present_end : (shape : Shape) → (o ≡ absent → ⊥) → end_fits (operand_of image o).kind shape (operand_of image o).bytes ≡ end_fits? shape (operand? image o)
  unfolding operand?
  present_end shape h = rw (ne_eqb o absent h)

  pub not_there : o ≡ absent → is_there (operand? image o) ≡ false
  unfolding operand?
  not_there e = rw (eq-eqb o absent e)

  pub there : (o ≡ absent → ⊥) → is_there (operand? image o) ≡ true
  unfolding operand?
  there h = rw (ne_eqb o absent h)

  pub present_holds : (o ≡ absent → ⊥) → operand_or_absent image o ≡ true → operand_holds image o ≡ true
  present_holds h e = rw (ne_eqb o absent h) at e
