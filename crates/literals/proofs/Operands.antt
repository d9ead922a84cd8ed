-- What is known of an operand that holds, and of the size of an integer type. Assumes nothing.
use Prim.Native.Nat.{ℕ, ◌+◌, ◌≤◌}
use mathlib.Core.Path.{◌≡◌}
use mathlib.Core.Bool.{Bool, true, false, ◌&&◌, ◌||◌}
use mathlib.Core.List.{List}
use native.Mathlib.Omega.{arith}
use borrow.Author.Tests.{leb-true, eqb-true}
use lib.Dec.{eqb, leb}
use lib.ListN.{length, get_or, drop, length-drop}
use lib.Seq.{length-take-le}
use Rattle.image.specs.declared.Tables.{Tables}
use Rattle.image.specs.declared.kinds.TypeKind.{TypeKind}
use Rattle.image.specs.declared.kinds.OperandKind.{OperandKind}
use Rattle.image.specs.declared.rows.TypeRow.{TypeRow}
use Rattle.image.specs.declared.rows.OperandRow.{OperandRow}
use Rattle.image.specs.Bytes.{little_endian}
use Rattle.image.specs.Tables.{Whole, list_count, data_count, data_at}
use Rattle.image.specs.Kinds.{operand_kind}
use Rattle.image.specs.Rows.{operand_at, operand_bytes}
use Rattle.image.specs.Rules.{is_flag, is_integer_size, type_shape_holds}
use Rattle.image.specs.Operands.{is_scalar_value, operand_value_holds, operand_lies, operand_holds}
use Rattle.image.proofs.Bools.{and_left, and_right}

-- one of two tests holds
either_test : (a b : Bool) {P : Type 0} → (a ≡ true → P) → (b ≡ true → P) → a || b ≡ true → P
either_test true b f g e = f e
either_test false b f g e = g e

-- an integer has at most 16 bytes
pub integer_size : (image : List ℕ) {kind : TypeKind} (row : TypeRow) → kind ≡ TypeKind.Integer → type_shape_holds kind image row ≡ true → row.a ≤ 16
unfolding type_shape_holds is_integer_size
integer_size image row e h =
    let a = row.a in
    let holds : is_integer_size a && is_flag row.b ≡ true = rw e at h in
    let is : (n : ℕ) → n ≤ 16 → eqb a n ≡ true → a ≤ 16 = λ n le q. let same = eqb-true a n q in omega arith in
    either_test
    (eqb a 1 || eqb a 2 || eqb a 4 || eqb a 8)
    (eqb a 16)
    (either_test
    (eqb a 1 || eqb a 2 || eqb a 4)
    (eqb a 8)
    (either_test (eqb a 1 || eqb a 2) (eqb a 4) (either_test (eqb a 1) (eqb a 2) (is 1 (omega arith)) (is 2 (omega arith))) (is 4 (omega arith)))
    (is 8 (omega arith)))
    (is 16 (omega arith))
    (and_left (is_integer_size a) (is_flag row.b) holds)

module _ (image : List ℕ) (o : ℕ) (holds : operand_holds image o ≡ true) where
  -- its three words lie in the list
  pub operand_listed : o + 3 ≤ list_count image
  unfolding operand_holds
  operand_listed =
      let listed = leb (o + 3) (list_count image) in
      let lies = operand_lies image (operand_at image o) in
      let value = operand_value_holds (operand_kind (operand_at image o).kind) (operand_bytes image (operand_at image o)) in
      leb-true (o + 3) (list_count image) (and_left listed lies (and_left (listed && lies) value holds))

  -- its bytes lie in the data
  pub operand_lies_lem : {row : OperandRow} → row ≡ operand_at image o → row.offset + row.count ≤ data_count image
  unfolding operand_holds
  operand_lies_lem e =
      let row = operand_at image o in
      let listed = leb (o + 3) (list_count image) in
      let lies = operand_lies image row in
      let value = operand_value_holds (operand_kind row.kind) (operand_bytes image row) in
      rw e (leb-true (row.offset + row.count) (data_count image) (and_right listed lies (and_left (listed && lies) value holds)))

  -- its bytes are what its kind asks for
  operand_value_lem : operand_value_holds (operand_kind (operand_at image o).kind) (operand_bytes image (operand_at image o)) ≡ true
  unfolding operand_holds
  operand_value_lem =
      let listed = leb (o + 3) (list_count image) in
      let lies = operand_lies image (operand_at image o) in
      let value = operand_value_holds (operand_kind (operand_at image o).kind) (operand_bytes image (operand_at image o)) in
      and_right (listed && lies) value holds

  module _ {row : OperandRow} {bytes : List ℕ} (at : row ≡ operand_at image o) (read : bytes ≡ operand_bytes image row) where
    -- there are as many bytes as the row says
    pub bytes_counted : {tables : Tables} → Whole image tables → length bytes ≡ row.count
    unfolding operand_bytes
    bytes_counted whole =
        let lies = operand_lies_lem at in
        let all = whole.within in
        rw read (length-take-le row.count (drop (data_at image + row.offset) image) (omega (arith, length-drop (data_at image + row.offset) image)))

    -- by the kind that is read
    value_holds : {kind : OperandKind} → kind ≡ operand_kind row.kind → operand_value_holds kind bytes ≡ true
    value_holds e = rw (e, read, at) operand_value_lem

    module _ {kind : OperandKind} (told : kind ≡ operand_kind row.kind) where
      -- a signed integer has 16 bytes
      pub int_bytes : kind ≡ OperandKind.Int → length bytes ≡ 16
      unfolding operand_value_holds
      int_bytes k = eqb-true (length bytes) 16 (rw k at (value_holds told))

      -- so has an unsigned one
      pub uint_bytes : kind ≡ OperandKind.Uint → length bytes ≡ 16
      unfolding operand_value_holds
      uint_bytes k = eqb-true (length bytes) 16 (rw k at (value_holds told))

      -- a char has 4
      pub char_bytes : kind ≡ OperandKind.Char → length bytes ≡ 4
      unfolding operand_value_holds
      char_bytes k = eqb-true (length bytes) 4 (and_left (eqb (length bytes) 4) (is_scalar_value (little_endian bytes)) (rw k at (value_holds told)))

      -- a bool has one
      pub bool_bytes : kind ≡ OperandKind.Bool → length bytes ≡ 1
      unfolding operand_value_holds
      bool_bytes k = eqb-true (length bytes) 1 (and_left (eqb (length bytes) 1) (leb (get_or bytes 0 0) 1) (rw k at (value_holds told)))

      -- an evaluated constant has at most 16
      pub constant_bytes_lem : kind ≡ OperandKind.Constant → length bytes ≤ 16
      unfolding operand_value_holds
      constant_bytes_lem k = leb-true (length bytes) 16 (and_right (leb 1 (length bytes)) (leb (length bytes) 16) (rw k at (value_holds told)))
