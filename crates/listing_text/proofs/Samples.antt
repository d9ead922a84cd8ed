-- The listing, computed: numbers, a place, a refusal, and document 01's listing of literal 7. Assumes nothing.
use Rattle.std.specs.Prelude.{Some}
use mathlib.Core.Path.{◌≡◌, refl}
use mathlib.Core.List.{[], ◌∷◌}
use Rattle.row_tables.specs.Rows.{joined}
use Rattle.place.specs.declared.elems.ProjectionElem.{ProjectionElem}
use Rattle.mir.specs.declared.blocks.Terminator.{Terminator}
use Rattle.mir.specs.declared.rvalues.BinOp.{BinOp}
use Rattle.mir.specs.declared.rvalues.Left.{Left}
use Rattle.views.specs.Views.{binary, live, set, Mir}
use Rattle.listing_text.specs.Words.{then_word, else_word, local_word, bool_word, type_word, block_word, live_word, set_word, eq_word, switch_word, open_word, deref_word, field_word, index_word, from_end_word, subslice_word, downcast_word, refused_word, and_copy_word, space, dash, newline}
use Rattle.listing_text.specs.Numbers.{hex_digit, decimal_by, decimal, hex_by, hex_digits, hex_halves, hex_bytes, constant_bytes}
use Rattle.listing_text.specs.Listing.{elem_text, elems_text, place_text, operator_word, left_text, rvalue_text, statement_text, terminator_text, local_ty_text, local_text, locals_text, lines_text, block_text, blocks_text, else_text, listing, refusal_text}

-- 0 in decimal
decimal_zero : decimal 0 ≡ 48 ∷ []
unfolding decimal_by
decimal_zero = refl

-- 7 in decimal
decimal_seven : decimal 7 ≡ 55 ∷ []
unfolding decimal_by
decimal_seven = refl

-- 65535 in decimal
decimal_last : decimal 65535 ≡ 54 ∷ 53 ∷ 53 ∷ 51 ∷ 53 ∷ []
unfolding decimal_by
decimal_last = refl

-- "0"
hex_zero : hex_halves 0 0 ≡ 48 ∷ []
unfolding hex_halves hex_by hex_digits hex_digit
hex_zero = refl

-- "ab07"
hex_low : hex_halves 43783 0 ≡ 97 ∷ 98 ∷ 48 ∷ 55 ∷ []
unfolding hex_halves hex_by hex_digits hex_digit
hex_low = refl

-- "10000000000000007"
hex_high : hex_halves 7 1 ≡ 49 ∷ 48 ∷ 48 ∷ 48 ∷ 48 ∷ 48 ∷ 48 ∷ 48 ∷ 48 ∷ 48 ∷ 48 ∷ 48 ∷ 48 ∷ 48 ∷ 48 ∷ 48 ∷ 55 ∷ []
unfolding hex_halves hex_by hex_digits hex_digit
hex_high = refl

-- 1 byte, "07"
bytes_one : constant_bytes 1 7 0 ≡ 48 ∷ 55 ∷ []
unfolding constant_bytes hex_bytes hex_digit
bytes_one = refl

-- 10 bytes, "efcdab90785634120102"
bytes_ten : constant_bytes 10 1311768467294899695 513 ≡ 101 ∷ 102 ∷ 99 ∷ 100 ∷ 97 ∷ 98 ∷ 57 ∷ 48 ∷ 55 ∷ 56 ∷ 53 ∷ 54 ∷ 51 ∷ 52 ∷ 49 ∷ 50 ∷ 48 ∷ 49 ∷ 48 ∷ 50 ∷ []
unfolding constant_bytes hex_bytes hex_digit
bytes_ten = refl

-- "3.deref.f1.i2.e0.s1-2.v14"
place : place_text (record { local = 3; elems = ProjectionElem.Deref ∷ ProjectionElem.Field 1 ∷ ProjectionElem.Index 2 ∷ ProjectionElem.IndexFromEnd 0 ∷ ProjectionElem.Subslice 1 2 ∷ ProjectionElem.Downcast 14 ∷ [] }) ≡ 51 ∷ 46 ∷ 100 ∷ 101 ∷ 114 ∷ 101 ∷ 102 ∷ 46 ∷ 102 ∷ 49 ∷ 46 ∷ 105 ∷ 50 ∷ 46 ∷ 101 ∷ 48 ∷ 46 ∷ 115 ∷ 49 ∷ 45 ∷ 50 ∷ 46 ∷ 118 ∷ 49 ∷ 52 ∷ []
unfolding place_text elems_text elem_text decimal_by deref_word field_word index_word from_end_word subslice_word downcast_word dash
place = refl

-- "refused 4 12 1", and the end of the line
refusal : refusal_text (record { number = 4; pattern = 12; reason = 1 }) ≡ 114 ∷ 101 ∷ 102 ∷ 117 ∷ 115 ∷ 101 ∷ 100 ∷ 32 ∷ 52 ∷ 32 ∷ 49 ∷ 50 ∷ 32 ∷ 49 ∷ 10 ∷ []
unfolding refusal_text decimal_by refused_word space newline
refusal = refl

-- the body of literal 7 on u8
abbrev seven : Mir
seven =
    record {
      terminators = Terminator.Switch (record { 0 = 1 }) 1 0 (record { 0 = 1 }) (record { 0 = 2 }) ∷ Terminator.Open ∷ Terminator.Open ∷ [];
      lines =
          record { block = 0; statement = live 1 }
          ∷ record { block = 0; statement = set 1 (binary BinOp.Eq (Left.Constant (record { count = 1; ty = 0; offset = 0; low = 7; high = 0 })) (record { local = 0; elems = [] })) }
          ∷ [];
      locals = 0 ∷ 256 ∷ [];
    }

-- document 01's listing of it, line by line: "then 1 else 2", "local 0 t0", "local 1 bool", "bb 0", "live 1", "set 1 eq 07 copy 0", "switch 1 1 1 2", "bb 1", "open", "bb 2", "open"
literal_seven : listing (record { 0 = 1 }) (Some (record { 0 = 2 })) seven ≡
    joined (
    (116 ∷ 104 ∷ 101 ∷ 110 ∷ 32 ∷ 49 ∷ 32 ∷ 101 ∷ 108 ∷ 115 ∷ 101 ∷ 32 ∷ 50 ∷ 10 ∷ [])
    ∷ (108 ∷ 111 ∷ 99 ∷ 97 ∷ 108 ∷ 32 ∷ 48 ∷ 32 ∷ 116 ∷ 48 ∷ 10 ∷ [])
    ∷ (108 ∷ 111 ∷ 99 ∷ 97 ∷ 108 ∷ 32 ∷ 49 ∷ 32 ∷ 98 ∷ 111 ∷ 111 ∷ 108 ∷ 10 ∷ [])
    ∷ (98 ∷ 98 ∷ 32 ∷ 48 ∷ 10 ∷ [])
    ∷ (108 ∷ 105 ∷ 118 ∷ 101 ∷ 32 ∷ 49 ∷ 10 ∷ [])
    ∷ (115 ∷ 101 ∷ 116 ∷ 32 ∷ 49 ∷ 32 ∷ 101 ∷ 113 ∷ 32 ∷ 48 ∷ 55 ∷ 32 ∷ 99 ∷ 111 ∷ 112 ∷ 121 ∷ 32 ∷ 48 ∷ 10 ∷ [])
    ∷ (115 ∷ 119 ∷ 105 ∷ 116 ∷ 99 ∷ 104 ∷ 32 ∷ 49 ∷ 32 ∷ 49 ∷ 32 ∷ 49 ∷ 32 ∷ 50 ∷ 10 ∷ [])
    ∷ (98 ∷ 98 ∷ 32 ∷ 49 ∷ 10 ∷ [])
    ∷ (111 ∷ 112 ∷ 101 ∷ 110 ∷ 10 ∷ [])
    ∷ (98 ∷ 98 ∷ 32 ∷ 50 ∷ 10 ∷ [])
    ∷ (111 ∷ 112 ∷ 101 ∷ 110 ∷ 10 ∷ [])
    ∷ []
    )
unfolding joined listing else_text locals_text local_text local_ty_text blocks_text block_text lines_text statement_text rvalue_text operator_word left_text place_text elems_text terminator_text decimal_by hex_halves hex_by constant_bytes hex_bytes hex_digit then_word else_word local_word bool_word type_word block_word live_word set_word eq_word and_copy_word switch_word open_word space newline
literal_seven = refl
