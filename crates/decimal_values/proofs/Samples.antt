-- The definition, computed: digits between two positions of a text, and their value. Assumes nothing.
use Rattle.std.specs.Prelude.{Some, None}
use Prim.Native.Nat.{ℕ}
use Prim.Native.String.{String}
use mathlib.Core.Path.{◌≡◌, refl}
use mathlib.Core.List.{List, [], ◌∷◌, map}
use Rattle.text_chars.specs.Bytes.{ascii}
use Rattle.pattern_words.specs.Words.{is_between, is_digit}
use Rattle.decimal_values.specs.Results.{Value}
use Rattle.decimal_values.specs.Values.{decimal_from, in_halves, integer_value}

-- a text, two positions of it, and the value between them
pub record Row : Type 0 where
  pub text : String
  pub from : ℕ
  pub to : ℕ
  pub value : Value

unfoldable pub rows : List Row
rows =
    record { text = "0"; from = 0; to = 1; value = Some (0, 0) }
    ∷ record { text = "007"; from = 0; to = 3; value = Some (7, 0) }
    ∷ record { text = "1_000"; from = 0; to = 5; value = Some (1000, 0) }
    ∷ record { text = "1_"; from = 0; to = 2; value = Some (1, 0) }
    ∷ record { text = "18446744073709551615"; from = 0; to = 20; value = Some (18446744073709551615, 0) }
    ∷ record { text = "18446744073709551616"; from = 0; to = 20; value = Some (0, 1) }
    ∷ record { text = "170141183460469231731687303715884105728"; from = 0; to = 39; value = Some (0, 9223372036854775808) }
    ∷ record { text = "340282366920938463463374607431768211455"; from = 0; to = 39; value = Some (18446744073709551615, 18446744073709551615) }
    ∷ record { text = "340282366920938463463374607431768211456"; from = 0; to = 39; value = None }
    ∷ record { text = "3402823669209384634633746074317682114550"; from = 0; to = 40; value = None }
    ∷ record { text = "0000000000000000000000000000000000000000000000000001"; from = 0; to = 52; value = Some (1, 0) }
    ∷ record { text = "x7y"; from = 0; to = 3; value = Some (7, 0) }
    ∷ record { text = "&-12 "; from = 2; to = 4; value = Some (12, 0) }
    ∷ record { text = "12"; from = 1; to = 9; value = Some (2, 0) }
    ∷ record { text = "12"; from = 2; to = 1; value = Some (0, 0) }
    ∷ record { text = "12"; from = 5; to = 9; value = Some (0, 0) }
    ∷ []

pub hold : map (λ (r : Row). integer_value (ascii r.text) r.from r.to) rows ≡ map (λ (r : Row). r.value) rows
unfolding rows ascii is_between is_digit decimal_from in_halves integer_value
hold = refl
