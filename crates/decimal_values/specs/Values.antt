-- The value of a decimal integer, in 16 bytes. Assumes nothing: these are definitions.
use Rattle.std.specs.Prelude.{Some, None}
use Rattle.std.specs.Prelude.{ℕ, ◌+◌, ◌*◌, ◌-◌, ◌^◌, ◌/◌, ◌%◌, cond, List, [], ◌∷◌, ltb, take, drop}
use Prim.Native.Char.{code}
use Rattle.pattern_words.specs.Words.{is_digit}
use Rattle.decimal_values.specs.Results.{Value}

-- the number that digits are in decimal, behind those of v; other bytes, as `_`, are passed over
unfoldable pub decimal_from : ℕ → List ℕ → ℕ
decimal_from v [] = v
decimal_from v (b ∷ bytes) = decimal_from (cond (is_digit b) (v * 10 + (b - code "0")) v) bytes

-- a number's low and high eight bytes, or that it is "over 16 bytes": 2^64 times 2^64 or more
unfoldable pub in_halves : ℕ → Value
in_halves v = cond (ltb (v / 2 ^ 64) (2 ^ 64)) (Some (v % 2 ^ 64, v / 2 ^ 64)) None

-- the value of the integer whose digits stand between two positions of a text
unfoldable pub integer_value : List ℕ → ℕ → ℕ → Value
integer_value text from to = in_halves (decimal_from 0 (take (to - from) (drop from text)))
