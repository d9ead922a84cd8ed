-- Numbers in the listing: decimal, and "bytes are lowercase hexadecimal in memory order". Assumes nothing: these are definitions.
use Rattle.std.specs.Prelude.{ℕ, zero, suc, ◌+◌, ◌-◌, ◌/◌, ◌%◌, cond, List, [], ◌∷◌, ◌++◌, eqb, ltb, leb}

-- a decimal digit
abbrev pub digit : ℕ → ℕ
digit d = 48 + d

-- a lowercase hexadecimal digit
unfoldable pub hex_digit : ℕ → ℕ
hex_digit d = cond (ltb d 10) (48 + d) (87 + d)

-- a number of at most so many digits, without leading zeros
unfoldable pub decimal_by : ℕ → ℕ → List ℕ
decimal_by zero n = []
decimal_by (suc digits) n = cond (ltb n 10) (digit n ∷ []) (decimal_by digits (n / 10) ++ (digit (n % 10) ∷ []))

-- a word in decimal: it has at most five digits
abbrev pub decimal : ℕ → List ℕ
decimal n = decimal_by 5 n

unfoldable pub hex_by : ℕ → ℕ → List ℕ
hex_by zero n = []
hex_by (suc digits) n = cond (ltb n 16) (hex_digit n ∷ []) (hex_by digits (n / 16) ++ (hex_digit (n % 16) ∷ []))

-- a number below 2^64 in hexadecimal, without leading zeros
abbrev pub hex : ℕ → List ℕ
hex n = hex_by 16 n

-- the same, with so many digits
unfoldable pub hex_digits : ℕ → ℕ → List ℕ
hex_digits zero n = []
hex_digits (suc digits) n = hex_digits digits (n / 16) ++ (hex_digit (n % 16) ∷ [])

-- a number of two halves "in hexadecimal without leading zeros"
unfoldable pub hex_halves : ℕ → ℕ → List ℕ
hex_halves low high = cond (eqb high 0) (hex low) (hex high ++ hex_digits 16 low)

-- so many bytes of a number in memory order, the lowest first, each as two digits
unfoldable pub hex_bytes : ℕ → ℕ → List ℕ
hex_bytes zero n = []
hex_bytes (suc count) n = hex_digit (n % 256 / 16) ∷ hex_digit (n % 16) ∷ hex_bytes count (n / 256)

-- the bytes of a constant of two halves: so many, the low half's eight first
unfoldable pub constant_bytes : ℕ → ℕ → ℕ → List ℕ
constant_bytes count low high = cond (leb count 8) (hex_bytes count low) (hex_bytes 8 low ++ hex_bytes (count - 8) high)
