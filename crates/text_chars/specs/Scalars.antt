-- UTF-8: "Each source file is interpreted as a sequence of Unicode characters encoded in UTF-8" (input.encoding.utf8). Assumes nothing:
-- these are definitions.
use Rattle.std.specs.Prelude.{Some, None}
use Rattle.std.specs.Prelude.{ℕ, zero, suc, ◌+◌, ◌*◌, ◌%◌, Bool, false, cond, not, ◌&&◌, ◌||◌, List, [], ◌∷◌, eqb, ltb, leb}
use Rattle.image.specs.Operands.{is_scalar_value}
use Rattle.text_chars.specs.Bytes.{byte_of}
use Rattle.text_chars.specs.Results.{Scalar}

-- a byte 10xxxxxx, which goes on with a scalar value and begins none
unfoldable pub is_tail : ℕ → Bool
is_tail b = leb 0x80 b && ltb b 0xC0

-- a scalar value that has so many bytes behind its first, of which no shorter form has room for it
unfoldable pub shortest_form : ℕ → ℕ → ℕ → Scalar
shortest_form least v more = cond (leb least v && is_scalar_value v) (Some (v, more)) None

-- the scalar value with which four bytes begin, and how many bytes it has behind the first: 0xxxxxxx, 110xxxxx 10xxxxxx,
-- 1110xxxx 10xxxxxx 10xxxxxx or 11110xxx 10xxxxxx 10xxxxxx 10xxxxxx
unfoldable pub scalar_from : ℕ → ℕ → ℕ → ℕ → Scalar
scalar_from a b c d =
    cond (ltb a 0x80) (Some (a, 0))
    (cond (ltb a 0xC0 || not (is_tail b)) None
    (cond (ltb a 0xE0) (shortest_form 0x80 (a % 32 * 64 + b % 64) 1)
    (cond (not (is_tail c)) None
    (cond (ltb a 0xF0) (shortest_form 0x800 (a % 16 * 4096 + b % 64 * 64 + c % 64) 2)
    (cond (not (is_tail d)) None
    (cond (ltb a 0xF8) (shortest_form 0x10000 (a % 8 * 262144 + b % 64 * 4096 + c % 64 * 64 + d % 64) 3)
    None))))))

-- the scalar value with which the bytes begin
unfoldable pub scalar_of : List ℕ → Scalar
scalar_of bytes = scalar_from (byte_of bytes 0) (byte_of bytes 1) (byte_of bytes 2) (byte_of bytes 3)

-- what comes of a scalar value and its further bytes, or of none
abbrev pub on_scalar : {A : Type 0} → Scalar → A → (ℕ → ℕ → A) → A
on_scalar None broken found = broken
on_scalar (Some (v, more)) broken found = found v more

-- the next n bytes, of which the first so many belong to a scalar value that is read, are whole scalar values
unfoldable pub is_utf8 : ℕ → ℕ → List ℕ → Bool
is_utf8 zero rest bytes = eqb rest 0
is_utf8 (suc n) rest [] = false
is_utf8 (suc n) (suc rest) (b ∷ bytes) = is_utf8 n rest bytes
is_utf8 (suc n) zero (b ∷ bytes) = on_scalar (scalar_of (b ∷ bytes)) false (λ _ more. is_utf8 n more bytes)
