-- An image as bytes and as 16-bit words; numbers read from bytes. Assumes nothing: these are definitions.
use Rattle.std.specs.Prelude.{ℕ, ◌+◌, ◌*◌, List, [], ◌∷◌, get_or}

-- the byte k of an image, 0 past its end
abbrev pub byte_at : List ℕ → ℕ → ℕ
byte_at image k = get_or image k 0

-- the 16-bit big-endian word that begins at byte k
unfoldable pub word_at : List ℕ → ℕ → ℕ
word_at image k = byte_at image k * 256 + byte_at image (k + 1)

-- the 32-bit big-endian number that begins at byte k
abbrev pub long_at : List ℕ → ℕ → ℕ
long_at image k = word_at image k * 65536 + word_at image (k + 2)

-- the number whose bytes these are, the lowest first: little-endian reading, of 1 to 16 bytes in an image
unfoldable pub little_endian : List ℕ → ℕ
little_endian [] = 0
little_endian (b ∷ bs) = b + 256 * little_endian bs
