-- What stands between tokens: whitespace and comments. "Non-doc comments are interpreted as a form of whitespace" (comments.normal.tokenization).
-- Assumes nothing: these are definitions.
use Rattle.std.specs.Prelude.{Ok, Err}
use Rattle.std.specs.Prelude.{ℕ, zero, suc, ◌-◌, Bool, cond, not, ◌&&◌, ◌||◌, List, [], ◌∷◌, eqb, drop}
use Prim.Native.Char.{code}
use Rattle.image.specs.Lists.{member}
use Rattle.text_chars.specs.Bytes.{byte_of, run}
use Rattle.text_chars.specs.Scalars.{scalar_of, on_scalar, is_utf8}
use Rattle.text_chars.specs.declared.Gap.{Gap}
use Rattle.text_chars.specs.declared.Gap.TheVariants.{Of, Nothing, Broken}
use Rattle.text_chars.specs.Results.{Start}

-- WHITESPACE (whitespace.syntax)
unfoldable pub whitespace : List ℕ
whitespace = 0x9 ∷ 0xA ∷ 0xB ∷ 0xC ∷ 0xD ∷ 0x20 ∷ 0x85 ∷ 0x200E ∷ 0x200F ∷ 0x2028 ∷ 0x2029 ∷ []

-- a scalar value is whitespace
unfoldable pub is_whitespace : ℕ → Bool
is_whitespace v = member v whitespace

-- any byte but LF, which ends a line
unfoldable pub in_line : ℕ → Bool
in_line b = not (eqb b 0xA)

-- `//!`, or `///` and no fourth `/`: INNER_LINE_DOC and OUTER_LINE_DOC (comments.syntax)
unfoldable pub is_line_doc : List ℕ → Bool
is_line_doc bytes = eqb (byte_of bytes 2) (code "!") || (eqb (byte_of bytes 2) (code "/") && not (eqb (byte_of bytes 3) (code "/")))

-- `/*!`, or `/**` and neither a third `*` nor `/`: INNER_BLOCK_DOC and OUTER_BLOCK_DOC (comments.syntax)
unfoldable pub is_block_doc : List ℕ → Bool
is_block_doc bytes =
    eqb (byte_of bytes 2) (code "!")
    || (eqb (byte_of bytes 2) (code "*") && not (eqb (byte_of bytes 3) (code "*") || eqb (byte_of bytes 3) (code "/")))

-- two bytes are `/*`
unfoldable pub opens : ℕ → ℕ → Bool
opens b c = eqb b (code "/") && eqb c (code "*")

-- two bytes are `*/`
unfoldable pub closes : ℕ → ℕ → Bool
closes b c = eqb b (code "*") && eqb c (code "/")

-- how many comments are open inside one behind two bytes, of so many before
unfoldable pub depth_behind : ℕ → ℕ → ℕ → ℕ
depth_behind depth b c = cond (closes b c) (depth - 1) (cond (opens b c) (suc depth) depth)

-- the second of two bytes, 0 where they are a `/*` or `*/`, of which no byte is a part of another
unfoldable pub unpaired : ℕ → ℕ → ℕ
unpaired b c = cond (closes b c || opens b c) 0 c

-- the block comment of which so many bytes are read, with so many open inside it and the byte before. Behind its first byte a comment has
-- as many as before its last
unfoldable pub block_from : ℕ → ℕ → ℕ → List ℕ → Gap
block_from read depth before [] = Broken
block_from read depth before (b ∷ bytes) =
    cond (closes before b && eqb depth 0) (Of read) (block_from (suc read) (depth_behind depth before b) (unpaired before b) bytes)

-- a comment whose bytes behind the first, a `/`, are UTF-8
unfoldable pub in_utf8 : List ℕ → Gap → Gap
in_utf8 bytes (Of more) = cond (is_utf8 more 0 (drop 1 bytes)) (Of more) Broken
in_utf8 bytes Nothing = Nothing
in_utf8 bytes Broken = Broken

-- LINE_COMMENT (comments.syntax): `//` and what is left of the line
unfoldable pub line_gap : List ℕ → Gap
line_gap bytes = cond (is_line_doc bytes) Broken (in_utf8 bytes (Of (run in_line (drop 1 bytes))))

-- BLOCK_COMMENT (comments.syntax)
unfoldable pub block_gap : List ℕ → Gap
block_gap bytes = cond (is_block_doc bytes) Broken (in_utf8 bytes (block_from 2 0 0 (drop 2 bytes)))

-- the comment with which the bytes begin
unfoldable pub comment_of : List ℕ → Gap
comment_of bytes =
    cond (not (eqb (byte_of bytes 0) (code "/"))) Nothing
    (cond (eqb (byte_of bytes 1) (code "/")) (line_gap bytes)
    (cond (eqb (byte_of bytes 1) (code "*")) (block_gap bytes)
    Nothing))

-- the whitespace character or comment with which the bytes begin: how many bytes it has behind its first
unfoldable pub gap_of : List ℕ → Gap
gap_of bytes = on_scalar (scalar_of bytes) Nothing (λ v more. cond (is_whitespace v) (Of more) (comment_of bytes))

-- what comes of a gap, of none, or of one that is broken
abbrev pub on_gap : {A : Type 0} → Gap → A → A → (ℕ → A) → A
on_gap Nothing none broken passed = none
on_gap Broken none broken passed = broken
on_gap (Of more) none broken passed = passed more

-- where the next token begins, or the doc comment or broken comment before it: at a position, of whose bytes the first so many belong to a gap
unfoldable pub start_from : ℕ → ℕ → List ℕ → Start
start_from at rest [] = Ok at
start_from at (suc rest) (b ∷ bytes) = start_from (suc at) rest bytes
start_from at zero (b ∷ bytes) = on_gap (gap_of (b ∷ bytes)) (Ok at) (Err at) (λ more. start_from (suc at) more bytes)

-- where the next token begins, from a position of a text on
abbrev pub start_of : List ℕ → ℕ → Start
start_of text at = start_from at 0 (drop at text)
