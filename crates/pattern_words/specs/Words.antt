-- Words: identifiers and keywords, in ASCII. Assumes nothing: these are definitions.
use Rattle.std.specs.Prelude.{ℕ, ◌+◌, Bool, true, false, cond, ◌&&◌, ◌||◌, List, [], ◌∷◌, map, eqb, leb, take, drop}
use Prim.Native.Char.{code}
use Rattle.text_chars.specs.Bytes.{byte_of, ascii, run}
use Rattle.pattern_words.specs.declared.Kind.{Kind}
use Rattle.pattern_words.specs.declared.Kind.TheVariants.{Name, Ref, Mut, True, False, Underscore, Fails}
use Rattle.pattern_words.specs.declared.Piece.{Piece}

-- a byte from low to high
unfoldable pub is_between : ℕ → ℕ → ℕ → Bool
is_between low high b = leb low b && leb b high

-- DEC_DIGIT (lex.token.literal.int.syntax)
unfoldable pub is_digit : ℕ → Bool
is_digit b = is_between (code "0") (code "9") b

-- XID_Start in ASCII
unfoldable pub is_letter : ℕ → Bool
is_letter b = is_between (code "a") (code "z") b || is_between (code "A") (code "Z") b

-- a word begins with a letter or `_`: IDENTIFIER_OR_KEYWORD (ident.syntax)
unfoldable pub begins_word : ℕ → Bool
begins_word b = is_letter b || eqb b (code "_")

-- and goes on with XID_Continue, in ASCII
unfoldable pub in_word : ℕ → Bool
in_word b = begins_word b || is_digit b

-- two words are the same
unfoldable pub same_word : List ℕ → List ℕ → Bool
same_word [] [] = true
same_word [] (c ∷ cs) = false
same_word (b ∷ bs) [] = false
same_word (b ∷ bs) (c ∷ cs) = eqb b c && same_word bs cs

-- a word is one of the words
unfoldable pub is_one_of : List ℕ → List (List ℕ) → Bool
is_one_of word [] = false
is_one_of word (w ∷ ws) = same_word word w || is_one_of word ws

-- the strict and the reserved keywords of edition 2021 (lex.keywords.strict.list, lex.keywords.reserved.list), but for those that are
-- tokens of a pattern
unfoldable pub keywords : List (List ℕ)
keywords =
    map ascii
    ("as" ∷ "async" ∷ "await" ∷ "break" ∷ "const" ∷ "continue" ∷ "crate" ∷ "dyn" ∷ "else" ∷ "enum" ∷ "extern" ∷ "fn" ∷ "for" ∷ "if"
    ∷ "impl" ∷ "in" ∷ "let" ∷ "loop" ∷ "match" ∷ "mod" ∷ "move" ∷ "pub" ∷ "return" ∷ "self" ∷ "Self" ∷ "static" ∷ "struct" ∷ "super"
    ∷ "trait" ∷ "type" ∷ "unsafe" ∷ "use" ∷ "where" ∷ "while" ∷ "abstract" ∷ "become" ∷ "box" ∷ "do" ∷ "final" ∷ "macro" ∷ "override"
    ∷ "priv" ∷ "try" ∷ "typeof" ∷ "unsized" ∷ "virtual" ∷ "yield" ∷ [])

-- the words that are no names behind `r#`: RESERVED_RAW_IDENTIFIER (ident.syntax)
unfoldable pub never_raw : List (List ℕ)
never_raw = ascii "_" ∷ ascii "crate" ∷ ascii "self" ∷ ascii "Self" ∷ ascii "super" ∷ []

-- the first so many bytes are a token
abbrev pub piece : Kind → ℕ → Piece
piece k n = record { kind = k; size = n }

-- what begins here is no token of a pattern
abbrev pub failing : Piece
failing = piece Fails 0

-- what a word of so many bytes is: a keyword of patterns, another keyword, which fails, or a name (ident.keyword)
unfoldable pub word_of : ℕ → ℕ → List ℕ → Piece
word_of at n word =
    cond (same_word word (ascii "_")) (piece Underscore n)
    (cond (same_word word (ascii "ref")) (piece Ref n)
    (cond (same_word word (ascii "mut")) (piece Mut n)
    (cond (same_word word (ascii "true")) (piece True n)
    (cond (same_word word (ascii "false")) (piece False n)
    (cond (is_one_of word keywords) failing
    (piece (Name at) n))))))

-- a byte that makes the word before it a reserved prefix, or a literal of another kind (lex.token.reserved-prefix.id)
unfoldable pub ends_prefix : ℕ → Bool
ends_prefix b = eqb b (code "#") || (eqb b (code "'") || eqb b (code "\""))

-- the bytes begin with `r#` and a word: RAW_IDENTIFIER (ident.syntax)
unfoldable pub is_raw : List ℕ → Bool
is_raw bytes = eqb (byte_of bytes 0) (code "r") && (eqb (byte_of bytes 1) (code "#") && begins_word (byte_of bytes 2))

-- "the r# prefix is not included as part of the actual identifier" (ident.raw.intro)
unfoldable pub raw_piece : ℕ → List ℕ → ℕ → Piece
raw_piece at bytes n = cond (is_one_of (take n (drop 2 bytes)) never_raw) failing (piece (Name (at + 2)) (n + 2))

-- a word that is no prefix
unfoldable pub plain_piece : ℕ → List ℕ → ℕ → Piece
plain_piece at bytes n = cond (ends_prefix (byte_of bytes n)) failing (word_of at n (take n bytes))

-- the token that begins with a word, at a position
unfoldable pub word_piece : ℕ → List ℕ → Piece
word_piece at bytes = cond (is_raw bytes) (raw_piece at bytes (run in_word (drop 2 bytes))) (plain_piece at bytes (run in_word bytes))
