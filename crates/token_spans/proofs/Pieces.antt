-- A token has at least as many bytes as its kind says, a name begins in it, and `::` has two. Assumes nothing.
use Rattle.std.specs.Prelude.{Some, None}
use Prim.Native.Nat.{ℕ, zero, suc, ◌+◌, ◌<◌, ◌≤◌}
use mathlib.Core.Path.{◌≡◌, refl, sym}
use mathlib.Core.Bool.{Bool, true, false, not, cond, ◌&&◌, ◌||◌, false≢true}
use mathlib.Core.List.{List, [], ◌∷◌}
use native.Mathlib.Omega.{arith}
use lib.Dec.{eqb}
use lib.ListN.{get_or, drop}
use Rattle.image.proofs.Bools.{and_right}
use Rattle.text_chars.specs.Results.{Scalar}
use Rattle.text_chars.specs.Bytes.{run, ascii}
use Rattle.text_chars.specs.Scalars.{on_scalar}
use Rattle.pattern_words.specs.declared.Kind.{Kind}
use Rattle.pattern_words.specs.declared.Piece.{Piece}
use Rattle.pattern_words.specs.Words.{is_between, is_letter, is_digit, begins_word, in_word, is_raw, same_word, is_one_of, keywords, never_raw, ends_prefix, failing, word_of, raw_piece, plain_piece, word_piece}
use Rattle.pattern_tokens.specs.Literals.{in_integer, goes_on, integer_of, integer_piece, char_of, is_suffix, closed_char, char_piece}
use Rattle.pattern_tokens.specs.Tokens.{begins, punctuation, first_where, piece_of}
use Rattle.pattern_grammar.specs.Lexemes.{Spot, Lexeme, name, scalar, mark, path_sep_mark, of_kind}
use Rattle.parsing_bounds.specs.Weights.{mark_bytes, lexeme_bytes}

-- where a name itself begins; another token, where it begins
unfoldable pub own_from : ℕ → Lexeme → ℕ
own_from at (name n) = n.own
own_from at (scalar v q) = at
own_from at (mark m q) = at

-- the bytes of `::`; another token's, so many
unfoldable pub exactly : ℕ → Lexeme → ℕ
exactly n (name i) = n
exactly n (scalar v q) = n
exactly n (mark m q) = cond (eqb m path_sep_mark) 2 n

-- what holds of a token that begins at a position
pub record Spanned (at : ℕ) (p : Piece) : Type 0 where
  pub begun : (q : Spot) → at ≤ own_from at (of_kind p.kind q)
  pub ended : (q : Spot) → own_from at (of_kind p.kind q) + lexeme_bytes (of_kind p.kind q) ≤ at + p.size
  pub long : (q : Spot) → lexeme_bytes (of_kind p.kind q) ≤ p.size
  pub same : (q : Spot) → exactly p.size (of_kind p.kind q) ≡ p.size

-- a token that is no name, by its bytes at least
plain :
    {at n : ℕ} {k : Kind} (b : ℕ) → ((q : Spot) → lexeme_bytes (of_kind k q) ≡ b) → ((q : Spot) → own_from at (of_kind k q) ≡ at)
    → ((q : Spot) → exactly n (of_kind k q) ≡ n) → b ≤ n → Spanned at (record { kind = k; size = n })
plain b e o s h = record {
  begun = λ q. let f = o q in omega (arith, f);
  ended = λ q. let f = o q in let g = e q in omega (arith, f, g, h);
  long = λ q. let g = e q in omega (arith, g, h);
  same = s;
}

failing_spanned : {at : ℕ} → Spanned at failing
unfolding lexeme_bytes mark_bytes of_kind own_from exactly
failing_spanned = plain 0 (λ q. refl) (λ q. refl) (λ q. refl) (omega arith)

-- a name of at least a byte, behind `r#` or not
named : {at n : ℕ} (own : ℕ) → at ≤ own → own < at + n → Spanned at (record { kind = Kind.Name own; size = n })
unfolding lexeme_bytes of_kind own_from exactly
named own h l = record {
  begun = λ q. h;
  ended = λ q. omega (arith, l);
  long = λ q. omega (arith, h, l);
  same = λ q. refl;
}

spanned_if : {at : ℕ} {x y : Piece} (b : Bool) → (b ≡ true → Spanned at x) → Spanned at y → Spanned at (cond b x y)
spanned_if true h g = h refl
spanned_if false h g = g

run_some : (test : ℕ → Bool) (b : ℕ) (bytes : List ℕ) → test b ≡ true → 1 ≤ run test (b ∷ bytes)
unfolding run
run_some test b bytes e = rw e (omega arith)

or_first : (a b : Bool) → a ≡ true → (a || b) ≡ true
or_first true b e = refl
or_first false b e = absurd (false≢true e)

begins_in : (b : ℕ) → begins_word b ≡ true → in_word b ≡ true
unfolding in_word
begins_in b e = or_first (begins_word b) (is_digit b) e

word_spanned : (at n : ℕ) (word : List ℕ) → 1 ≤ n → Spanned at (word_of at n word)
unfolding word_of lexeme_bytes mark_bytes of_kind own_from exactly
word_spanned at n word h =
    spanned_if (same_word word (ascii "_")) (λ _. plain 1 (λ q. refl) (λ q. refl) (λ q. refl) h)
    (spanned_if (same_word word (ascii "ref")) (λ _. plain 1 (λ q. refl) (λ q. refl) (λ q. refl) h)
    (spanned_if (same_word word (ascii "mut")) (λ _. plain 1 (λ q. refl) (λ q. refl) (λ q. refl) h)
    (spanned_if (same_word word (ascii "true")) (λ _. plain 1 (λ q. refl) (λ q. refl) (λ q. refl) h)
    (spanned_if (same_word word (ascii "false")) (λ _. plain 1 (λ q. refl) (λ q. refl) (λ q. refl) h)
    (spanned_if (is_one_of word keywords) (λ _. failing_spanned) (named at (omega arith) (omega arith)))))))

-- behind `r#` a word has a byte
raw_some : (bytes : List ℕ) → is_raw bytes ≡ true → 1 ≤ run in_word (drop 2 bytes)
unfolding is_raw begins_word is_letter is_between
raw_some bytes e = by bytes (and_right (eqb (get_or bytes 1 0) 35) _ (and_right (eqb (get_or bytes 0 0) 114) _ e))
  where
    by : (xs : List ℕ) → begins_word (get_or xs 2 0) ≡ true → 1 ≤ run in_word (drop 2 xs)
    by [] f = absurd (false≢true f)
    by (b ∷ []) f = absurd (false≢true f)
    by (b ∷ c ∷ []) f = absurd (false≢true f)
    by (b ∷ c ∷ d ∷ xs) f = run_some in_word d xs (begins_in d f)

words_spanned : (at b : ℕ) (bytes : List ℕ) → begins_word b ≡ true → Spanned at (word_piece at (b ∷ bytes))
unfolding word_piece raw_piece plain_piece
words_spanned at b bytes e =
    spanned_if (is_raw (b ∷ bytes))
    (λ r. let n = raw_some (b ∷ bytes) r in spanned_if (is_one_of _ never_raw) (λ _. failing_spanned) (named (at + 2) (omega arith) (omega (arith, n))))
    (spanned_if (ends_prefix _) (λ _. failing_spanned) (word_spanned at _ _ (run_some in_word b bytes (begins_in b e))))

integers_spanned : (at b : ℕ) (bytes : List ℕ) → is_digit b ≡ true → Spanned at (integer_piece (b ∷ bytes))
unfolding integer_piece integer_of in_integer lexeme_bytes mark_bytes of_kind own_from exactly
integers_spanned at b bytes e =
    spanned_if (goes_on _ _) (λ _. failing_spanned)
    (plain 1 (λ q. refl) (λ q. refl) (λ q. refl) (run_some in_integer b bytes (or_first (is_digit b) (eqb b 95) e)))

chars_spanned : (at : ℕ) (bytes : List ℕ) → Spanned at (char_piece bytes)
unfolding char_piece closed_char lexeme_bytes of_kind own_from exactly
chars_spanned at bytes = by (char_of (drop 1 bytes))
  where
    by : (s : Scalar) → Spanned at (on_scalar s failing (closed_char bytes))
    by (Some (v, more)) =
        spanned_if (eqb (get_or bytes (more + 2) 0) 39 && not (is_suffix (get_or bytes (more + 3) 0) (get_or bytes (more + 4) 0)))
        (λ _. plain 1 (λ q. refl) (λ q. refl) (λ q. refl) (omega arith)) failing_spanned
    by None = failing_spanned

-- punctuation of one byte, and another
module _ (at : ℕ) where
  one : {k : Kind} → ((q : Spot) → lexeme_bytes (of_kind k q) ≡ 1) → ((q : Spot) → own_from at (of_kind k q) ≡ at) → ((q : Spot) → exactly 1 (of_kind k q) ≡ 1) → Spanned at (record { kind = k; size = 1 })
  one e o s = plain 1 e o s (omega arith)

  pub marks_spanned : (bytes : List ℕ) → Spanned at (first_where bytes punctuation)
  unfolding first_where punctuation lexeme_bytes mark_bytes of_kind own_from exactly
  marks_spanned bytes =
      spanned_if (begins bytes 0 (ascii "...")) (λ _. failing_spanned)
      (spanned_if (begins bytes 0 (ascii "..=")) (λ _. plain 1 (λ q. refl) (λ q. refl) (λ q. refl) (omega arith))
      (spanned_if (begins bytes 0 (ascii "&&")) (λ _. plain 2 (λ q. refl) (λ q. refl) (λ q. refl) (omega arith))
      (spanned_if (begins bytes 0 (ascii "&=")) (λ _. failing_spanned)
      (spanned_if (begins bytes 0 (ascii "-=")) (λ _. failing_spanned)
      (spanned_if (begins bytes 0 (ascii "->")) (λ _. failing_spanned)
      (spanned_if (begins bytes 0 (ascii "..")) (λ _. plain 1 (λ q. refl) (λ q. refl) (λ q. refl) (omega arith))
      (spanned_if (begins bytes 0 (ascii "::")) (λ _. plain 1 (λ q. refl) (λ q. refl) (λ q. refl) (omega arith))
      (spanned_if (begins bytes 0 (ascii "|=")) (λ _. failing_spanned)
      (spanned_if (begins bytes 0 (ascii "||")) (λ _. failing_spanned)
      (spanned_if (begins bytes 0 (ascii "&")) (λ _. one (λ q. refl) (λ q. refl) (λ q. refl))
      (spanned_if (begins bytes 0 (ascii "(")) (λ _. one (λ q. refl) (λ q. refl) (λ q. refl))
      (spanned_if (begins bytes 0 (ascii ")")) (λ _. one (λ q. refl) (λ q. refl) (λ q. refl))
      (spanned_if (begins bytes 0 (ascii ",")) (λ _. one (λ q. refl) (λ q. refl) (λ q. refl))
      (spanned_if (begins bytes 0 (ascii "-")) (λ _. one (λ q. refl) (λ q. refl) (λ q. refl))
      (spanned_if (begins bytes 0 (ascii ".")) (λ _. failing_spanned)
      (spanned_if (begins bytes 0 (ascii ":")) (λ _. one (λ q. refl) (λ q. refl) (λ q. refl))
      (spanned_if (begins bytes 0 (ascii "@")) (λ _. one (λ q. refl) (λ q. refl) (λ q. refl))
      (spanned_if (begins bytes 0 (ascii "[")) (λ _. one (λ q. refl) (λ q. refl) (λ q. refl))
      (spanned_if (begins bytes 0 (ascii "]")) (λ _. one (λ q. refl) (λ q. refl) (λ q. refl))
      (spanned_if (begins bytes 0 (ascii "{")) (λ _. one (λ q. refl) (λ q. refl) (λ q. refl))
      (spanned_if (begins bytes 0 (ascii "|")) (λ _. one (λ q. refl) (λ q. refl) (λ q. refl))
      (spanned_if (begins bytes 0 (ascii "}")) (λ _. one (λ q. refl) (λ q. refl) (λ q. refl))
      failing_spanned))))))))))))))))))))))

-- whatever token begins there
pub piece_spanned : (at b : ℕ) (bytes : List ℕ) → Spanned at (piece_of at (b ∷ bytes))
unfolding piece_of
piece_spanned at b bytes = by (begins_word b) refl (is_digit b) refl
  where
    by : (w : Bool) → begins_word b ≡ w → (d : Bool) → is_digit b ≡ d
        → Spanned at (cond w (word_piece at (b ∷ bytes)) (cond d (integer_piece (b ∷ bytes)) (cond (eqb b 39) (char_piece (b ∷ bytes)) (first_where (b ∷ bytes) punctuation))))
    by true e d f = words_spanned at b bytes e
    by false e true f = integers_spanned at b bytes f
    by false e false f = spanned_if (eqb b 39) (λ _. chars_spanned at (b ∷ bytes)) (marks_spanned at (b ∷ bytes))
