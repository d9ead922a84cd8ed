-- A token is no longer than the text that it begins. Assumes nothing.
use Rattle.std.specs.Prelude.{Some, None, Ok, Err}
use Prim.Native.Nat.{ℕ, suc, ◌+◌, ◌-◌, ◌<◌, ◌≤◌}
use mathlib.Core.Path.{◌≡◌, refl, ap}
use mathlib.Core.Bool.{Bool, true, false, cond, not, ◌&&◌}
use mathlib.Core.List.{List, [], ◌∷◌}
use native.Mathlib.Omega.{arith}
use borrow.Author.Tests.{leb-true, eqb-true}
use lib.Dec.{eqb, leb}
use lib.ListN.{length, get_or, take, drop, length-drop}
use Rattle.image.proofs.Bools.{and_left, and_right}
use Rattle.text_chars.specs.Results.{Scalar}
use Rattle.text_chars.specs.Bytes.{ascii, run}
use Rattle.pattern_words.specs.declared.Kind.{Kind}
use Rattle.pattern_words.specs.declared.Piece.{Piece}
use Rattle.pattern_words.specs.Words.{begins_word, in_word, is_digit, same_word, is_one_of, keywords, never_raw, word_of, ends_prefix, is_raw, raw_piece, plain_piece, word_piece, failing}
use Rattle.pattern_tokens.specs.Literals.{in_integer, integer_of, integer_piece, char_of, is_suffix, closed_char, char_piece, goes_on}
use Rattle.pattern_tokens.specs.Tokens.{Mark, begins, punctuation, first_where, piece_of, placed, bare, token_from, token_behind, token_at}
use Rattle.text_chars.specs.Gaps.{start_of}
use Rattle.text_chars.proofs.Loops.{on, over, left}
use Rattle.pattern_words.proofs.Spelling.{run_bound, there, raw_long}

-- either of two pieces, each where the test leads to it
chosen : (p : Bool) (x y : Piece) (n : ℕ) → (p ≡ true → x.size ≤ n) → y.size ≤ n → (cond p x y).size ≤ n
chosen true x y n h k = h refl
chosen false x y n h k = k

word_size : (at n : ℕ) (word : List ℕ) (m : ℕ) → n ≤ m → (word_of at n word).size ≤ m
unfolding word_of
word_size at n word m h =
    chosen (same_word word (ascii "_")) _ _ m (λ _. h)
    (chosen (same_word word (ascii "ref")) _ _ m (λ _. h)
    (chosen (same_word word (ascii "mut")) _ _ m (λ _. h)
    (chosen (same_word word (ascii "true")) _ _ m (λ _. h)
    (chosen (same_word word (ascii "false")) _ _ m (λ _. h)
    (chosen (is_one_of word keywords) _ _ m (λ _. omega arith) h)))))

words_size : (at : ℕ) (bytes : List ℕ) → (word_piece at bytes).size ≤ length bytes
unfolding word_piece raw_piece plain_piece
words_size at bytes =
    chosen (is_raw bytes) _ _ (length bytes)
    (λ e. let long = raw_long bytes e in
    let r = run_bound in_word (drop 2 bytes) in
    let l = length-drop 2 bytes in
    chosen (is_one_of (take (run in_word (drop 2 bytes)) (drop 2 bytes)) never_raw) _ _ (length bytes) (λ _. omega arith) (omega arith))
    (chosen (ends_prefix (get_or bytes (run in_word bytes) 0)) _ _ (length bytes) (λ _. omega arith)
    (word_size at (run in_word bytes) (take (run in_word bytes) bytes) (length bytes) (run_bound in_word bytes)))

integers_size : (bytes : List ℕ) → (integer_piece bytes).size ≤ length bytes
unfolding integer_piece integer_of
integers_size bytes =
    chosen (goes_on (get_or bytes (run in_integer bytes) 0) (get_or bytes (run in_integer bytes + 1) 0)) _ _ (length bytes) (λ _. omega arith)
    (run_bound in_integer bytes)

-- a char ends with a quote
pub quote_there : (bytes : List ℕ) (k : ℕ) → get_or bytes k 0 ≡ 39 → k < length bytes
quote_there bytes k e = there bytes k (omega arith)

closed_size : (bytes : List ℕ) (v more : ℕ) → (closed_char bytes v more).size ≤ length bytes
unfolding closed_char
closed_size bytes v more =
    chosen (eqb (get_or bytes (more + 2) 0) 39 && not (is_suffix (get_or bytes (more + 3) 0) (get_or bytes (more + 4) 0))) _ _ (length bytes)
    (λ e. let q = quote_there bytes (more + 2) (eqb-true _ _ (and_left (eqb (get_or bytes (more + 2) 0) 39) _ e)) in omega arith)
    (omega arith)

chars_size : (bytes : List ℕ) → (char_piece bytes).size ≤ length bytes
unfolding char_piece
chars_size bytes = by (char_of (drop 1 bytes))
  where
    by : (s : Scalar) → (Rattle.text_chars.specs.Scalars.on_scalar s failing (closed_char bytes)).size ≤ length bytes
    by (Some (v, more)) = closed_size bytes v more
    by None = omega arith

-- what the bytes begin with is no longer than they
begins_size : (bytes : List ℕ) (k : ℕ) (cs : List ℕ) → Rattle.image.specs.Lists.all_in (leb 1) cs ≡ true → k ≤ length bytes → begins bytes k cs ≡ true → k + length cs ≤ length bytes
unfolding begins Rattle.image.specs.Lists.all_in
begins_size bytes k [] p h e = omega arith
begins_size bytes k (c ∷ cs) p h e =
    let same = eqb-true (get_or bytes k 0) c (and_left _ _ e) in
    let some = leb-true 1 c (and_left _ _ p) in
    let here = there bytes k (omega arith) in
    let rest = begins_size bytes (suc k) cs (and_right (leb 1 c) _ p) (omega arith) (and_right (eqb (get_or bytes k 0) c) _ e) in
    omega arith

-- each is as long as it is written, and has no byte 0
unfoldable spelled : List Mark → Bool
spelled [] = true
spelled (m ∷ ms) = (Rattle.image.specs.Lists.all_in (leb 1) (ascii m.text) && leb m.is.size (length (ascii m.text))) && spelled ms

first_size : (bytes : List ℕ) (ms : List Mark) → spelled ms ≡ true → (first_where bytes ms).size ≤ length bytes
unfolding first_where spelled
first_size bytes [] p = omega arith
first_size bytes (m ∷ ms) p =
    let own = and_left (Rattle.image.specs.Lists.all_in (leb 1) (ascii m.text) && leb m.is.size (length (ascii m.text))) (spelled ms) p in
    let size = leb-true m.is.size (length (ascii m.text)) (and_right (Rattle.image.specs.Lists.all_in (leb 1) (ascii m.text)) _ own) in
    chosen (begins bytes 0 (ascii m.text)) _ _ (length bytes)
    (λ e. let long = begins_size bytes 0 (ascii m.text) (and_left _ _ own) (omega arith) e in omega arith)
    (first_size bytes ms (and_right (Rattle.image.specs.Lists.all_in (leb 1) (ascii m.text) && leb m.is.size (length (ascii m.text))) (spelled ms) p))

marks_spelled : spelled punctuation ≡ true
unfolding spelled punctuation ascii Rattle.image.specs.Lists.all_in
marks_spelled = refl

-- a token ends with the text at the latest
pub piece_size : (at : ℕ) (bytes : List ℕ) → (piece_of at bytes).size ≤ length bytes
unfolding piece_of
piece_size at bytes =
    chosen (begins_word (get_or bytes 0 0)) _ _ (length bytes) (λ _. words_size at bytes)
    (chosen (is_digit (get_or bytes 0 0)) _ _ (length bytes) (λ _. integers_size bytes)
    (chosen (eqb (get_or bytes 0 0) 39) _ _ (length bytes) (λ _. chars_size bytes) (first_size bytes punctuation marks_spelled)))

-- the token at a position, by where the next one begins
pub token_end : (text : List ℕ) (at from : ℕ) → start_of text at ≡ Ok from → length text ≤ from → token_at text at ≡ bare Kind.End from
unfolding token_at token_behind token_from
token_end text at from e h = rw (e, over text from h)

pub token_broken : (text : List ℕ) (at from : ℕ) → start_of text at ≡ Err from → token_at text at ≡ bare Kind.Fails from
unfolding token_at token_behind
token_broken text at from e = rw (e)

pub token_there : (text : List ℕ) (at from : ℕ) (p : Piece) → start_of text at ≡ Ok from → from < length text → p ≡ piece_of from (take (length text - from) (drop from text)) → token_at text at ≡ placed from p
unfolding token_at token_behind token_from
token_there text at from p e h m =
    let n = rw (left text from) at m in
    let o = rw (on text from h) at n in
    rw (e, on text from h, o)

pub token_fits : (text : List ℕ) (from : ℕ) (p : Piece) → from < length text → p ≡ piece_of from (take (length text - from) (drop from text)) → from + p.size ≤ length text
token_fits text from p h m =
    let b = piece_size from (drop from text) in
    let l = length-drop from text in
    let e = ap (λ (q : Piece). q.size) (rw (left text from) at m) in
    omega arith
