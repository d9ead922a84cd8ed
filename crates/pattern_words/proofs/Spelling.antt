-- Words and the numbers whose bytes theirs are: words of at most eight bytes are the same where their numbers are. Assumes nothing.
use Prim.Native.Nat.{ℕ, suc, ◌+◌, ◌-◌, ◌*◌, ◌^◌, ◌<◌, ◌≤◌}
use mathlib.Core.Path.{◌≡◌, refl, sym}
use mathlib.Core.Bool.{Bool, true, false, cond, ◌&&◌, ◌||◌}
use mathlib.Core.List.{List, [], ◌∷◌, map}
use mathlib.Core.Logic.{◌⊎◌, inl, inr, ⊎_elim}
use native.Mathlib.Omega.{arith}
use native.Mathlib.Nat.{pow-suc, pow-le-pow_right}
use borrow.Author.Tests.{leb-true, ltb-true, ltb-false, eqb-true, eqb-false, eq-eqb, ne_eqb}
use lib.Dec.{eqb, leb, ltb}
use lib.ListN.{length, get_or, take, drop, get_or-eq_default}
use Rattle.image.specs.Bytes.{little_endian}
use Rattle.image.specs.Lists.{member, all_in}
use Rattle.image.proofs.Bools.{and_left, and_right}
use Rattle.text_chars.specs.Bytes.{ascii, run}
use Rattle.text_chars.proofs.Loops.{on, over}
use Rattle.pattern_words.specs.Words.{is_between, is_digit, is_letter, begins_word, in_word, same_word, is_one_of, keywords, never_raw, word_of, is_raw, piece, failing}
use Rattle.pattern_words.specs.declared.Kind.{Kind}
use Rattle.pattern_words.specs.declared.Piece.{Piece}

-- one of two tests is passed
pub either : (p q : Bool) → (p || q) ≡ true → (p ≡ true) ⊎ (q ≡ true)
either true q e = inl refl
either false q e = inr e

pub between_true : (low high b : ℕ) → is_between low high b ≡ true → (low ≤ b) × (b ≤ high)
unfolding is_between
between_true low high b e = (leb-true low b (and_left _ _ e), leb-true b high (and_right (leb low b) _ e))

pub digit_true : (b : ℕ) → is_digit b ≡ true → (48 ≤ b) × (b ≤ 57)
unfolding is_digit
digit_true b e = between_true 48 57 b e

digit_range : (b : ℕ) → is_digit b ≡ true → (0 < b) × (b < 256)
digit_range b e = let r = digit_true b e in (omega (arith, r.0), omega (arith, r.1))

letter_range : (b : ℕ) → is_letter b ≡ true → (0 < b) × (b < 256)
unfolding is_letter
letter_range b e =
    ⊎_elim
    (λ l. let r = between_true 97 122 b l in (omega (arith, r.0), omega (arith, r.1)))
    (λ l. let r = between_true 65 90 b l in (omega (arith, r.0), omega (arith, r.1)))
    (either (is_between 97 122 b) (is_between 65 90 b) e)

pub begins_range : (b : ℕ) → begins_word b ≡ true → (0 < b) × (b < 256)
unfolding begins_word
begins_range b e =
    ⊎_elim (λ l. letter_range b l) (λ u. let s = eqb-true b 95 u in (omega arith, omega arith)) (either (is_letter b) (eqb b 95) e)

-- a byte of a word is no 0
pub word_range : (b : ℕ) → in_word b ≡ true → (0 < b) × (b < 256)
unfolding in_word
word_range b e = ⊎_elim (λ l. begins_range b l) (λ d. digit_range b d) (either (begins_word b) (is_digit b) e)

by_bytes : (b c m n : ℕ) (p q : Bool) → b < 256 → c < 256 → eqb b c ≡ p → eqb m n ≡ q → (p && q) ≡ eqb (b + 256 * m) (c + 256 * n)
by_bytes b c m n true true hb hc e f =
    let s = eqb-true b c e in
    let t = eqb-true m n f in
    sym (eq-eqb (b + 256 * m) (c + 256 * n) (omega arith))
by_bytes b c m n true false hb hc e f = let s = eqb-true b c e in sym (ne_eqb (b + 256 * m) (c + 256 * n) (λ g. eqb-false m n f (omega arith)))
by_bytes b c m n false q hb hc e f = sym (ne_eqb (b + 256 * m) (c + 256 * n) (λ g. eqb-false b c e (omega arith)))

-- two words are the same where their numbers are
pub same_number : (w x : List ℕ) → all_in in_word w ≡ true → all_in in_word x ≡ true → same_word w x ≡ eqb (little_endian w) (little_endian x)
unfolding same_word little_endian all_in
same_number [] [] p q = refl
same_number [] (c ∷ cs) p q = let r = word_range c (and_left _ _ q) in sym (ne_eqb 0 (c + 256 * little_endian cs) (λ g. omega (arith, r.0)))
same_number (b ∷ bs) [] p q = let r = word_range b (and_left _ _ p) in sym (ne_eqb (b + 256 * little_endian bs) 0 (λ g. omega (arith, r.0)))
same_number (b ∷ bs) (c ∷ cs) p q =
    let rest = same_number bs cs (and_right (in_word b) _ p) (and_right (in_word c) _ q) in
    rw (rest) (by_bytes b c (little_endian bs) (little_endian cs) (eqb b c) (eqb (little_endian bs) (little_endian cs)) (word_range b (and_left _ _ p)).1 (word_range c (and_left _ _ q)).1 refl refl)

-- all of the words are made of a word's bytes
unfoldable pub all_words : List (List ℕ) → Bool
all_words [] = true
all_words (w ∷ ws) = all_in in_word w && all_words ws

-- a word is one of the words where its number is one of theirs
pub one_of_number : (w : List ℕ) (ws : List (List ℕ)) → all_in in_word w ≡ true → all_words ws ≡ true → is_one_of w ws ≡ member (little_endian w) (map little_endian ws)
unfolding is_one_of member all_words
one_of_number w [] p q = refl
one_of_number w (x ∷ ws) p q = rw (same_number w x p (and_left _ _ q), one_of_number w ws p (and_right (all_in in_word x) _ q))

none_below : (n : ℕ) → n < 0 → ⊥
none_below n h = omega arith

-- a longer word is another
pub longer : (w x : List ℕ) → length x < length w → same_word w x ≡ false
unfolding same_word
longer [] x h = absurd (none_below (length x) h)
longer (b ∷ bs) [] h = refl
longer (b ∷ bs) (c ∷ cs) h = rw (longer bs cs (omega arith)) (none (eqb b c))
  where
    none : (p : Bool) → (p && false) ≡ false
    none true = refl
    none false = refl

-- all of the words have at most eight bytes
unfoldable pub all_short : List (List ℕ) → Bool
all_short [] = true
all_short (w ∷ ws) = leb (length w) 8 && all_short ws

pub longer_than_all : (w : List ℕ) (ws : List (List ℕ)) → 8 < length w → all_short ws ≡ true → is_one_of w ws ≡ false
unfolding is_one_of all_short
longer_than_all w [] h q = refl
longer_than_all w (x ∷ ws) h q =
    let short = leb-true (length x) 8 (and_left _ _ q) in
    rw (longer w x (omega arith), longer_than_all w ws h (and_right (leb (length x) 8) _ q))

-- a run is no longer than the bytes, and each of its bytes passes the test
pub run_bound : (test : ℕ → Bool) (xs : List ℕ) → run test xs ≤ length xs
unfolding run
run_bound test [] = omega arith
run_bound test (x ∷ xs) = let rest = run_bound test xs in shorter (test x) (run test xs) (length xs) rest
  where
    shorter : (p : Bool) (n m : ℕ) → n ≤ m → cond p (suc n) 0 ≤ suc m
    shorter true n m h = omega arith
    shorter false n m h = omega arith

pub run_all : (test : ℕ → Bool) (xs : List ℕ) → all_in test (take (run test xs) xs) ≡ true
unfolding run all_in
run_all test [] = refl
run_all test (x ∷ xs) = first (test x) refl (run_all test xs)
  where
    first : (p : Bool) → test x ≡ p → all_in test (take (run test xs) xs) ≡ true → all_in test (take (cond p (suc (run test xs)) 0) (x ∷ xs)) ≡ true
    first true e rest = rw (e) rest
    first false e rest = refl

-- a number of one byte more
pub number_on : (word : List ℕ) (at : ℕ) → 0 < at → at ≤ length word → little_endian (drop (at - 1) word) ≡ get_or word (at - 1) 0 + 256 * little_endian (drop at word)
unfolding little_endian
number_on word at n h =
    let e : at - 1 + 1 ≡ at = omega (arith, n) in
    rw (on word (at - 1) (omega (arith, n)), e)

pub number_bound : (number b len at : ℕ) → number < 256 ^ (len - at) → b < 256 → 0 < at → at ≤ len → number * 256 + b < 256 ^ (len - (at - 1))
number_bound number b len at h hb n l =
    let e : len - (at - 1) ≡ suc (len - at) = omega (arith, n) in
    rw (e, pow-suc 256 (len - at)) (omega arith)

pub number_fits : (number len at : ℕ) → number < 256 ^ (len - at) → 0 < at → at ≤ len → len ≤ 8 → number < 72057594037927936
number_fits number len at h n l s =
    let p = pow-le-pow_right {n = 256} (omega arith) {i = len - at} {j = 7} (omega (arith, n)) in
    omega (arith, p)

-- before any byte is read
pub number_start : (word : List ℕ) → (0 ≡ little_endian (drop (length word) word)) × (0 < 256 ^ (length word - length word))
unfolding little_endian
number_start word =
    let e : length word - length word ≡ 0 = omega arith in
    (rw (over word (length word) (omega arith)), rw (e) (omega arith))

-- what a word is, by its number
unfoldable pub by_number : ℕ → ℕ → ℕ → Piece
by_number at n number =
    cond (eqb number 0x5f) (piece Kind.Underscore n)
    (cond (eqb number 0x666572) (piece Kind.Ref n)
    (cond (eqb number 0x74756d) (piece Kind.Mut n)
    (cond (eqb number 0x65757274) (piece Kind.True n)
    (cond (eqb number 0x65736c6166) (piece Kind.False n)
    (cond (member number (map little_endian keywords)) failing
    (piece (Kind.Name at) n))))))

pub word_by_number : (at n : ℕ) (word : List ℕ) → all_in in_word word ≡ true → word_of at n word ≡ by_number at n (little_endian word)
unfolding word_of by_number ascii little_endian all_in in_word begins_word is_letter is_digit is_between all_words keywords
word_by_number at n word p =
    rw (same_number word (ascii "_") p refl, same_number word (ascii "ref") p refl, same_number word (ascii "mut") p refl, same_number word (ascii "true") p refl, same_number word (ascii "false") p refl, one_of_number word keywords p refl)

pub word_long : (at n : ℕ) (word : List ℕ) → 8 < length word → word_of at n word ≡ piece (Kind.Name at) n
unfolding word_of ascii all_short keywords
word_long at n word h =
    rw (longer word (ascii "_") (omega arith), longer word (ascii "ref") (omega arith), longer word (ascii "mut") (omega arith), longer word (ascii "true") (omega arith), longer word (ascii "false") (omega arith), longer_than_all word keywords h refl)

pub reserved_by_number : (word : List ℕ) → all_in in_word word ≡ true → is_one_of word never_raw ≡ member (little_endian word) (map little_endian never_raw)
unfolding ascii all_in in_word begins_word is_letter is_digit is_between all_words never_raw
reserved_by_number word p = one_of_number word never_raw p refl

pub reserved_long : (word : List ℕ) → 8 < length word → is_one_of word never_raw ≡ false
unfolding ascii all_short never_raw
reserved_long word h = longer_than_all word never_raw h refl

inside : (bytes : List ℕ) (k : ℕ) (p : Bool) → 0 < get_or bytes k 0 → ltb k (length bytes) ≡ p → k < length bytes
inside bytes k true h e = ltb-true k (length bytes) e
inside bytes k false h e =
    let far = ltb-false k (length bytes) e in
    let zero = get_or-eq_default bytes 0 {n = k} far in
    absurd (apart (get_or bytes k 0) h zero)
  where
    apart : (n : ℕ) → 0 < n → n ≡ 0 → ⊥
    apart n h e = omega arith

-- a byte that is no 0 stands before the end
pub there : (bytes : List ℕ) (k : ℕ) → 0 < get_or bytes k 0 → k < length bytes
there bytes k h = inside bytes k (ltb k (length bytes)) h refl

-- a raw name has a byte behind `r#`
pub raw_long : (bytes : List ℕ) → is_raw bytes ≡ true → 2 < length bytes
unfolding is_raw
raw_long bytes e =
    there bytes 2 (begins_range (get_or bytes 2 0) (and_right (eqb (get_or bytes 1 0) 35) _ (and_right (eqb (get_or bytes 0 0) 114) _ e))).0
