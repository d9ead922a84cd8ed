-- Every text is read to its end or to a failure: tokens go on, and the last one ends the reading. Assumes nothing.
use Rattle.std.specs.Prelude.{Some, None, Ok, Err}
use Prim.Native.Nat.{ℕ, zero, suc, ◌+◌, ◌-◌, ◌<◌, ◌≤◌}
use mathlib.Core.Path.{◌≡◌, refl, sym, ap, ◌∙◌}
use mathlib.Core.Bool.{Bool, true, false, not, cond, ◌&&◌, ◌||◌, false≢true}
use mathlib.Core.Logic.{◌⊎◌, inl, inr}
use mathlib.Core.List.{List, [], ◌∷◌}
use native.Mathlib.Omega.{arith}
use lib.Dec.{eqb}
use lib.ListN.{length, get_or, drop, length-drop}
use Rattle.text_chars.specs.declared.Gap.{Gap}
use Rattle.text_chars.specs.Results.{Scalar}
use Rattle.text_chars.specs.Results.{Start}
use Rattle.text_chars.specs.Bytes.{run, ascii}
use Rattle.text_chars.specs.Scalars.{on_scalar}
use Rattle.text_chars.specs.Gaps.{gap_of, on_gap, start_from, start_of}
use Rattle.pattern_words.specs.declared.Kind.{Kind}
use Rattle.pattern_words.specs.declared.Piece.{Piece}
use Rattle.pattern_words.specs.Words.{is_digit, begins_word, in_word, is_raw, same_word, is_one_of, keywords, never_raw, ends_prefix, failing, word_of, raw_piece, plain_piece, word_piece}
use Rattle.pattern_tokens.specs.declared.Token.{Token}
use Rattle.pattern_tokens.specs.Literals.{in_integer, goes_on, integer_of, integer_piece, char_of, is_suffix, closed_char, char_piece}
use Rattle.pattern_tokens.specs.Tokens.{begins, punctuation, first_where, piece_of, placed, token_from, token_behind, token_at}
use Rattle.pattern_tokens.proofs.Sizes.{piece_size}
use Rattle.pattern_grammar.specs.Lexemes.{Spot, Lexeme, name, scalar, mark, end_mark, of_kind, lexeme}
use Rattle.pattern_grammar.specs.Parsed.{is_last}

-- the end of the text
unfoldable pub is_end : Lexeme → Bool
is_end (name n) = false
is_end (scalar v q) = false
is_end (mark m q) = eqb m end_mark

-- a token that has a byte, or fails, and is not the end
pub record Moves (p : Piece) : Type 0 where
  pub moves : (p.kind ≡ Kind.Fails) ⊎ (1 ≤ p.size)
  pub inner : (q : Spot) → is_end (of_kind p.kind q) ≡ false

failing_moves : Moves failing
unfolding is_end of_kind
failing_moves = record { moves = inl refl; inner = λ q. refl }

long : {k : Kind} {n : ℕ} → ((q : Spot) → is_end (of_kind k q) ≡ false) → 1 ≤ n → Moves (record { kind = k; size = n })
long e h = record { moves = inr h; inner = e }

moves_if : {x y : Piece} (b : Bool) → Moves x → Moves y → Moves (cond b x y)
moves_if true h g = h
moves_if false h g = g

run_some : (test : ℕ → Bool) (b : ℕ) (bytes : List ℕ) → test b ≡ true → 1 ≤ run test (b ∷ bytes)
unfolding run
run_some test b bytes e = rw e (omega arith)

word_moves : (at n : ℕ) (word : List ℕ) → 1 ≤ n → Moves (word_of at n word)
unfolding word_of is_end of_kind
word_moves at n word h =
    moves_if (same_word word (ascii "_")) (long (λ q. refl) h)
    (moves_if (same_word word (ascii "ref")) (long (λ q. refl) h)
    (moves_if (same_word word (ascii "mut")) (long (λ q. refl) h)
    (moves_if (same_word word (ascii "true")) (long (λ q. refl) h)
    (moves_if (same_word word (ascii "false")) (long (λ q. refl) h)
    (moves_if (is_one_of word keywords) failing_moves (long (λ q. refl) h))))))

or_first : (a b : Bool) → a ≡ true → (a || b) ≡ true
or_first true b e = refl
or_first false b e = absurd (false≢true e)

words_move : (at b : ℕ) (bytes : List ℕ) → begins_word b ≡ true → Moves (word_piece at (b ∷ bytes))
unfolding word_piece raw_piece plain_piece in_word is_end of_kind
words_move at b bytes e =
    moves_if (is_raw (b ∷ bytes)) (moves_if (is_one_of _ never_raw) failing_moves (long (λ q. refl) (omega arith)))
    (moves_if (ends_prefix _) failing_moves (word_moves at _ _ (run_some in_word b bytes (or_first (begins_word b) (is_digit b) e))))

integers_move : (b : ℕ) (bytes : List ℕ) → is_digit b ≡ true → Moves (integer_piece (b ∷ bytes))
unfolding integer_piece integer_of in_integer is_end of_kind
integers_move b bytes e = moves_if (goes_on _ _) failing_moves (long (λ q. refl) (run_some in_integer b bytes (or_first (is_digit b) (eqb b 95) e)))

chars_move : (bytes : List ℕ) → Moves (char_piece bytes)
unfolding char_piece closed_char is_end of_kind
chars_move bytes = by (char_of (drop 1 bytes))
  where
    by : (s : Scalar) → Moves (on_scalar s failing (closed_char bytes))
    by (Some (v, more)) = moves_if (eqb (get_or bytes (more + 2) 0) 39 && not (is_suffix (get_or bytes (more + 3) 0) (get_or bytes (more + 4) 0))) (long (λ q. refl) (omega arith)) failing_moves
    by None = failing_moves

marks_move : (bytes : List ℕ) → Moves (first_where bytes punctuation)
unfolding first_where punctuation is_end of_kind
marks_move bytes =
    moves_if (begins bytes 0 (ascii "...")) failing_moves
    (moves_if (begins bytes 0 (ascii "..=")) (long (λ q. refl) (omega arith))
    (moves_if (begins bytes 0 (ascii "&&")) (long (λ q. refl) (omega arith))
    (moves_if (begins bytes 0 (ascii "&=")) failing_moves
    (moves_if (begins bytes 0 (ascii "-=")) failing_moves
    (moves_if (begins bytes 0 (ascii "->")) failing_moves
    (moves_if (begins bytes 0 (ascii "..")) (long (λ q. refl) (omega arith))
    (moves_if (begins bytes 0 (ascii "::")) (long (λ q. refl) (omega arith))
    (moves_if (begins bytes 0 (ascii "|=")) failing_moves
    (moves_if (begins bytes 0 (ascii "||")) failing_moves
    (moves_if (begins bytes 0 (ascii "&")) (long (λ q. refl) (omega arith))
    (moves_if (begins bytes 0 (ascii "(")) (long (λ q. refl) (omega arith))
    (moves_if (begins bytes 0 (ascii ")")) (long (λ q. refl) (omega arith))
    (moves_if (begins bytes 0 (ascii ",")) (long (λ q. refl) (omega arith))
    (moves_if (begins bytes 0 (ascii "-")) (long (λ q. refl) (omega arith))
    (moves_if (begins bytes 0 (ascii ".")) failing_moves
    (moves_if (begins bytes 0 (ascii ":")) (long (λ q. refl) (omega arith))
    (moves_if (begins bytes 0 (ascii "@")) (long (λ q. refl) (omega arith))
    (moves_if (begins bytes 0 (ascii "[")) (long (λ q. refl) (omega arith))
    (moves_if (begins bytes 0 (ascii "]")) (long (λ q. refl) (omega arith))
    (moves_if (begins bytes 0 (ascii "{")) (long (λ q. refl) (omega arith))
    (moves_if (begins bytes 0 (ascii "|")) (long (λ q. refl) (omega arith))
    (moves_if (begins bytes 0 (ascii "}")) (long (λ q. refl) (omega arith))
    failing_moves))))))))))))))))))))))

piece_moves : (at b : ℕ) (bytes : List ℕ) → Moves (piece_of at (b ∷ bytes))
unfolding piece_of
piece_moves at b bytes = by (begins_word b) refl (is_digit b) refl
  where
    by : (w : Bool) → begins_word b ≡ w → (d : Bool) → is_digit b ≡ d
        → Moves (cond w (word_piece at (b ∷ bytes)) (cond d (integer_piece (b ∷ bytes)) (cond (eqb b 39) (char_piece (b ∷ bytes)) (first_where (b ∷ bytes) punctuation))))
    by true e d f = words_move at b bytes e
    by false e true f = integers_move b bytes f
    by false e false f = moves_if (eqb b 39) (chars_move (b ∷ bytes)) (marks_move (b ∷ bytes))

at_same : (a b : ℕ) → ◌≡◌ {A = Start} (Ok a) (Ok b) → a ≡ b
at_same a b e = cc

not_broken : (a b : ℕ) → ◌≡◌ {A = Start} (Err a) (Ok b) → ⊥
not_broken a b e =
    let z : ◌≡◌ {A = ℕ} 0 1 = cc in
    omega arith

-- the next token does not begin before the position
start_later : (bytes : List ℕ) (at rest from : ℕ) → start_from at rest bytes ≡ Ok from → at ≤ from
unfolding start_from
start_later [] at zero from e = let s = at_same at from e in omega arith
start_later [] at (suc rest) from e = let s = at_same at from e in omega arith
start_later (b ∷ bytes) at (suc rest) from e = let h = start_later bytes (suc at) rest from e in omega arith
start_later (b ∷ bytes) at zero from e = by (gap_of (b ∷ bytes)) (λ more. start_later bytes (suc at) more from) e
  where
    by :
        (g : Gap) → ((more : ℕ) → start_from (suc at) more bytes ≡ Ok from → suc at ≤ from)
        → on_gap g (Ok at) (Err at) (λ more. start_from (suc at) more bytes) ≡ Ok from → at ≤ from
    by (Gap.Of more) down h = let l = down more h in omega arith
    by Gap.Nothing down h = let s = at_same at from h in omega arith
    by Gap.Broken down h = absurd (not_broken at from h)

-- nor behind the text
start_inside : (bytes : List ℕ) (at rest from : ℕ) → start_from at rest bytes ≡ Ok from → from ≤ at + length bytes
unfolding start_from
start_inside [] at zero from e = let s = at_same at from e in omega arith
start_inside [] at (suc rest) from e = let s = at_same at from e in omega arith
start_inside (b ∷ bytes) at (suc rest) from e = let h = start_inside bytes (suc at) rest from e in omega arith
start_inside (b ∷ bytes) at zero from e = by (gap_of (b ∷ bytes)) (λ more. start_inside bytes (suc at) more from) e
  where
    by :
        (g : Gap) → ((more : ℕ) → start_from (suc at) more bytes ≡ Ok from → from ≤ suc at + length bytes)
        → on_gap g (Ok at) (Err at) (λ more. start_from (suc at) more bytes) ≡ Ok from → from ≤ at + length (b ∷ bytes)
    by (Gap.Of more) down h = let l = down more h in omega arith
    by Gap.Nothing down h = let s = at_same at from h in omega arith
    by Gap.Broken down h = absurd (not_broken at from h)

-- a token is the last one, or ends behind where it was looked for, and in the text
abbrev pub Advances : List ℕ → ℕ → Token → Type 0
Advances text at t = (is_last (lexeme t) ≡ true) ⊎ ((at < t.to) × (t.to ≤ length text))

piece_advances :
    (text : List ℕ) (at from b : ℕ) (bytes : List ℕ)
    → at ≤ from → drop from text ≡ b ∷ bytes → Advances text at (placed from (piece_of from (b ∷ bytes)))
unfolding lexeme of_kind is_last
piece_advances text at from b bytes h e = by (piece_of from (b ∷ bytes)) (piece_moves from b bytes).moves (piece_size from (b ∷ bytes))
  where
    by : (p : Piece) → ((p.kind ≡ Kind.Fails) ⊎ (1 ≤ p.size)) → p.size ≤ length (b ∷ bytes) → Advances text at (placed from p)
    by p (inl k) n = inl (ap (λ x. is_last (of_kind x (record { from = from; to = from + p.size }))) k)
    by p (inr m) n =
        let d = length-drop from text in
        let l = ap length e in
        inr (omega arith, omega arith)

-- tokens go on
pub advances : (text : List ℕ) (at : ℕ) → Advances text at (token_at text at)
unfolding token_at token_behind token_from lexeme of_kind is_last
advances text at = by (start_of text at) refl
  where
    here : (from : ℕ) → at ≤ from → (bytes : List ℕ) → drop from text ≡ bytes → Advances text at (token_from from bytes)
    here from h [] e = inl refl
    here from h (b ∷ bytes) e = piece_advances text at from b bytes h e

    by : (s : Start) → start_of text at ≡ s → Advances text at (token_behind text s)
    by (Ok from) e = here from (start_later (drop at text) at 0 from e) (drop from text) refl
    by (Err from) e = inl refl

-- the end stands behind the text's last byte
pub end_there : (text : List ℕ) (at : ℕ) → at ≤ length text → is_end (lexeme (token_at text at)) ≡ true → (token_at text at).from ≡ length text
unfolding token_at token_behind token_from lexeme of_kind is_end
end_there text at h = by (start_of text at) refl
  where
    here :
        (from : ℕ) → from ≤ length text → (bytes : List ℕ) → drop from text ≡ bytes
        → is_end (lexeme (token_from from bytes)) ≡ true → (token_from from bytes).from ≡ length text
    here from g [] e i =
        let d = length-drop from text in
        let l = ap length e in
        omega arith
    here from g (b ∷ bytes) e i = absurd (false≢true (sym ((piece_moves from b bytes).inner (record { from = from; to = from + (piece_of from (b ∷ bytes)).size })) ∙ i))

    inside : (from : ℕ) → start_of text at ≡ Ok from → from ≤ length text
    inside from e =
        let s = start_inside (drop at text) at 0 from e in
        let d = length-drop at text in
        omega arith

    by : (s : Start) → start_of text at ≡ s → is_end (lexeme (token_behind text s)) ≡ true → (token_behind text s).from ≡ length text
    by (Ok from) e i = here from (inside from e) (drop from text) refl i
    by (Err from) e i = absurd (false≢true i)
