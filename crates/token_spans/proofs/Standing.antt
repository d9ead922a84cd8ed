-- The token at a position of a text stands behind the position, and in the text. Assumes nothing.
use Rattle.std.specs.Prelude.{Ok, Err}
use Prim.Native.Nat.{ℕ, zero, suc, ◌+◌, ◌<◌, ◌≤◌}
use mathlib.Core.Path.{◌≡◌, refl, sym, ap, ◌∙◌}
use mathlib.Core.Bool.{Bool, true, false, cond, ◌||◌, true≢false}
use mathlib.Core.List.{List, [], ◌∷◌}
use native.Mathlib.Omega.{arith}
use lib.Dec.{eqb}
use lib.ListN.{length, drop, length-drop}
use Rattle.text_chars.specs.declared.Gap.{Gap}
use Rattle.text_chars.specs.Results.{Start}
use Rattle.text_chars.specs.Gaps.{gap_of, on_gap, start_from, start_of}
use Rattle.pattern_words.specs.declared.Kind.{Kind}
use Rattle.pattern_words.specs.declared.Piece.{Piece}
use Rattle.pattern_tokens.specs.declared.Token.{Token}
use Rattle.pattern_tokens.specs.Tokens.{piece_of, placed, bare, token_from, token_behind, token_at}
use Rattle.pattern_tokens.proofs.Sizes.{piece_size}
use Rattle.pattern_grammar.specs.Lexemes.{Spot, Identifier, Lexeme, name, scalar, mark, end_mark, fails_mark, and_and_mark, path_sep_mark, of_kind, lexeme}
use Rattle.pattern_grammar.specs.Parsed.{is_last}
use Rattle.parsing_bounds.specs.Weights.{mark_bytes, lexeme_bytes}
use Rattle.token_spans.specs.Spans.{lexeme_spot, Lies, Spans}
use Rattle.token_spans.proofs.Pieces.{own_from, exactly, Spanned, piece_spanned}

-- between two positions
abbrev Within : ℕ → ℕ → Start → Type 0
Within low high (Ok from) = (low ≤ from) × (from ≤ high)
Within low high (Err from) = (low ≤ from) × (from ≤ high)

within_more : {low high low' high' : ℕ} (s : Start) → low' ≤ low → high ≤ high' → Within low high s → Within low' high' s
within_more (Ok from) h g w = let a = w.0 in let b = w.1 in (omega arith, omega arith)
within_more (Err from) h g w = let a = w.0 in let b = w.1 in (omega arith, omega arith)

-- the next token begins behind the position, and not behind the text
start_within : (bytes : List ℕ) (at rest : ℕ) → Within at (at + length bytes) (start_from at rest bytes)
unfolding start_from
start_within [] at zero = (omega arith, omega arith)
start_within [] at (suc rest) = (omega arith, omega arith)
start_within (b ∷ bytes) at (suc rest) = within_more (start_from (suc at) rest bytes) (omega arith) (omega arith) (start_within bytes (suc at) rest)
start_within (b ∷ bytes) at zero = by (gap_of (b ∷ bytes)) (λ more. start_within bytes (suc at) more)
  where
    by :
        (g : Gap) → ((more : ℕ) → Within (suc at) (suc at + length bytes) (start_from (suc at) more bytes))
        → Within at (at + length (b ∷ bytes)) (on_gap g (Ok at) (Err at) (λ more. start_from (suc at) more bytes))
    by (Gap.Of more) down = within_more (start_from (suc at) more bytes) (omega arith) (omega arith) (down more)
    by Gap.Nothing down = (omega arith, omega arith)
    by Gap.Broken down = (omega arith, omega arith)

-- the parts of a token by its kind
pub spot_of_lem : (k : Kind) (q : Spot) → lexeme_spot (of_kind k q) ≡ q
unfolding lexeme_spot of_kind
spot_of_lem (Kind.Name at) q = refl
spot_of_lem Kind.Ref q = refl
spot_of_lem Kind.Mut q = refl
spot_of_lem Kind.True q = refl
spot_of_lem Kind.False q = refl
spot_of_lem Kind.Underscore q = refl
spot_of_lem Kind.Integer q = refl
spot_of_lem (Kind.Char v) q = refl
spot_of_lem Kind.OpenParen q = refl
spot_of_lem Kind.CloseParen q = refl
spot_of_lem Kind.OpenBracket q = refl
spot_of_lem Kind.CloseBracket q = refl
spot_of_lem Kind.OpenBrace q = refl
spot_of_lem Kind.CloseBrace q = refl
spot_of_lem Kind.Comma q = refl
spot_of_lem Kind.Or q = refl
spot_of_lem Kind.And q = refl
spot_of_lem Kind.AndAnd q = refl
spot_of_lem Kind.Bind q = refl
spot_of_lem Kind.Minus q = refl
spot_of_lem Kind.Colon q = refl
spot_of_lem Kind.PathSep q = refl
spot_of_lem Kind.DotDot q = refl
spot_of_lem Kind.DotDotEq q = refl
spot_of_lem Kind.End q = refl
spot_of_lem Kind.Fails q = refl

-- a token of so many bytes from a position on lies in the text
module _ (size from n : ℕ) (t : Lexeme) (here : lexeme_spot t ≡ record { from = from; to = from + n }) where
  lies : from + n ≤ size → from ≤ own_from from t → own_from from t + lexeme_bytes t ≤ from + n → lexeme_bytes t ≤ n → exactly n t ≡ n → Lies size t
  unfolding lexeme_spot own_from exactly lexeme_bytes
  lies h b e l s =
      let f = ap (λ (q : Spot). q.from) here in
      let g = ap (λ (q : Spot). q.to) here in
      record {
        inside = omega (arith, g, h);
        long = omega (arith, f, g, l);
        own = λ i x.
            let p : i.spot ≡ record { from = from; to = from + n } = rw x at here in
            let c = rw x at b in
            let d = rw x at e in
            (omega (arith, ap (λ (q : Spot). q.from) p, c), omega (arith, ap (λ (q : Spot). q.to) p, d));
        path = λ q x.
            let p : q ≡ record { from = from; to = from + n } = rw x at here in
            let c = rw x at s in
            omega (arith, ap (λ (q : Spot). q.from) p, ap (λ (q : Spot). q.to) p, c);
      }

-- a token that has bytes
piece_lies : (text : List ℕ) (from b : ℕ) (bytes : List ℕ) → drop from text ≡ b ∷ bytes → Lies (length text) (lexeme (placed from (piece_of from (b ∷ bytes))))
unfolding lexeme
piece_lies text from b bytes e =
    let p : Piece = piece_of from (b ∷ bytes) in
    let w : Spanned from p = piece_spanned from b bytes in
    let q : Spot = record { from = from; to = from + p.size } in
    let n = piece_size from (b ∷ bytes) in
    let d = length-drop from text in
    let l = ap length e in
    lies (length text) from p.size (of_kind p.kind q) (spot_of_lem p.kind q) (omega (arith, n, d, l)) (w.begun q) (w.ended q) (w.long q) (w.same q)

-- one that has none
bare_lies : (size at m : ℕ) → at ≤ size → mark_bytes m ≡ 0 → eqb m path_sep_mark ≡ false → Lies size (mark m (record { from = at; to = at }))
unfolding lexeme_spot lexeme_bytes own_from exactly
bare_lies size at m h z p =
    let none : at ≡ at + 0 = omega arith in
    lies size at 0 (mark m (record { from = at; to = at })) (λ i. record { from = at; to = none i }) (omega arith) (omega arith) (omega (arith, z)) (omega (arith, z)) (rw p)

-- where the token at a position stands
pub token_spans : (text : List ℕ) (at : ℕ) → at ≤ length text → Spans text at (lexeme (token_at text at))
unfolding token_at token_behind token_from lexeme of_kind lexeme_spot mark_bytes
token_spans text at h = by (start_of text at) inside
  where
    inside : Within at (length text) (start_of text at)
    inside = let d = length-drop at text in within_more (start_of text at) (omega arith) (omega (arith, d, h)) (start_within (drop at text) at 0)

    here : (from : ℕ) → at ≤ from → from ≤ length text → (bytes : List ℕ) → drop from text ≡ bytes → Spans text at (lexeme (token_from from bytes))
    here from l g [] e = record { behind = l; lies = bare_lies (length text) from end_mark g refl refl }
    here from l g (b ∷ bytes) e =
        let p : Piece = piece_of from (b ∷ bytes) in
        record {
          behind = omega (arith, l, ap (λ (q : Spot). q.from) (spot_of_lem p.kind (record { from = from; to = from + p.size })));
          lies = piece_lies text from b bytes e;
        }

    by : (s : Start) → Within at (length text) s → Spans text at (lexeme (token_behind text s))
    by (Ok from) w = here from w.0 w.1 (drop from text) refl
    by (Err from) w = record { behind = w.0; lies = bare_lies (length text) from fails_mark w.1 refl refl }

-- a token behind which there are others has a byte
pub not_last_long : (t : Lexeme) → is_last t ≡ false → 1 ≤ lexeme_bytes t
unfolding is_last lexeme_bytes mark_bytes
not_last_long (name n) e = omega arith
not_last_long (scalar v q) e = omega arith
not_last_long (mark m q) e = rw e (by (eqb m and_and_mark))
  where
    by : (b : Bool) → 1 ≤ cond b 2 1
    by true = omega arith
    by false = omega arith

pub not_last_moves : {text : List ℕ} {at : ℕ} (t : Lexeme) → Spans text at t → is_last t ≡ false → (lexeme_spot t).from < (lexeme_spot t).to
not_last_moves t s e = let l = s.lies.long in let n = not_last_long t e in omega (arith, l, n)
