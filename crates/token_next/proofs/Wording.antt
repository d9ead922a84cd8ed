-- A token's positions are words, and so are its parts. Assumes nothing.
use Prim.Native.Nat.{ℕ, ◌+◌, ◌*◌, ◌<◌, ◌≤◌}
use mathlib.Core.Path.{◌≡◌, refl, ap, ◌∙◌}
use mathlib.Core.Bool.{Bool, true, false, cond}
use mathlib.Core.List.{List}
use native.Mathlib.Omega.{arith}
use lib.Dec.{eqb}
use lib.ListN.{length}
use Rattle.pattern_tokens.specs.declared.Token.{Token}
use Rattle.pattern_tokens.specs.Tokens.{token_at}
use Rattle.pattern_grammar.specs.Lexemes.{Spot, name, scalar, mark, of_kind, lexeme}
use Rattle.token_spans.specs.Spans.{lexeme_spot, Lies, Spans}
use Rattle.token_spans.proofs.Standing.{spot_of_lem, token_spans}
use Rattle.token_rows.specs.declared.TokenRow.{TokenRow}
use Rattle.token_rows.specs.TokenRows.{spot_from, lexeme_of, SmallName}

-- the token at a position of a text has words
module _ (text : List ℕ) (at : ℕ) (t : Token) (short : length text ≤ 16384) (there : at ≤ length text) (e : t ≡ token_at text at) where
  stands : Lies (length text) (lexeme t)
  stands = rw e (token_spans text at there).lies

  spot_is : lexeme_spot (lexeme t) ≡ spot_from t.from t.to
  unfolding lexeme
  spot_is = spot_of_lem t.kind (spot_from t.from t.to)

  pub to_word : t.to < 65536
  to_word = omega (arith, stands.inside, ap (λ (q : Spot). q.to) spot_is)

  pub from_word : t.from < 65536
  from_word = omega (arith, stands.long, to_word, ap (λ (q : Spot). q.from) spot_is, ap (λ (q : Spot). q.to) spot_is)

  pub own_word : SmallName t.kind
  unfolding lexeme of_kind
  own_word own f =
      let n = stands.own (record { own = own; spot = spot_from t.from t.to }) (rw f) in
      omega (arith, n.1, to_word)

  pub row_is : (r : TokenRow) → lexeme_of r ≡ of_kind t.kind (spot_from t.from t.to) → lexeme_of r ≡ lexeme (token_at text at)
  unfolding lexeme
  row_is r f = f ∙ ap lexeme e

-- where a row's token stands
pub row_spot : (r : TokenRow) → lexeme_spot (lexeme_of r) ≡ spot_from r.from r.to
unfolding lexeme_of lexeme_spot
row_spot r = by (eqb r.sort 0) (eqb r.sort 1)
  where
    by :
        (a b : Bool)
        → lexeme_spot (cond a (name (record { own = r.own; spot = spot_from r.from r.to })) (cond b (scalar (r.own * 65536 + r.mark) (spot_from r.from r.to)) (mark r.mark (spot_from r.from r.to))))
        ≡ spot_from r.from r.to
    by true b = refl
    by false true = refl
    by false false = refl

-- so the row spans its token
pub row_spans :
    (text : List ℕ) (at : ℕ) (r : TokenRow) → at ≤ length text → lexeme_of r ≡ lexeme (token_at text at) → Spans text at (lexeme_of r)
row_spans text at r h e = rw e (token_spans text at h)
