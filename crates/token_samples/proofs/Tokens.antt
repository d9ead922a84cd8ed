-- Texts and the tokens that they must have, from the first to the end or to the one that fails. Assumes nothing.
use Prim.Native.Nat.{ℕ, zero, suc}
use mathlib.Core.List.{List, [], ◌∷◌}
use lib.ListN.{length}
use Rattle.pattern_words.specs.declared.Kind.{Kind}
use Rattle.pattern_words.specs.declared.Kind.TheVariants.{End, Fails}
use Rattle.pattern_tokens.specs.declared.Token.{Token}
use Rattle.pattern_tokens.specs.Tokens.{token_at}

-- a text and its tokens
pub record Row : Type 0 where
  pub text : List ℕ
  pub wanted : List Token

abbrev pub row : List ℕ → List Token → Row
row t w = record { text = t; wanted = w }

abbrev pub token : Kind → ℕ → ℕ → Token
token k f t = record { kind = k; from = f; to = t }

abbrev pub end : ℕ → Token
end n = token End n n

abbrev pub fails : ℕ → Token
fails n = token Fails n n

-- so many tokens of a text, from a position on
unfoldable pub tokens : ℕ → List ℕ → ℕ → List Token
tokens zero text at = []
tokens (suc n) text at = token_at text at ∷ tokens n text (token_at text at).to

-- as many tokens as a row wants
abbrev pub given : Row → List Token
given r = tokens (length r.wanted) r.text 0

abbrev pub wants : Row → List Token
wants r = r.wanted
