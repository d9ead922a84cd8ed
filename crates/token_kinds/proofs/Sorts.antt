-- A row stands for its token, by its sort. Assumes nothing.
use Prim.Native.Nat.{ℕ}
use mathlib.Core.Path.{◌≡◌, sym, ap}
use native.Mathlib.Nat.{div-add-mod'}
use Rattle.pattern_words.specs.declared.Kind.{Kind}
use Rattle.pattern_grammar.specs.Lexemes.{scalar, mark, of_kind}
use Rattle.token_rows.specs.declared.TokenRow.{TokenRow}
use Rattle.token_rows.specs.TokenRows.{spot_from, lexeme_of, name_row, char_row, mark_row}

-- a row is the token's, by its sort
pub name_is : (r : TokenRow) (k : Kind) (own from to : ℕ) → k ≡ Kind.Name own → r ≡ name_row own from to → lexeme_of r ≡ of_kind k (spot_from from to)
unfolding lexeme_of of_kind
name_is r k own from to e f = rw (e, f)

pub char_is : (r : TokenRow) (k : Kind) (v from to : ℕ) → k ≡ Kind.Char v → r ≡ char_row v from to → lexeme_of r ≡ of_kind k (spot_from from to)
unfolding lexeme_of of_kind
char_is r k v from to e f = rw (e, f) (ap (λ x. scalar x (spot_from from to)) (div-add-mod' v 65536))

-- a mark, by its number
pub mark_is : (r : TokenRow) (k kind : Kind) (m from to : ℕ) → k ≡ kind → of_kind kind (spot_from from to) ≡ mark m (spot_from from to) → r ≡ mark_row m from to → lexeme_of r ≡ of_kind k (spot_from from to)
unfolding lexeme_of
mark_is r k kind m from to e g f = rw (e, f) (sym g)
