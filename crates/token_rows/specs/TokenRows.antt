-- What the words of a token stand for. Assumes nothing: these are definitions.
use Rattle.std.specs.Prelude.{ℕ, ◌+◌, ◌*◌, ◌/◌, ◌%◌, ◌<◌, ◌≡◌, cond, eqb}
use Rattle.pattern_words.specs.declared.Kind.{Kind}
use Rattle.pattern_words.specs.declared.Kind.TheVariants.{Name}
use Rattle.pattern_grammar.specs.Lexemes.{Spot, Lexeme, name, scalar, mark}
use Rattle.token_rows.specs.declared.TokenRow.{TokenRow}

-- where a token stands
abbrev pub spot_from : ℕ → ℕ → Spot
spot_from from to = record { from = from; to = to }

-- 0 a name, 1 a char, by the two halves of its number, else a mark
unfoldable pub lexeme_of : TokenRow → Lexeme
lexeme_of r =
    cond (eqb r.sort 0) (name (record { own = r.own; spot = spot_from r.from r.to }))
    (cond (eqb r.sort 1) (scalar (r.own * 65536 + r.mark) (spot_from r.from r.to))
    (mark r.mark (spot_from r.from r.to)))

-- the rows
abbrev pub name_row : ℕ → ℕ → ℕ → TokenRow
name_row own from to = record { sort = 0; mark = 0; own = own; from = from; to = to }

abbrev pub char_row : ℕ → ℕ → ℕ → TokenRow
char_row v from to = record { sort = 1; mark = v % 65536; own = v / 65536; from = from; to = to }

abbrev pub mark_row : ℕ → ℕ → ℕ → TokenRow
mark_row m from to = record { sort = 2; mark = m; own = 0; from = from; to = to }

-- where a name begins is a word
abbrev pub SmallName : Kind → Type 0
SmallName kind = (own : ℕ) → kind ≡ Name own → own < 65536
