-- What a name or a char does, by what a state waits for. Assumes nothing: these are definitions.
use Rattle.std.specs.Prelude.{ℕ, ◌+◌, ◌*◌, ◌≡◌, true, List, ◌++◌, eqb}
use Rattle.text_chars.specs.Bytes.{ascii}
use Rattle.pattern_grammar.specs.Lexemes.{Identifier}
use Rattle.pattern_syntax.specs.Reduced.{bytes_from, ident_bytes}
use Rattle.parsing_machine.specs.declared.ReadState.{ReadState}
use Rattle.parsing_machine.specs.declared.ReadState.TheVariants.{Begin, Expect, BehindAmp, BehindRef, BehindMut, AtName, AtBound, AtPath, AtSep, AtMinus, AtLiteral, AtDots, AtFrom, AtTo, AtToPath, AtAlt, AtBrace, AtLabel, AtIndex, AtField, AtEtc}
use Rattle.parsing_machine.specs.Moves.{name_move, scalar_move}
use Rattle.parsing_moves.specs.declared.HeldRow.{HeldRow}
use Rattle.parsing_moves.specs.declared.NodeMove.{NodeMove}
use Rattle.parsing_moves.specs.Rows.{held_in, move_of, spot_of}

-- 0 a pattern, 1 a name behind `ref` or `mut`, 2 a name behind `::`, 3 a bound, 4 a field, 5 no name
unfoldable pub role : ReadState → ℕ
role Begin = 0
role Expect = 0
role BehindAmp = 0
role BehindRef = 1
role BehindMut = 1
role AtName = 5
role AtBound = 5
role AtPath = 5
role AtSep = 2
role AtMinus = 5
role AtLiteral = 5
role AtDots = 3
role AtFrom = 3
role AtTo = 3
role AtToPath = 5
role AtAlt = 5
role AtBrace = 4
role AtLabel = 5
role AtIndex = 5
role AtField = 5
role AtEtc = 5

-- the names' bytes hold the name from `start` to `end`, and all of a path's behind its `::`
abbrev pub DecidesName : ReadState → HeldRow → ℕ → ℕ → ℕ → ℕ → NodeMove → Type 0
DecidesName s h top from start end move =
    (text names : List ℕ) (n : Identifier) → n.spot.from ≡ from → bytes_from names start end ≡ ident_bytes text n
    → (eqb (role s) 2 ≡ true → bytes_from names h.from end ≡ bytes_from names h.from h.to ++ (ascii "::" ++ ident_bytes text n))
    → move_of text names move ≡ name_move text s (held_in text names s h) top n

-- a char by its number's two halves
abbrev pub DecidesScalar : ReadState → ℕ → ℕ → ℕ → NodeMove → Type 0
DecidesScalar s low high from move = (text names : List ℕ) (to : ℕ) → move_of text names move ≡ scalar_move s (high * 65536 + low) (spot_of from to)
