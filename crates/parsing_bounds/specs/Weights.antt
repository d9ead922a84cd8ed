-- How many nodes wait, have closed or are held, against the bytes that have been read. Assumes nothing: these are definitions.
use Rattle.std.specs.Prelude.{ℕ, ◌+◌, cond, ◌||◌, eqb, length}
use Rattle.pattern_grammar.specs.Lexemes.{Lexeme, name, scalar, mark, end_mark, or_mark, and_and_mark, fails_mark}
use Rattle.parsing_machine.specs.declared.ReadState.{ReadState}
use Rattle.parsing_machine.specs.declared.ReadState.TheVariants.{Begin, Expect, BehindAmp, BehindRef, BehindMut, AtName, AtBound, AtPath, AtSep, AtMinus, AtLiteral, AtDots, AtFrom, AtTo, AtToPath, AtAlt, AtBrace, AtLabel, AtIndex, AtField, AtEtc}
use Rattle.parsing_machine.specs.Waiting.{Opened}
use Rattle.parsing_machine.specs.Moves.{Move, halts, holds, opens, opens_two, opens_behind, mutates, shuts, shuts_before, shuts_range, shuts_range_before, shuts_open_range, shuts_rest, passes_on, shuts_top, adds_field, adds_last_field}
use Rattle.parsing_machine.specs.Parser.{Course, going, ended_with, halted_at}

-- a node is held whose bytes have been read
unfoldable pub owed : ReadState → ℕ
owed Begin = 0
owed Expect = 0
owed BehindAmp = 0
owed BehindRef = 0
owed BehindMut = 0
owed AtName = 1
owed AtBound = 1
owed AtPath = 1
owed AtSep = 1
owed AtMinus = 1
owed AtLiteral = 1
owed AtDots = 0
owed AtFrom = 0
owed AtTo = 0
owed AtToPath = 1
owed AtAlt = 0
owed AtBrace = 0
owed AtLabel = 1
owed AtIndex = 1
owed AtField = 1
owed AtEtc = 0

-- how many wait and have closed
unfoldable pub opened_size : Opened → ℕ
opened_size o = length o.waiting + length o.closed

unfoldable pub weight : Course → ℕ
weight (going z) = opened_size z.nodes + owed z.state
weight (ended_with closed) = length closed
weight (halted_at at) = 0

-- `|` behind an alternative may be one that waits
unfoldable pub or_one : ℕ → ℕ
or_one m = cond (eqb m or_mark) 1 0

-- how many more there are behind a move at a mark
unfoldable pub gain : Move → ℕ → ℕ
gain (halts at) m = 0
gain (holds s h) m = owed s
gain (opens s f) m = 1 + owed s
gain (opens_two f g) m = 2
gain (opens_behind s w f) m = 2 + owed s
gain mutates m = 0
gain (shuts w) m = 1
gain (shuts_before w) m = 1 + or_one m
gain (shuts_range w) m = 1
gain (shuts_range_before w) m = 1 + or_one m
gain shuts_open_range m = or_one m
gain shuts_rest m = 0
gain passes_on m = or_one m
gain shuts_top m = 0
gain (adds_field w f) m = 2
gain (adds_last_field w f) m = 2

-- a token has so many bytes at least
unfoldable pub mark_bytes : ℕ → ℕ
mark_bytes m = cond (eqb m end_mark || eqb m fails_mark) 0 (cond (eqb m and_and_mark) 2 1)

unfoldable pub lexeme_bytes : Lexeme → ℕ
lexeme_bytes (name n) = 1
lexeme_bytes (scalar v q) = 1
lexeme_bytes (mark m q) = mark_bytes m
