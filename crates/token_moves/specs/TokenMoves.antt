-- What a token does, and what holds of the bytes of names behind it. Assumes nothing: these are definitions.
use Rattle.std.specs.Prelude.{ℕ, ◌+◌, ◌<◌, ◌≤◌, ◌≡◌, Bool, true, false, List, length, take}
use Rattle.pattern_grammar.specs.Lexemes.{Lexeme, name, scalar, mark}
use Rattle.parsing_machine.specs.declared.ReadState.{ReadState}
use Rattle.parsing_machine.specs.declared.ReadState.TheVariants.{Begin, Expect, BehindAmp, BehindRef, BehindMut, AtName, AtBound, AtPath, AtSep, AtMinus, AtLiteral, AtDots, AtFrom, AtTo, AtToPath, AtAlt, AtBrace, AtLabel, AtIndex, AtField, AtEtc}
use Rattle.parsing_machine.specs.Moves.{Held, Move, name_move, scalar_move, mark_move}
use Rattle.parsing_moves.specs.declared.HeldRow.{HeldRow}
use Rattle.parsing_moves.specs.declared.NodeMove.{NodeMove}
use Rattle.parsing_moves.specs.declared.NodeMove.TheVariants.{Halts, Holds, Opens, OpensTwo, OpensBehind, Mutates, Shuts, ShutsBefore, ShutsRange, ShutsRangeBefore, ShutsOpenRange, ShutsRest, PassesOn, ShutsTop, AddsField, AddsLastField}
use Rattle.parsing_moves.specs.Rows.{held_in, move_of}
use Rattle.token_spans.specs.Spans.{lexeme_spot, Lies}

-- the machine's move at a token
unfoldable pub move_at : List ℕ → ReadState → Held → ℕ → Lexeme → Move
move_at text s h top (name n) = name_move text s h top n
move_at text s h top (scalar v q) = scalar_move s v q
move_at text s h top (mark m q) = mark_move text s h top m q

-- the mark by which a move is made, and its place: 0 for a name or a char
unfoldable pub mark_of : Lexeme → ℕ
mark_of (name n) = 0
mark_of (scalar v q) = 0
mark_of (mark m q) = m

unfoldable pub mark_from : Lexeme → ℕ
mark_from (name n) = 0
mark_from (scalar v q) = 0
mark_from (mark m q) = q.from

-- bytes that have been read and are copied with the next name: `::`
unfoldable pub pending : ReadState → ℕ
pending Begin = 0
pending Expect = 0
pending BehindAmp = 0
pending BehindRef = 0
pending BehindMut = 0
pending AtName = 0
pending AtBound = 0
pending AtPath = 0
pending AtSep = 2
pending AtMinus = 0
pending AtLiteral = 0
pending AtDots = 0
pending AtFrom = 0
pending AtTo = 0
pending AtToPath = 0
pending AtAlt = 0
pending AtBrace = 0
pending AtLabel = 0
pending AtIndex = 0
pending AtField = 0
pending AtEtc = 0

-- behind a move
unfoldable pub pending_behind : NodeMove → ℕ
pending_behind (Halts at) = 0
pending_behind (Holds s h) = pending s
pending_behind (Opens s f) = pending s
pending_behind (OpensTwo f g) = 0
pending_behind (OpensBehind s w f) = pending s
pending_behind Mutates = 0
pending_behind (Shuts w) = 0
pending_behind (ShutsBefore w) = 0
pending_behind (ShutsRange w) = 0
pending_behind (ShutsRangeBefore w) = 0
pending_behind ShutsOpenRange = 0
pending_behind ShutsRest = 0
pending_behind PassesOn = 0
pending_behind ShutsTop = 0
pending_behind (AddsField w f) = 0
pending_behind (AddsLastField w f) = 0

-- a path is held that may go on
unfoldable pub holds_path : ReadState → Bool
holds_path Begin = false
holds_path Expect = false
holds_path BehindAmp = false
holds_path BehindRef = false
holds_path BehindMut = false
holds_path AtName = true
holds_path AtBound = false
holds_path AtPath = true
holds_path AtSep = true
holds_path AtMinus = false
holds_path AtLiteral = false
holds_path AtDots = false
holds_path AtFrom = false
holds_path AtTo = false
holds_path AtToPath = true
holds_path AtAlt = false
holds_path AtBrace = false
holds_path AtLabel = false
holds_path AtIndex = false
holds_path AtField = false
holds_path AtEtc = false

-- its bytes are the last ones in use
abbrev pub PathEnds : ReadState → HeldRow → ℕ → Type 0
PathEnds s h named = holds_path s ≡ true → (h.from < h.to) × (h.to ≡ named)

-- a token of a text can be read in a state with so many bytes of names in use: they are no more than the bytes before it
pub record Readable (text : List ℕ) (named : ℕ) (s : ReadState) (h : HeldRow) (t : Lexeme) : Type 0 where
  pub short : length text ≤ 16384
  pub lies : Lies (length text) t
  pub room : named + pending s ≤ (lexeme_spot t).from
  pub path : PathEnds s h named

-- A token is read in a state with so many bytes of names in use. Those stay, and what is made of it is the machine's move, whatever stands behind
-- the bytes in use then; a path that is held ends with them, and they are no more than the bytes read
pub record MovesOn (text before : List ℕ) (named : ℕ) (s : ReadState) (h : HeldRow) (top : ℕ) (t : Lexeme) (made : NodeMove) (next : ℕ) (after : List ℕ) : Type 0 where
  pub below : take named after ≡ take named before
  pub grows : named ≤ next
  pub moves : (names : List ℕ) → take next names ≡ take next after → move_of text names made ≡ move_at text s (held_in text names s h) top t
  pub ends : (s' : ReadState) (h' : HeldRow) → made ≡ Holds s' h' → PathEnds s' h' next
  pub room : next + pending_behind made ≤ (lexeme_spot t).to
