-- What the words of a held row and of a move stand for. Assumes nothing: these are definitions.
use Rattle.std.specs.Prelude.{ℕ, suc, ◌≡◌, Bool, true, false, cond, ◌||◌, ◌&&◌, List, eqb, leb}
use Rattle.pattern_grammar.specs.Lexemes.{Spot, integer_mark, over}
use Rattle.pattern_syntax.specs.Written.{Name, whole_value, bound_node, range_node}
use Rattle.pattern_syntax.specs.Reduced.{bytes_from, decimal_in}
use Rattle.pattern_syntax.specs.Closing.{closed_node}
use Rattle.node_rows.specs.declared.NodeRow.{NodeRow}
use Rattle.node_rows.specs.Nodes.{literal_in, closed_node_of}
use Rattle.parsing_machine.specs.declared.ReadState.{ReadState}
use Rattle.parsing_machine.specs.declared.ReadState.TheVariants.{Begin, Expect, BehindAmp, BehindRef, BehindMut, AtName, AtBound, AtPath, AtSep, AtMinus, AtLiteral, AtDots, AtFrom, AtTo, AtToPath, AtAlt, AtBrace, AtLabel, AtIndex, AtField, AtEtc}
use Rattle.decimal_values.specs.Results.{Value}
use Rattle.parsing_machine.specs.Waiting.{closes}
use Rattle.parsing_machine.specs.Moves.{Held, no_name, named_held, literal_held, place_held, nothing_held, Move, halts, holds, opens, opens_two, opens_behind, mutates, shuts, shuts_before, shuts_range, shuts_range_before, shuts_open_range, shuts_rest, passes_on, shuts_top, adds_field, adds_last_field, name_held, index_name, held_bound_path, held_bound, range_from, fit_move, ranged_move, path_move, field_move, bound_move, mark_move}
use Rattle.parsing_moves.specs.declared.HeldRow.{HeldRow}
use Rattle.parsing_moves.specs.declared.NodeMove.{NodeMove}
use Rattle.parsing_moves.specs.declared.NodeMove.TheVariants.{Halts, Holds, Opens, OpensTwo, OpensBehind, Mutates, Shuts, ShutsBefore, ShutsRange, ShutsRangeBefore, ShutsOpenRange, ShutsRest, PassesOn, ShutsTop, AddsField, AddsLastField}

-- the name of a held row, among the bytes of names
abbrev pub held_name : List ℕ → HeldRow → Name
held_name names h = record { at = h.spot; bytes = bytes_from names h.from h.to }

-- with `ref`: 1 or 3; with `mut`: 2 or 3
abbrev pub flagged_held : HeldRow → Name → Held
flagged_held h n = named_held h.at (eqb h.more 1 || eqb h.more 3) (leb 2 h.more) n

abbrev pub plain_held : List ℕ → HeldRow → Held
plain_held names h = named_held h.at false false (held_name names h)

-- what a held row stands for, by the state
unfoldable pub held_in : List ℕ → List ℕ → ReadState → HeldRow → Held
held_in text names Begin h = nothing_held
held_in text names Expect h = nothing_held
held_in text names BehindAmp h = nothing_held
held_in text names BehindRef h = flagged_held h no_name
held_in text names BehindMut h = flagged_held h no_name
held_in text names AtName h = plain_held names h
held_in text names AtBound h = flagged_held h (held_name names h)
held_in text names AtPath h = plain_held names h
held_in text names AtSep h = plain_held names h
held_in text names AtMinus h = place_held h.at
held_in text names AtLiteral h = literal_held h.at (literal_in text h.more h.from h.to)
held_in text names AtDots h = nothing_held
held_in text names AtFrom h = nothing_held
held_in text names AtTo h = nothing_held
held_in text names AtToPath h = plain_held names h
held_in text names AtAlt h = nothing_held
held_in text names AtBrace h = nothing_held
held_in text names AtLabel h = plain_held names h
held_in text names AtIndex h = plain_held names h
held_in text names AtField h = flagged_held h (held_name names h)
held_in text names AtEtc h = nothing_held

-- what a move stands for
unfoldable pub move_of : List ℕ → List ℕ → NodeMove → Move
move_of text names (Halts at) = halts at
move_of text names (Holds s h) = holds s (held_in text names s h)
move_of text names (Opens s f) = opens s (closed_node_of text names f)
move_of text names (OpensTwo f g) = opens_two (closed_node_of text names f) (closed_node_of text names g)
move_of text names (OpensBehind s w f) = opens_behind s (closed_node_of text names w) (closed_node_of text names f)
move_of text names Mutates = mutates
move_of text names (Shuts w) = shuts (closed_node_of text names w)
move_of text names (ShutsBefore w) = shuts_before (closed_node_of text names w)
move_of text names (ShutsRange w) = shuts_range (closed_node_of text names w)
move_of text names (ShutsRangeBefore w) = shuts_range_before (closed_node_of text names w)
move_of text names ShutsOpenRange = shuts_open_range
move_of text names ShutsRest = shuts_rest
move_of text names PassesOn = passes_on
move_of text names ShutsTop = shuts_top
move_of text names (AddsField w f) = adds_field (closed_node_of text names w) (closed_node_of text names f)
move_of text names (AddsLastField w f) = adds_last_field (closed_node_of text names w) (closed_node_of text names f)

abbrev pub spot_of : ℕ → ℕ → Spot
spot_of from to = record { from = from; to = to }

-- rows and moves by the words of what they hold or open
abbrev pub holds_flags : ReadState → ℕ → ℕ → NodeMove
holds_flags s at more = Holds s (record { at = at; more = more; spot = 0; from = 0; to = 0 })

abbrev pub holds_literal : ℕ → ℕ → ℕ → ℕ → NodeMove
holds_literal at sort from to = Holds AtLiteral (record { at = at; more = sort; spot = 0; from = from; to = to })

abbrev pub holds_name : ReadState → ℕ → ℕ → ℕ → ℕ → ℕ → NodeMove
holds_name s at more spot start end = Holds s (record { at = at; more = more; spot = spot; from = start; to = end })

abbrev pub opens_row : ReadState → ℕ → ℕ → ℕ → ℕ → NodeMove
opens_row s kind at more to = Opens s (record { kind = kind; at = at; parts = 0; more = more; spot = 0; from = 0; to = to })

abbrev pub named_row : ℕ → ℕ → ℕ → ℕ → HeldRow → NodeRow
named_row kind at parts more h = record { kind = kind; at = at; parts = parts; more = more; spot = h.spot; from = h.from; to = h.to }

abbrev pub opens_named : ReadState → ℕ → ℕ → ℕ → HeldRow → NodeMove
opens_named s kind at more h = Opens s (named_row kind at 0 more h)

abbrev pub literal_row : ℕ → ℕ → ℕ → ℕ → ℕ → NodeRow
literal_row kind at sort from to = record { kind = kind; at = at; parts = 0; more = sort; spot = 0; from = from; to = to }

abbrev pub range_row : ℕ → ℕ → NodeRow
range_row at dots = record { kind = 5; at = at; parts = 1; more = dots; spot = 0; from = 1; to = 1 }

abbrev pub two_references : ℕ → NodeMove
two_references at = OpensTwo (literal_row 8 at 0 0 0) (literal_row 8 (suc at) 0 0 0)

-- dots with which a pattern begins, an integer, an integer that is a bound
abbrev pub DecidesDots : ℕ → ReadState → ℕ → ℕ → NodeMove → Type 0
DecidesDots top s exclusive at move =
    (text names : List ℕ) (to : ℕ)
    → move_of text names move ≡ ranged_move top (spot_of at to) (opens s (closed_node at (range_node false true (eqb exclusive 1)) 0))

abbrev pub DecidesWhole : List ℕ → ℕ → ℕ → NodeMove → Type 0
DecidesWhole text from to move =
    (names : List ℕ)
    → move_of text names move
    ≡ fit_move text false (spot_of from to) (holds AtLiteral (literal_held from (whole_value (decimal_in text (spot_of from to)))))

abbrev pub DecidesWholeBound : List ℕ → ℕ → ℕ → NodeMove → Type 0
DecidesWholeBound text from to move =
    (names : List ℕ)
    → move_of text names move
    ≡ fit_move text false (spot_of from to) (shuts_range (closed_node from (bound_node (whole_value (decimal_in text (spot_of from to)))) 0))

-- a closing mark where a pattern may begin
abbrev pub DecidesClosing : ℕ → ℕ → ℕ → NodeMove → Type 0
DecidesClosing top m from move = (text names : List ℕ) → move_of text names move ≡ cond (closes top m) shuts_top (halts from)

-- a value is over 16 bytes
abbrev pub over_in : Bool → Value → Bool
over_in minus value = over minus value && true

-- a record is open, and an integer is its next field
unfoldable pub is_index : ReadState → ℕ → Bool
is_index Begin m = false
is_index Expect m = false
is_index BehindAmp m = false
is_index BehindRef m = false
is_index BehindMut m = false
is_index AtName m = false
is_index AtBound m = false
is_index AtPath m = false
is_index AtSep m = false
is_index AtMinus m = false
is_index AtLiteral m = false
is_index AtDots m = false
is_index AtFrom m = false
is_index AtTo m = false
is_index AtToPath m = false
is_index AtAlt m = false
is_index AtBrace m = eqb m integer_mark
is_index AtLabel m = false
is_index AtIndex m = false
is_index AtField m = false
is_index AtEtc m = false

-- A move is the machine's at a mark, whatever the bytes of names are; an integer that is a field has been copied to them, from `start` to `end`
abbrev pub DecidesMark : List ℕ → ReadState → HeldRow → ℕ → ℕ → ℕ → ℕ → ℕ → ℕ → NodeMove → Type 0
DecidesMark text s h top m from to start end move =
    (names : List ℕ) → (is_index s m ≡ true → bytes_from names start end ≡ bytes_from text from to)
    → move_of text names move ≡ mark_move text s (held_in text names s h) top m (spot_of from to)

-- where neither what is held nor a copied integer matters
abbrev pub DecidesStart : List ℕ → ℕ → ℕ → ℕ → ℕ → NodeMove → Type 0
DecidesStart text top m from to move = (names : List ℕ) → move_of text names move ≡ mark_move text Expect nothing_held top m (spot_of from to)

-- a mark with which a bound begins, or another move
abbrev pub DecidesBound : List ℕ → ℕ → ℕ → ℕ → NodeMove → NodeMove → Type 0
DecidesBound text m from to other move =
    (names : List ℕ) → move_of text names move ≡ bound_move text m (spot_of from to) (move_of text names other)

-- behind what is held, whatever the text and the bytes of names are but where they stand in it
abbrev pub DecidesHeld : ReadState → HeldRow → ℕ → ℕ → ℕ → NodeMove → Type 0
DecidesHeld s h top m from move =
    (text names : List ℕ) (to : ℕ) → move_of text names move ≡ mark_move text s (held_in text names s h) top m (spot_of from to)

abbrev pub DecidesPath : HeldRow → ℕ → ℕ → ℕ → NodeMove → Type 0
DecidesPath h top m from move = (text names : List ℕ) (to : ℕ) → move_of text names move ≡ path_move (plain_held names h) top m (spot_of from to)

-- dots behind a lower bound
abbrev pub DecidesLower : HeldRow → ℕ → ReadState → ℕ → ℕ → NodeMove → Type 0
DecidesLower h top s dots from move =
    (text names : List ℕ) (to : ℕ)
    → move_of text names move
    ≡ ranged_move top (spot_of from to) (opens_behind s (held_bound_path (plain_held names h)) (range_from (plain_held names h) (eqb dots 1)))

abbrev pub DecidesLowerLiteral : HeldRow → ℕ → ReadState → ℕ → ℕ → NodeMove → Type 0
DecidesLowerLiteral h top s dots from move =
    (text names : List ℕ) (to : ℕ)
    → move_of text names move
    ≡ ranged_move top (spot_of from to)
    (opens_behind s (held_bound (held_in text names AtLiteral h)) (range_from (held_in text names AtLiteral h) (eqb dots 1)))

-- a field that is a name alone
abbrev pub DecidesField : HeldRow → ℕ → ℕ → ℕ → NodeMove → Type 0
DecidesField h flags m from move =
    (text names : List ℕ) (to : ℕ)
    → move_of text names move
    ≡ field_move (named_held h.at (eqb flags 1 || eqb flags 3) (leb 2 flags) (held_name names h)) m (spot_of from to)

-- where nothing is held, an integer behind a minus, an integer that is a field, and in a record
abbrev pub DecidesIn : List ℕ → ReadState → ℕ → ℕ → ℕ → ℕ → NodeMove → Type 0
DecidesIn text s top m from to move = (names : List ℕ) → move_of text names move ≡ mark_move text s nothing_held top m (spot_of from to)

abbrev pub DecidesMinus : List ℕ → ℕ → ℕ → ℕ → ℕ → ℕ → NodeMove → Type 0
DecidesMinus text at top m from to move =
    (names : List ℕ) → move_of text names move ≡ mark_move text AtMinus (place_held at) top m (spot_of from to)

abbrev pub DecidesIndex : List ℕ → ℕ → ℕ → ℕ → ℕ → NodeMove → Type 0
DecidesIndex text from to start end move =
    (names : List ℕ) → bytes_from names start end ≡ bytes_from text from to
    → move_of text names move ≡ fit_move text false (spot_of from to) (holds AtIndex (name_held (index_name text (spot_of from to))))

abbrev pub DecidesBrace : List ℕ → ℕ → ℕ → ℕ → ℕ → ℕ → NodeMove → Type 0
DecidesBrace text m from to start end move =
    (names : List ℕ) → (eqb m integer_mark ≡ true → bytes_from names start end ≡ bytes_from text from to)
    → move_of text names move ≡ mark_move text AtBrace nothing_held 0 m (spot_of from to)
