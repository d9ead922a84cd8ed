-- Behind a last token the machine never goes on. Assumes nothing.
use Prim.Native.Nat.{ℕ}
use mathlib.Core.Path.{◌≡◌, refl}
use mathlib.Core.Bool.{Bool, true, false, not, cond, ◌&&◌, ◌||◌, true≢false, false≢true}
use mathlib.Core.List.{List, [], ◌∷◌}
use lib.Dec.{eqb}
use borrow.Author.Tests.{eqb-true}
use Rattle.pattern_grammar.specs.Lexemes.{Spot, Lexeme, name, scalar, mark, end_mark, comma_mark, or_mark, close_bracket_mark, close_brace_mark, fails_mark}
use Rattle.pattern_grammar.specs.Parsed.{is_last}
use Rattle.pattern_syntax.specs.Written.{rest_node, range_node}
use Rattle.pattern_syntax.specs.Closing.{ClosedNode, closed_node}
use Rattle.parsing_machine.specs.declared.ReadState.{ReadState}
use Rattle.parsing_machine.specs.declared.ReadState.TheVariants.{Begin, Expect, BehindAmp, BehindRef, BehindMut, AtName, AtBound, AtPath, AtSep, AtMinus, AtLiteral, AtDots, AtFrom, AtTo, AtToPath, AtAlt, AtBrace, AtLabel, AtIndex, AtField, AtEtc}
use Rattle.parsing_machine.specs.Waiting.{Opened, node_kind, innermost_kind, closes, part_more, settle, last_alt, rest_fits}
use Rattle.parsing_machine.specs.Moves.{Held, Move, halts, holds, opens, opens_two, opens_behind, mutates, shuts, shuts_before, shuts_range, shuts_range_before, shuts_open_range, shuts_rest, passes_on, shuts_top, adds_field, adds_last_field, start_move, bound_move, path_move, field_move, mark_move}
use Rattle.parsing_machine.specs.Parser.{Course, Parser, halted_at, ended_in, behind_alt, rest_item, rest_in, rest_read, open_range, perform, stepped}
use Rattle.parsing_bounds.specs.Parts.{is_going, goes_on}

-- a mark that is no comma, no `|` and closes nothing
record Stopping (m : ℕ) : Type 0 where
  comma : eqb m comma_mark ≡ false
  bar : eqb m or_mark ≡ false
  brace : eqb m close_brace_mark ≡ false
  list : (kind : ℕ) → closes kind m ≡ false

both_false : (b c : Bool) → cond b false (cond c false false) ≡ false
both_false true c = refl
both_false false true = refl
both_false false false = refl

end_stops : Stopping end_mark
unfolding closes
end_stops = record { comma = refl; bar = refl; brace = refl; list = λ kind. both_false (eqb kind 11) (eqb kind 9 || eqb kind 10) }

fails_stops : Stopping fails_mark
unfolding closes
fails_stops = record { comma = refl; bar = refl; brace = refl; list = λ kind. both_false (eqb kind 11) (eqb kind 9 || eqb kind 10) }

-- a course that has stopped
record Stops (c : Course) : Type 0 where
  told : is_going c ≡ false

stops_if : {x y : Course} (b : Bool) → Stops x → Stops y → Stops (cond b x y)
stops_if true h g = h
stops_if false h g = g

-- the second of two, where the test fails
stops_second : {y : Course} (b : Bool) (x : Course) → b ≡ false → Stops y → Stops (cond b x y)
stops_second b x e h = rw e h

halted : {at : ℕ} → Stops (halted_at at)
unfolding is_going
halted = record { told = refl }

ended_stops : (m at : ℕ) (ws cs : List ClosedNode) → Stopping m → Stops (ended_in m at ws cs)
unfolding ended_in is_going
ended_stops m at [] cs s = stops_if (eqb m end_mark) (record { told = refl }) halted
ended_stops m at (f ∷ fs) cs s =
    stops_if (eqb (node_kind f.is) 13)
    (stops_second (eqb m comma_mark) _ s.comma (stops_second (eqb m close_brace_mark) _ s.brace halted))
    (stops_second (eqb m comma_mark) _ s.comma (stops_second (closes (node_kind f.is) m) _ (s.list (node_kind f.is)) halted))

behind_stops : (m at : ℕ) (o : Opened) → Stopping m → Stops (behind_alt m at o)
unfolding behind_alt
behind_stops m at o s =
    stops_second (eqb m or_mark) _ s.bar (ended_stops m at (last_alt o.waiting o.closed).waiting (last_alt o.waiting o.closed).closed s)

rest_item_stops : (m at : ℕ) (ws cs : List ClosedNode) → Stopping m → Stops (rest_item m at ws cs)
unfolding rest_item
rest_item_stops m at [] cs s = halted
rest_item_stops m at (f ∷ fs) cs s =
    stops_second (eqb m comma_mark) _ s.comma (stops_second (closes (node_kind f.is) m) _ (s.list (node_kind f.is)) halted)

rest_in_stops : (dots m at : ℕ) (ws cs : List ClosedNode) → Stopping m → Stops (rest_in dots m at ws cs)
unfolding rest_in
rest_in_stops dots m at [] cs s = halted
rest_in_stops dots m at (f ∷ fs) cs s =
    stops_if (eqb (node_kind f.is) 7) (rest_item_stops m at fs (part_more f ∷ closed_node dots rest_node 0 ∷ cs) s)
    (stops_if (eqb (node_kind f.is) 11) (rest_item_stops m at (f ∷ fs) (closed_node dots rest_node 0 ∷ cs) s)
    (rest_item_stops m at (f ∷ fs) cs s))

rest_stops : (m at : ℕ) (ws cs : List ClosedNode) → Stopping m → Stops (rest_read m at ws cs)
unfolding rest_read
rest_stops m at [] cs s = halted
rest_stops m at (f ∷ fs) cs s = stops_if (rest_fits fs && not (eqb m or_mark)) (rest_in_stops f.from m at fs cs s) halted

open_stops : (m at : ℕ) (ws cs : List ClosedNode) → Stopping m → Stops (open_range m at ws cs)
unfolding open_range
open_stops m at [] cs s = halted
open_stops m at (f ∷ fs) cs s =
    stops_if (eqb (innermost_kind fs) 11 && (eqb m comma_mark || eqb m close_bracket_mark)) halted
    (behind_stops m at (settle fs (closed_node f.from (range_node true false true) 1 ∷ cs)) s)

-- a move behind which it does not go on by itself
perform_stops : (move : Move) (m at : ℕ) (o : Opened) → Stopping m → goes_on move ≡ false → Stops (perform move m at o)
unfolding perform goes_on
perform_stops (halts place) m at o s e = halted
perform_stops (holds r h) m at o s e = absurd (true≢false e)
perform_stops (opens r f) m at o s e = absurd (true≢false e)
perform_stops (opens_two f g) m at o s e = absurd (true≢false e)
perform_stops (opens_behind r w f) m at o s e = absurd (true≢false e)
perform_stops mutates m at o s e = absurd (true≢false e)
perform_stops (shuts w) m at o s e = absurd (true≢false e)
perform_stops (shuts_before w) m at o s e = behind_stops m at _ s
perform_stops (shuts_range w) m at o s e = absurd (true≢false e)
perform_stops (shuts_range_before w) m at o s e = behind_stops m at _ s
perform_stops shuts_open_range m at o s e = open_stops m at o.waiting o.closed s
perform_stops shuts_rest m at o s e = rest_stops m at o.waiting o.closed s
perform_stops passes_on m at o s e = behind_stops m at o s
perform_stops shuts_top m at o s e = absurd (true≢false e)
perform_stops (adds_field w f) m at o s e = absurd (true≢false e)
perform_stops (adds_last_field w f) m at o s e = absurd (true≢false e)

-- a list that a mark does not close
unclosed : (b : Bool) (at : ℕ) → b ≡ false → goes_on (cond b shuts_top (halts at)) ≡ false
unfolding goes_on
unclosed b at e = rw e refl

-- the text's end, by the state
end_move : (text : List ℕ) (s : ReadState) (h : Held) (top : ℕ) (q : Spot) → goes_on (mark_move text s h top end_mark q) ≡ false
unfolding mark_move start_move bound_move path_move field_move goes_on
end_move text Begin h top q = unclosed (closes top end_mark) q.from (end_stops.list top)
end_move text Expect h top q = refl
end_move text BehindAmp h top q = refl
end_move text BehindRef h top q = refl
end_move text BehindMut h top q = refl
end_move text AtName h top q = refl
end_move text AtBound h top q = refl
end_move text AtPath h top q = refl
end_move text AtSep h top q = refl
end_move text AtMinus h top q = refl
end_move text AtLiteral h top q = refl
end_move text AtDots h top q = refl
end_move text AtFrom h top q = refl
end_move text AtTo h top q = refl
end_move text AtToPath h top q = refl
end_move text AtAlt h top q = refl
end_move text AtBrace h top q = refl
end_move text AtLabel h top q = refl
end_move text AtIndex h top q = refl
end_move text AtField h top q = refl
end_move text AtEtc h top q = refl

-- what is no token of a pattern
fails_move : (text : List ℕ) (s : ReadState) (h : Held) (top : ℕ) (q : Spot) → goes_on (mark_move text s h top fails_mark q) ≡ false
unfolding mark_move start_move bound_move path_move field_move goes_on
fails_move text Begin h top q = refl
fails_move text Expect h top q = refl
fails_move text BehindAmp h top q = refl
fails_move text BehindRef h top q = refl
fails_move text BehindMut h top q = refl
fails_move text AtName h top q = refl
fails_move text AtBound h top q = refl
fails_move text AtPath h top q = refl
fails_move text AtSep h top q = refl
fails_move text AtMinus h top q = refl
fails_move text AtLiteral h top q = refl
fails_move text AtDots h top q = refl
fails_move text AtFrom h top q = refl
fails_move text AtTo h top q = refl
fails_move text AtToPath h top q = refl
fails_move text AtAlt h top q = refl
fails_move text AtBrace h top q = refl
fails_move text AtLabel h top q = refl
fails_move text AtIndex h top q = refl
fails_move text AtField h top q = refl
fails_move text AtEtc h top q = refl

-- by which of the two it is
either : (P : ℕ → Type 0) (m : ℕ) → (eqb m end_mark || eqb m fails_mark) ≡ true → P end_mark → P fails_mark → P m
either P m e h g = by (eqb m end_mark) refl
  where
    last : (b : Bool) → eqb m end_mark ≡ false → eqb m fails_mark ≡ b → P m
    last true x y = rw (eqb-true m fails_mark y) g
    last false x y = absurd (false≢true (rw (x, y) at e))

    by : (b : Bool) → eqb m end_mark ≡ b → P m
    by true x = rw (eqb-true m end_mark x) h
    by false x = last (eqb m fails_mark) x refl

pub last_stops : (text : List ℕ) (z : Parser) (t : Lexeme) → is_last t ≡ true → is_going (stepped text z t) ≡ false
unfolding is_last stepped
last_stops text z (name n) e = cc
last_stops text z (scalar v q) e = cc
last_stops text z (mark m q) e =
    either (λ m. is_going (perform (mark_move text z.state z.held (innermost_kind z.nodes.waiting) m q) m q.from z.nodes) ≡ false) m e
    (perform_stops _ end_mark q.from z.nodes end_stops (end_move text z.state z.held (innermost_kind z.nodes.waiting) q)).told
    (perform_stops _ fails_mark q.from z.nodes fails_stops (fails_move text z.state z.held (innermost_kind z.nodes.waiting) q)).told
