-- Behind every move but one that holds something the parser is in a state that holds no path. Assumes nothing.
use Prim.Native.Nat.{ℕ}
use mathlib.Core.Path.{◌≡◌, refl, sym}
use mathlib.Core.Bool.{Bool, true, false, not, cond, ◌&&◌, ◌||◌, false≢true}
use mathlib.Core.List.{List, [], ◌∷◌}
use lib.Dec.{eqb}
use Rattle.pattern_grammar.specs.Lexemes.{Spot, Identifier, Lexeme, name, scalar, mark, end_mark, comma_mark, or_mark, close_bracket_mark, close_brace_mark, ref_mark, mut_mark, true_mark, false_mark, underscore_mark, integer_mark, minus_mark, open_paren_mark, open_bracket_mark, open_brace_mark, and_mark, and_and_mark, bind_mark, colon_mark, path_sep_mark, dot_dot_mark, dot_dot_eq_mark, follows, strictly, wide}
use Rattle.pattern_syntax.specs.Closing.{ClosedNode}
use Rattle.parsing_machine.specs.declared.ReadState.{ReadState}
use Rattle.parsing_machine.specs.declared.ReadState.TheVariants.{Begin, Expect, BehindAmp, BehindRef, BehindMut, AtName, AtBound, AtPath, AtSep, AtMinus, AtLiteral, AtDots, AtFrom, AtTo, AtToPath, AtAlt, AtBrace, AtLabel, AtIndex, AtField, AtEtc}
use Rattle.parsing_machine.specs.Waiting.{Opened, node_kind, innermost_kind, closes, rest_fits}
use Rattle.parsing_machine.specs.Moves.{Held, Move, halts, holds, opens, opens_two, opens_behind, mutates, shuts, shuts_before, shuts_range, shuts_range_before, shuts_open_range, shuts_rest, passes_on, shuts_top, adds_field, adds_last_field, fit_move, ranged_move, start_move, bound_move, path_move, field_move, name_move, scalar_move, mark_move}
use Rattle.parsing_machine.specs.Parser.{Parser, Course, going, ended_with, halted_at, ended_in, behind_alt, rest_item, rest_in, rest_read, open_range, perform}
use Rattle.token_moves.specs.TokenMoves.{move_at, holds_path}

-- a move that opens something leads to a state that holds no path
unfoldable opens_calmly : Move → Bool
opens_calmly (halts at) = true
opens_calmly (holds s h) = true
opens_calmly (opens s f) = not (holds_path s)
opens_calmly (opens_two f g) = true
opens_calmly (opens_behind s w f) = not (holds_path s)
opens_calmly mutates = true
opens_calmly (shuts w) = true
opens_calmly (shuts_before w) = true
opens_calmly (shuts_range w) = true
opens_calmly (shuts_range_before w) = true
opens_calmly shuts_open_range = true
opens_calmly shuts_rest = true
opens_calmly passes_on = true
opens_calmly shuts_top = true
opens_calmly (adds_field w f) = true
opens_calmly (adds_last_field w f) = true

-- a move is such a one
record Calm (move : Move) : Type 0 where
  calm : opens_calmly move ≡ true

calm_if : {x y : Move} (b : Bool) → Calm x → Calm y → Calm (cond b x y)
calm_if true h g = h
calm_if false h g = g

fits : {move : Move} (text : List ℕ) (minus : Bool) (q : Spot) → Calm move → Calm (fit_move text minus q move)
unfolding fit_move opens_calmly holds_path
fits text minus q h = calm_if (wide (strictly text) minus q) (record { calm = refl }) h

rangy : {move : Move} (top : ℕ) (q : Spot) → Calm move → Calm (ranged_move top q move)
unfolding ranged_move opens_calmly holds_path
rangy top q h = calm_if (eqb top 8) (record { calm = refl }) h

start_calm : (text : List ℕ) (top m : ℕ) (q : Spot) → Calm (start_move text top m q)
unfolding start_move opens_calmly holds_path
start_calm text top m q =
    calm_if (eqb m ref_mark) (record { calm = refl })
    (calm_if (eqb m mut_mark) (record { calm = refl })
    (calm_if (eqb m true_mark) (record { calm = refl })
    (calm_if (eqb m false_mark) (record { calm = refl })
    (calm_if (eqb m underscore_mark) (record { calm = refl })
    (calm_if (eqb m integer_mark) (fits text false q (record { calm = refl }))
    (calm_if (eqb m minus_mark) (record { calm = refl })
    (calm_if (eqb m open_paren_mark) (record { calm = refl })
    (calm_if (eqb m open_bracket_mark) (record { calm = refl })
    (calm_if (eqb m and_mark) (record { calm = refl })
    (calm_if (eqb m and_and_mark) (record { calm = refl })
    (calm_if (eqb m dot_dot_mark) (rangy top q (record { calm = refl }))
    (calm_if (eqb m dot_dot_eq_mark) (rangy top q (record { calm = refl }))
    (record { calm = refl })))))))))))))

bound_calm : (text : List ℕ) (m : ℕ) (q : Spot) (other : Move) → Calm other → Calm (bound_move text m q other)
unfolding bound_move opens_calmly holds_path
bound_calm text m q other h =
    calm_if (eqb m true_mark) (record { calm = refl })
    (calm_if (eqb m false_mark) (record { calm = refl })
    (calm_if (eqb m integer_mark) (fits text false q (record { calm = refl }))
    (calm_if (eqb m minus_mark) (record { calm = refl })
    h)))

path_calm : (h : Held) (top m : ℕ) (q : Spot) → Calm (path_move h top m q)
unfolding path_move opens_calmly holds_path
path_calm h top m q =
    calm_if (eqb m path_sep_mark) (record { calm = refl })
    (calm_if (eqb m open_paren_mark) (record { calm = refl })
    (calm_if (eqb m open_brace_mark) (record { calm = refl })
    (calm_if (eqb m dot_dot_mark) (rangy top q (record { calm = refl }))
    (calm_if (eqb m dot_dot_eq_mark) (rangy top q (record { calm = refl }))
    (record { calm = refl })))))

field_calm : (h : Held) (m : ℕ) (q : Spot) → Calm (field_move h m q)
unfolding field_move opens_calmly holds_path
field_calm h m q =
    calm_if (eqb m comma_mark) (record { calm = refl })
    (calm_if (eqb m close_brace_mark) (record { calm = refl })
    (record { calm = refl }))

mark_calm : (text : List ℕ) (s : ReadState) (h : Held) (top m : ℕ) (q : Spot) → Calm (mark_move text s h top m q)
unfolding mark_move opens_calmly holds_path
mark_calm text Begin h top m q =
    calm_if (eqb m or_mark) (record { calm = refl })
    (calm_if (follows m) (calm_if (closes top m) (record { calm = refl }) (record { calm = refl }))
    (start_calm text top m q))
mark_calm text Expect h top m q = start_calm text top m q
mark_calm text BehindAmp h top m q = calm_if (eqb m mut_mark) (record { calm = refl }) (start_calm text top m q)
mark_calm text BehindRef h top m q = calm_if (eqb m mut_mark) (record { calm = refl }) (record { calm = refl })
mark_calm text BehindMut h top m q = record { calm = refl }
mark_calm text AtName h top m q =
    calm_if (follows m) (record { calm = refl })
    (calm_if (eqb m bind_mark) (record { calm = refl })
    (path_calm h top m q))
mark_calm text AtBound h top m q =
    calm_if (follows m) (record { calm = refl })
    (calm_if (eqb m bind_mark) (record { calm = refl })
    (record { calm = refl }))
mark_calm text AtPath h top m q = calm_if (follows m) (record { calm = refl }) (path_calm h top m q)
mark_calm text AtSep h top m q = record { calm = refl }
mark_calm text AtMinus h top m q =
    calm_if (eqb m integer_mark)
    (fits text true q (calm_if (eqb top 5) (record { calm = refl }) (record { calm = refl })))
    (record { calm = refl })
mark_calm text AtLiteral h top m q =
    calm_if (follows m) (record { calm = refl })
    (calm_if (eqb m dot_dot_mark) (rangy top q (record { calm = refl }))
    (calm_if (eqb m dot_dot_eq_mark) (rangy top q (record { calm = refl }))
    (record { calm = refl })))
mark_calm text AtDots h top m q = bound_calm text m q _ (record { calm = refl })
mark_calm text AtFrom h top m q = bound_calm text m q _ (calm_if (follows m) (record { calm = refl }) (record { calm = refl }))
mark_calm text AtTo h top m q = bound_calm text m q _ (record { calm = refl })
mark_calm text AtToPath h top m q =
    calm_if (follows m) (record { calm = refl })
    (calm_if (eqb m path_sep_mark) (record { calm = refl })
    (record { calm = refl }))
mark_calm text AtAlt h top m q = record { calm = refl }
mark_calm text AtBrace h top m q =
    calm_if (eqb m close_brace_mark) (record { calm = refl })
    (calm_if (eqb m dot_dot_mark) (record { calm = refl })
    (calm_if (eqb m integer_mark) (fits text false q (record { calm = refl }))
    (calm_if (eqb m ref_mark) (record { calm = refl })
    (calm_if (eqb m mut_mark) (record { calm = refl })
    (record { calm = refl })))))
mark_calm text AtLabel h top m q = calm_if (eqb m colon_mark) (record { calm = refl }) (field_calm h m q)
mark_calm text AtIndex h top m q = calm_if (eqb m colon_mark) (record { calm = refl }) (record { calm = refl })
mark_calm text AtField h top m q = field_calm h m q
mark_calm text AtEtc h top m q = calm_if (eqb m close_brace_mark) (record { calm = refl }) (record { calm = refl })

name_calm : (text : List ℕ) (s : ReadState) (h : Held) (top : ℕ) (n : Identifier) → Calm (name_move text s h top n)
unfolding name_move opens_calmly holds_path
name_calm text Begin h top n = record { calm = refl }
name_calm text Expect h top n = record { calm = refl }
name_calm text BehindAmp h top n = record { calm = refl }
name_calm text BehindRef h top n = record { calm = refl }
name_calm text BehindMut h top n = record { calm = refl }
name_calm text AtName h top n = record { calm = refl }
name_calm text AtBound h top n = record { calm = refl }
name_calm text AtPath h top n = record { calm = refl }
name_calm text AtSep h top n = record { calm = refl }
name_calm text AtMinus h top n = record { calm = refl }
name_calm text AtLiteral h top n = record { calm = refl }
name_calm text AtDots h top n = record { calm = refl }
name_calm text AtFrom h top n = record { calm = refl }
name_calm text AtTo h top n = record { calm = refl }
name_calm text AtToPath h top n = record { calm = refl }
name_calm text AtAlt h top n = record { calm = refl }
name_calm text AtBrace h top n = record { calm = refl }
name_calm text AtLabel h top n = record { calm = refl }
name_calm text AtIndex h top n = record { calm = refl }
name_calm text AtField h top n = record { calm = refl }
name_calm text AtEtc h top n = record { calm = refl }

scalar_calm : (s : ReadState) (v : ℕ) (q : Spot) → Calm (scalar_move s v q)
unfolding scalar_move opens_calmly holds_path
scalar_calm Begin v q = record { calm = refl }
scalar_calm Expect v q = record { calm = refl }
scalar_calm BehindAmp v q = record { calm = refl }
scalar_calm BehindRef v q = record { calm = refl }
scalar_calm BehindMut v q = record { calm = refl }
scalar_calm AtName v q = record { calm = refl }
scalar_calm AtBound v q = record { calm = refl }
scalar_calm AtPath v q = record { calm = refl }
scalar_calm AtSep v q = record { calm = refl }
scalar_calm AtMinus v q = record { calm = refl }
scalar_calm AtLiteral v q = record { calm = refl }
scalar_calm AtDots v q = record { calm = refl }
scalar_calm AtFrom v q = record { calm = refl }
scalar_calm AtTo v q = record { calm = refl }
scalar_calm AtToPath v q = record { calm = refl }
scalar_calm AtAlt v q = record { calm = refl }
scalar_calm AtBrace v q = record { calm = refl }
scalar_calm AtLabel v q = record { calm = refl }
scalar_calm AtIndex v q = record { calm = refl }
scalar_calm AtField v q = record { calm = refl }
scalar_calm AtEtc v q = record { calm = refl }

-- every token's is
token_calm : (text : List ℕ) (s : ReadState) (h : Held) (top : ℕ) (t : Lexeme) → opens_calmly (move_at text s h top t) ≡ true
unfolding move_at
token_calm text s h top (name n) = (name_calm text s h top n).calm
token_calm text s h top (scalar v q) = (scalar_calm s v q).calm
token_calm text s h top (mark m q) = (mark_calm text s h top m q).calm

-- no path is held where the machine goes on
unfoldable pub is_calm : Course → Bool
is_calm (going z) = not (holds_path z.state)
is_calm (ended_with closed) = true
is_calm (halted_at at) = true

-- what a move holds
unfoldable pub is_holding : Move → Bool
is_holding (halts at) = false
is_holding (holds s h) = true
is_holding (opens s f) = false
is_holding (opens_two f g) = false
is_holding (opens_behind s w f) = false
is_holding mutates = false
is_holding (shuts w) = false
is_holding (shuts_before w) = false
is_holding (shuts_range w) = false
is_holding (shuts_range_before w) = false
is_holding shuts_open_range = false
is_holding shuts_rest = false
is_holding passes_on = false
is_holding shuts_top = false
is_holding (adds_field w f) = false
is_holding (adds_last_field w f) = false

course_if : (b : Bool) (x y : Course) → is_calm x ≡ true → is_calm y ≡ true → is_calm (cond b x y) ≡ true
course_if true x y h g = h
course_if false x y h g = g

ended_calm : (m at : ℕ) (ws cs : List ClosedNode) → is_calm (ended_in m at ws cs) ≡ true
unfolding ended_in is_calm holds_path
ended_calm m at [] cs = course_if (eqb m end_mark) _ _ refl refl
ended_calm m at (f ∷ fs) cs =
    course_if (eqb (node_kind f.is) 13) _ _
    (course_if (eqb m comma_mark) _ _ refl (course_if (eqb m close_brace_mark) _ _ refl refl))
    (course_if (eqb m comma_mark) _ _ refl (course_if (closes (node_kind f.is) m) _ _ refl refl))

behind_calm : (m at : ℕ) (o : Opened) → is_calm (behind_alt m at o) ≡ true
unfolding behind_alt is_calm holds_path
behind_calm m at o = course_if (eqb m or_mark) _ _ refl (ended_calm m at _ _)

rest_item_calm : (m at : ℕ) (ws cs : List ClosedNode) → is_calm (rest_item m at ws cs) ≡ true
unfolding rest_item is_calm holds_path
rest_item_calm m at [] cs = refl
rest_item_calm m at (f ∷ fs) cs = course_if (eqb m comma_mark) _ _ refl (course_if (closes (node_kind f.is) m) _ _ refl refl)

rest_in_calm : (dots m at : ℕ) (ws cs : List ClosedNode) → is_calm (rest_in dots m at ws cs) ≡ true
unfolding rest_in is_calm
rest_in_calm dots m at [] cs = refl
rest_in_calm dots m at (f ∷ fs) cs =
    course_if (eqb (node_kind f.is) 7) _ _ (rest_item_calm m at _ _)
    (course_if (eqb (node_kind f.is) 11) _ _ (rest_item_calm m at _ _) (rest_item_calm m at _ _))

rest_calm : (m at : ℕ) (ws cs : List ClosedNode) → is_calm (rest_read m at ws cs) ≡ true
unfolding rest_read is_calm
rest_calm m at [] cs = refl
rest_calm m at (f ∷ fs) cs = course_if (rest_fits fs && not (eqb m or_mark)) _ _ (rest_in_calm f.from m at fs cs) refl

open_calm : (m at : ℕ) (ws cs : List ClosedNode) → is_calm (open_range m at ws cs) ≡ true
unfolding open_range is_calm
open_calm m at [] cs = refl
open_calm m at (f ∷ fs) cs =
    course_if (eqb (innermost_kind fs) 11 && (eqb m comma_mark || eqb m close_bracket_mark)) _ _ refl (behind_calm m at _)

perform_calm : (move : Move) (m at : ℕ) (o : Opened) → is_holding move ≡ false → opens_calmly move ≡ true → is_calm (perform move m at o) ≡ true
unfolding perform is_calm is_holding opens_calmly holds_path
perform_calm (halts place) m at o e c = refl
perform_calm (holds s h) m at o e c = absurd (false≢true (sym e))
perform_calm (opens s f) m at o e c = c
perform_calm (opens_two f g) m at o e c = refl
perform_calm (opens_behind s w f) m at o e c = c
perform_calm mutates m at o e c = refl
perform_calm (shuts w) m at o e c = refl
perform_calm (shuts_before w) m at o e c = behind_calm m at _
perform_calm (shuts_range w) m at o e c = refl
perform_calm (shuts_range_before w) m at o e c = behind_calm m at _
perform_calm shuts_open_range m at o e c = open_calm m at _ _
perform_calm shuts_rest m at o e c = rest_calm m at _ _
perform_calm passes_on m at o e c = behind_calm m at o
perform_calm shuts_top m at o e c = refl
perform_calm (adds_field w f) m at o e c = refl
perform_calm (adds_last_field w f) m at o e c = refl

-- The theorem: a token that holds nothing leads to no path.
pub step_calm :
    (text : List ℕ) (s : ReadState) (h : Held) (top : ℕ) (t : Lexeme) (m at : ℕ) (o : Opened) → is_holding (move_at text s h top t) ≡ false
    → is_calm (perform (move_at text s h top t) m at o) ≡ true
step_calm text s h top t m at o e = perform_calm (move_at text s h top t) m at o e (token_calm text s h top t)
