-- The machine ends at no token but the last. Assumes nothing.
use Prim.Native.Nat.{ℕ}
use mathlib.Core.Path.{◌≡◌, refl, sym}
use mathlib.Core.Bool.{Bool, true, false, not, cond, ◌&&◌, ◌||◌, false≢true}
use mathlib.Core.List.{List, [], ◌∷◌}
use lib.Dec.{eqb}
use Rattle.pattern_grammar.specs.Lexemes.{Spot, Identifier, Lexeme, name, scalar, mark, end_mark, comma_mark, or_mark, close_bracket_mark, close_brace_mark, fails_mark}
use Rattle.pattern_grammar.specs.Parsed.{is_last}
use Rattle.pattern_syntax.specs.Closing.{ClosedNode}
use Rattle.parsing_machine.specs.declared.ReadState.{ReadState}
use Rattle.parsing_machine.specs.declared.ReadState.TheVariants.{Begin, Expect, BehindAmp, BehindRef, BehindMut, AtName, AtBound, AtPath, AtSep, AtMinus, AtLiteral, AtDots, AtFrom, AtTo, AtToPath, AtAlt, AtBrace, AtLabel, AtIndex, AtField, AtEtc}
use Rattle.parsing_machine.specs.Waiting.{Opened, node_kind, innermost_kind, closes, rest_fits}
use Rattle.parsing_machine.specs.Moves.{Held, Move, halts, holds, opens, opens_two, opens_behind, mutates, shuts, shuts_before, shuts_range, shuts_range_before, shuts_open_range, shuts_rest, passes_on, shuts_top, adds_field, adds_last_field, name_move, scalar_move}
use Rattle.parsing_machine.specs.Parser.{Parser, Course, ended_in, behind_alt, rest_item, rest_in, rest_read, open_range, perform, stepped}
use Rattle.parsing_course.specs.Course.{has_ended}

ends_if : (b : Bool) (x y : Course) → has_ended x ≡ false → has_ended y ≡ false → has_ended (cond b x y) ≡ false
ends_if true x y h g = h
ends_if false x y h g = g

ended_inside : (m : ℕ) → eqb m end_mark ≡ false → (at : ℕ) (ws cs : List ClosedNode) → has_ended (ended_in m at ws cs) ≡ false
unfolding ended_in has_ended
ended_inside m n at [] cs = rw n refl
ended_inside m n at (f ∷ fs) cs =
    ends_if (eqb (node_kind f.is) 13) _ _
    (ends_if (eqb m comma_mark) _ _ refl (ends_if (eqb m close_brace_mark) _ _ refl refl))
    (ends_if (eqb m comma_mark) _ _ refl (ends_if (closes (node_kind f.is) m) _ _ refl refl))

behind_inside : (m : ℕ) → eqb m end_mark ≡ false → (at : ℕ) (o : Opened) → has_ended (behind_alt m at o) ≡ false
unfolding behind_alt has_ended
behind_inside m n at o = ends_if (eqb m or_mark) _ _ refl (ended_inside m n at _ _)

rest_item_inside : (m at : ℕ) (ws cs : List ClosedNode) → has_ended (rest_item m at ws cs) ≡ false
unfolding rest_item has_ended
rest_item_inside m at [] cs = refl
rest_item_inside m at (f ∷ fs) cs = ends_if (eqb m comma_mark) _ _ refl (ends_if (closes (node_kind f.is) m) _ _ refl refl)

rest_in_inside : (dots m at : ℕ) (ws cs : List ClosedNode) → has_ended (rest_in dots m at ws cs) ≡ false
unfolding rest_in has_ended
rest_in_inside dots m at [] cs = refl
rest_in_inside dots m at (f ∷ fs) cs =
    ends_if (eqb (node_kind f.is) 7) _ _ (rest_item_inside m at _ _)
    (ends_if (eqb (node_kind f.is) 11) _ _ (rest_item_inside m at _ _) (rest_item_inside m at _ _))

rest_inside : (m at : ℕ) (ws cs : List ClosedNode) → has_ended (rest_read m at ws cs) ≡ false
unfolding rest_read has_ended
rest_inside m at [] cs = refl
rest_inside m at (f ∷ fs) cs = ends_if (rest_fits fs && not (eqb m or_mark)) _ _ (rest_in_inside f.from m at fs cs) refl

open_inside : (m : ℕ) → eqb m end_mark ≡ false → (at : ℕ) (ws cs : List ClosedNode) → has_ended (open_range m at ws cs) ≡ false
unfolding open_range has_ended
open_inside m n at [] cs = refl
open_inside m n at (f ∷ fs) cs =
    ends_if (eqb (innermost_kind fs) 11 && (eqb m comma_mark || eqb m close_bracket_mark)) _ _ refl (behind_inside m n at _)

perform_inside : (m : ℕ) → eqb m end_mark ≡ false → (move : Move) (at : ℕ) (o : Opened) → has_ended (perform move m at o) ≡ false
unfolding perform has_ended
perform_inside m n (halts place) at o = refl
perform_inside m n (holds s h) at o = refl
perform_inside m n (opens s f) at o = refl
perform_inside m n (opens_two f g) at o = refl
perform_inside m n (opens_behind s w f) at o = refl
perform_inside m n mutates at o = refl
perform_inside m n (shuts w) at o = refl
perform_inside m n (shuts_before w) at o = behind_inside m n at _
perform_inside m n (shuts_range w) at o = refl
perform_inside m n (shuts_range_before w) at o = behind_inside m n at _
perform_inside m n shuts_open_range at o = open_inside m n at _ _
perform_inside m n shuts_rest at o = rest_inside m at _ _
perform_inside m n passes_on at o = behind_inside m n at o
perform_inside m n shuts_top at o = refl
perform_inside m n (adds_field w f) at o = refl
perform_inside m n (adds_last_field w f) at o = refl

-- names and chars end nothing
name_inside : (text : List ℕ) (s : ReadState) (h : Held) (top : ℕ) (n : Identifier) (o : Opened) → has_ended (perform (name_move text s h top n) 0 0 o) ≡ false
unfolding name_move perform has_ended
name_inside text Begin h top n o = refl
name_inside text Expect h top n o = refl
name_inside text BehindAmp h top n o = refl
name_inside text BehindRef h top n o = refl
name_inside text BehindMut h top n o = refl
name_inside text AtName h top n o = refl
name_inside text AtBound h top n o = refl
name_inside text AtPath h top n o = refl
name_inside text AtSep h top n o = refl
name_inside text AtMinus h top n o = refl
name_inside text AtLiteral h top n o = refl
name_inside text AtDots h top n o = refl
name_inside text AtFrom h top n o = refl
name_inside text AtTo h top n o = refl
name_inside text AtToPath h top n o = refl
name_inside text AtAlt h top n o = refl
name_inside text AtBrace h top n o = refl
name_inside text AtLabel h top n o = refl
name_inside text AtIndex h top n o = refl
name_inside text AtField h top n o = refl
name_inside text AtEtc h top n o = refl

scalar_inside : (s : ReadState) (v : ℕ) (q : Spot) (o : Opened) → has_ended (perform (scalar_move s v q) 0 0 o) ≡ false
unfolding scalar_move perform has_ended
scalar_inside Begin v q o = refl
scalar_inside Expect v q o = refl
scalar_inside BehindAmp v q o = refl
scalar_inside BehindRef v q o = refl
scalar_inside BehindMut v q o = refl
scalar_inside AtName v q o = refl
scalar_inside AtBound v q o = refl
scalar_inside AtPath v q o = refl
scalar_inside AtSep v q o = refl
scalar_inside AtMinus v q o = refl
scalar_inside AtLiteral v q o = refl
scalar_inside AtDots v q o = refl
scalar_inside AtFrom v q o = refl
scalar_inside AtTo v q o = refl
scalar_inside AtToPath v q o = refl
scalar_inside AtAlt v q o = refl
scalar_inside AtBrace v q o = refl
scalar_inside AtLabel v q o = refl
scalar_inside AtIndex v q o = refl
scalar_inside AtField v q o = refl
scalar_inside AtEtc v q o = refl

pub ends_last : (text : List ℕ) (z : Parser) (t : Lexeme) → is_last t ≡ false → has_ended (stepped text z t) ≡ false
unfolding is_last stepped
ends_last text z (name n) e = name_inside text z.state z.held _ n z.nodes
ends_last text z (scalar v q) e = scalar_inside z.state v q z.nodes
ends_last text z (mark m q) e = perform_inside m (by (eqb m end_mark) (eqb m fails_mark) e) _ q.from z.nodes
  where
    by : (x y : Bool) → (x || y) ≡ false → x ≡ false
    by false y f = refl
    by true y f = absurd (false≢true (sym f))
