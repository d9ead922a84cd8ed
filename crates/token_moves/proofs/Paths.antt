-- Which moves hold a path, and which leave `::` to be copied. Assumes nothing.
use Prim.Native.Nat.{ℕ, suc, ◌+◌, ◌<◌, ◌≤◌}
use mathlib.Core.Path.{◌≡◌, refl, sym, ap, ◌∙◌}
use mathlib.Core.Bool.{Bool, true, false, cond, false≢true}
use mathlib.Core.List.{List}
use native.Mathlib.Omega.{arith}
use lib.Dec.{eqb}
use Rattle.pattern_grammar.specs.Lexemes.{Spot, Identifier, comma_mark, or_mark, close_brace_mark, ref_mark, mut_mark, true_mark, false_mark, underscore_mark, integer_mark, minus_mark, open_paren_mark, open_bracket_mark, open_brace_mark, and_mark, and_and_mark, bind_mark, colon_mark, path_sep_mark, dot_dot_mark, dot_dot_eq_mark, follows, strictly, wide}
use Rattle.parsing_machine.specs.declared.ReadState.{ReadState}
use Rattle.parsing_machine.specs.declared.ReadState.TheVariants.{Begin, Expect, BehindAmp, BehindRef, BehindMut, AtName, AtBound, AtPath, AtSep, AtMinus, AtLiteral, AtDots, AtFrom, AtTo, AtToPath, AtAlt, AtBrace, AtLabel, AtIndex, AtField, AtEtc}
use Rattle.parsing_machine.specs.Waiting.{closes}
use Rattle.parsing_machine.specs.Moves.{Held, Move, halts, holds, opens, opens_two, opens_behind, mutates, shuts, shuts_before, shuts_range, shuts_range_before, shuts_open_range, shuts_rest, passes_on, shuts_top, adds_field, adds_last_field, fit_move, ranged_move, start_move, bound_move, path_move, field_move, name_move, scalar_move, mark_move}
use Rattle.parsing_moves.specs.Rows.{is_index}
use Rattle.parsing_moves.specs.Roles.{role}
use Rattle.token_moves.specs.TokenMoves.{pending, holds_path}

-- a move holds a path that may go on
unfoldable pub keeps_path : Move → Bool
keeps_path (halts at) = false
keeps_path (holds s h) = holds_path s
keeps_path (opens s f) = false
keeps_path (opens_two f g) = false
keeps_path (opens_behind s w f) = false
keeps_path mutates = false
keeps_path (shuts w) = false
keeps_path (shuts_before w) = false
keeps_path (shuts_range w) = false
keeps_path (shuts_range_before w) = false
keeps_path shuts_open_range = false
keeps_path shuts_rest = false
keeps_path passes_on = false
keeps_path shuts_top = false
keeps_path (adds_field w f) = false
keeps_path (adds_last_field w f) = false

-- what a move leaves to be copied
unfoldable pub move_pending : Move → ℕ
move_pending (halts at) = 0
move_pending (holds s h) = pending s
move_pending (opens s f) = pending s
move_pending (opens_two f g) = 0
move_pending (opens_behind s w f) = pending s
move_pending mutates = 0
move_pending (shuts w) = 0
move_pending (shuts_before w) = 0
move_pending (shuts_range w) = 0
move_pending (shuts_range_before w) = 0
move_pending shuts_open_range = 0
move_pending shuts_rest = 0
move_pending passes_on = 0
move_pending shuts_top = 0
move_pending (adds_field w f) = 0
move_pending (adds_last_field w f) = 0

-- a mark behind what is held goes on with a path if it is `::`
pub record Apart (s : ReadState) (h : Held) (m : ℕ) (v : Move) : Type 0 where
  pub kept : keeps_path v ≡ true → (holds_path s ≡ true) × (v ≡ holds AtSep h)
  pub owes : move_pending v ≤ cond (eqb m path_sep_mark) 2 0

nothing : {s : ReadState} {h : Held} {m : ℕ} {v : Move} → keeps_path v ≡ false → move_pending v ≡ 0 → Apart s h m v
nothing e z = record { kept = λ f. absurd (false≢true (sym e ∙ f)); owes = omega (arith, z) }

goes_on_lem : {s : ReadState} {h : Held} {m : ℕ} → holds_path s ≡ true → eqb m path_sep_mark ≡ true → Apart s h m (holds AtSep h)
unfolding move_pending pending
goes_on_lem p e = record { kept = λ f. (p, refl); owes = rw e (omega arith) }

apart_if : {s : ReadState} {h : Held} {m : ℕ} {x y : Move} (b : Bool) → (b ≡ true → Apart s h m x) → Apart s h m y → Apart s h m (cond b x y)
apart_if true f g = f refl
apart_if false f g = g

halting : {s : ReadState} {h : Held} {m at : ℕ} → Apart s h m (halts at)
unfolding keeps_path move_pending
halting = nothing refl refl

fits : {s : ReadState} {h : Held} {m : ℕ} {v : Move} (text : List ℕ) (minus : Bool) (q : Spot) → Apart s h m v → Apart s h m (fit_move text minus q v)
unfolding fit_move
fits text minus q a = apart_if (wide (strictly text) minus q) (λ _. halting) a

rangy : {s : ReadState} {h : Held} {m : ℕ} {v : Move} (top : ℕ) (q : Spot) → Apart s h m v → Apart s h m (ranged_move top q v)
unfolding ranged_move
rangy top q a = apart_if (eqb top 8) (λ _. halting) a

module _ (s : ReadState) (h : Held) where
  start_apart : (text : List ℕ) (top m : ℕ) (q : Spot) → Apart s h m (start_move text top m q)
  unfolding start_move keeps_path move_pending holds_path pending
  start_apart text top m q =
      apart_if (eqb m ref_mark) (λ _. nothing refl refl)
      (apart_if (eqb m mut_mark) (λ _. nothing refl refl)
      (apart_if (eqb m true_mark) (λ _. nothing refl refl)
      (apart_if (eqb m false_mark) (λ _. nothing refl refl)
      (apart_if (eqb m underscore_mark) (λ _. nothing refl refl)
      (apart_if (eqb m integer_mark) (λ _. fits text false q (nothing refl refl))
      (apart_if (eqb m minus_mark) (λ _. nothing refl refl)
      (apart_if (eqb m open_paren_mark) (λ _. nothing refl refl)
      (apart_if (eqb m open_bracket_mark) (λ _. nothing refl refl)
      (apart_if (eqb m and_mark) (λ _. nothing refl refl)
      (apart_if (eqb m and_and_mark) (λ _. nothing refl refl)
      (apart_if (eqb m dot_dot_mark) (λ _. rangy top q (nothing refl refl))
      (apart_if (eqb m dot_dot_eq_mark) (λ _. rangy top q (nothing refl refl))
      halting))))))))))))

  bound_apart : (text : List ℕ) (m : ℕ) (q : Spot) (other : Move) → Apart s h m other → Apart s h m (bound_move text m q other)
  unfolding bound_move keeps_path move_pending holds_path pending
  bound_apart text m q other a =
      apart_if (eqb m true_mark) (λ _. nothing refl refl)
      (apart_if (eqb m false_mark) (λ _. nothing refl refl)
      (apart_if (eqb m integer_mark) (λ _. fits text false q (nothing refl refl))
      (apart_if (eqb m minus_mark) (λ _. nothing refl refl)
      a)))

  path_apart : (top m : ℕ) (q : Spot) → holds_path s ≡ true → Apart s h m (path_move h top m q)
  unfolding path_move keeps_path move_pending pending
  path_apart top m q p =
      apart_if (eqb m path_sep_mark) (λ e. goes_on_lem p e)
      (apart_if (eqb m open_paren_mark) (λ _. nothing refl refl)
      (apart_if (eqb m open_brace_mark) (λ _. nothing refl refl)
      (apart_if (eqb m dot_dot_mark) (λ _. rangy top q (nothing refl refl))
      (apart_if (eqb m dot_dot_eq_mark) (λ _. rangy top q (nothing refl refl))
      halting))))

  field_apart : (m : ℕ) (q : Spot) → Apart s h m (field_move h m q)
  unfolding field_move keeps_path move_pending
  field_apart m q = apart_if (eqb m comma_mark) (λ _. nothing refl refl) (apart_if (eqb m close_brace_mark) (λ _. nothing refl refl) halting)

-- at any mark
pub mark_apart : (text : List ℕ) (s : ReadState) (h : Held) (top m : ℕ) (q : Spot) → Apart s h m (mark_move text s h top m q)
unfolding mark_move keeps_path move_pending holds_path pending
mark_apart text Begin h top m q =
    apart_if (eqb m or_mark) (λ _. nothing refl refl)
    (apart_if (follows m) (λ _. apart_if (closes top m) (λ _. nothing refl refl) halting)
    (start_apart Begin h text top m q))
mark_apart text Expect h top m q = start_apart Expect h text top m q
mark_apart text BehindAmp h top m q = apart_if (eqb m mut_mark) (λ _. nothing refl refl) (start_apart BehindAmp h text top m q)
mark_apart text BehindRef h top m q = apart_if (eqb m mut_mark) (λ _. nothing refl refl) halting
mark_apart text BehindMut h top m q = halting
mark_apart text AtName h top m q =
    apart_if (follows m) (λ _. nothing refl refl) (apart_if (eqb m bind_mark) (λ _. nothing refl refl) (path_apart AtName h top m q refl))
mark_apart text AtBound h top m q =
    apart_if (follows m) (λ _. nothing refl refl) (apart_if (eqb m bind_mark) (λ _. nothing refl refl) halting)
mark_apart text AtPath h top m q = apart_if (follows m) (λ _. nothing refl refl) (path_apart AtPath h top m q refl)
mark_apart text AtSep h top m q = halting
mark_apart text AtMinus h top m q =
    apart_if (eqb m integer_mark) (λ _. fits text true q (apart_if (eqb top 5) (λ _. nothing refl refl) (nothing refl refl))) halting
mark_apart text AtLiteral h top m q =
    apart_if (follows m) (λ _. nothing refl refl)
    (apart_if (eqb m dot_dot_mark) (λ _. rangy top q (nothing refl refl))
    (apart_if (eqb m dot_dot_eq_mark) (λ _. rangy top q (nothing refl refl))
    halting))
mark_apart text AtDots h top m q = bound_apart AtDots h text m q _ (nothing refl refl)
mark_apart text AtFrom h top m q = bound_apart AtFrom h text m q _ (apart_if (follows m) (λ _. nothing refl refl) halting)
mark_apart text AtTo h top m q = bound_apart AtTo h text m q _ halting
mark_apart text AtToPath h top m q =
    apart_if (follows m) (λ _. nothing refl refl) (apart_if (eqb m path_sep_mark) (λ e. goes_on_lem refl e) halting)
mark_apart text AtAlt h top m q = nothing refl refl
mark_apart text AtBrace h top m q =
    apart_if (eqb m close_brace_mark) (λ _. nothing refl refl)
    (apart_if (eqb m dot_dot_mark) (λ _. nothing refl refl)
    (apart_if (eqb m integer_mark) (λ _. fits text false q (nothing refl refl))
    (apart_if (eqb m ref_mark) (λ _. nothing refl refl)
    (apart_if (eqb m mut_mark) (λ _. nothing refl refl)
    halting))))
mark_apart text AtLabel h top m q = apart_if (eqb m colon_mark) (λ _. nothing refl refl) (field_apart AtLabel h m q)
mark_apart text AtIndex h top m q = apart_if (eqb m colon_mark) (λ _. nothing refl refl) halting
mark_apart text AtField h top m q = field_apart AtField h m q
mark_apart text AtEtc h top m q = apart_if (eqb m close_brace_mark) (λ _. nothing refl refl) halting

-- a name leaves nothing to be copied
either : (b : Bool) (x y : ReadState) → pending x ≡ 0 → pending y ≡ 0 → pending (cond b x y) ≡ 0
either true x y e f = e
either false x y e f = f

pub name_owes : (text : List ℕ) (s : ReadState) (h : Held) (top : ℕ) (n : Identifier) → move_pending (name_move text s h top n) ≡ 0
unfolding name_move move_pending pending
name_owes text Begin h top n = refl
name_owes text Expect h top n = refl
name_owes text BehindAmp h top n = refl
name_owes text BehindRef h top n = either (eqb top 12) AtField AtBound refl refl
name_owes text BehindMut h top n = either (eqb top 12) AtField AtBound refl refl
name_owes text AtName h top n = refl
name_owes text AtBound h top n = refl
name_owes text AtPath h top n = refl
name_owes text AtSep h top n = either (eqb top 5) AtToPath AtPath refl refl
name_owes text AtMinus h top n = refl
name_owes text AtLiteral h top n = refl
name_owes text AtDots h top n = refl
name_owes text AtFrom h top n = refl
name_owes text AtTo h top n = refl
name_owes text AtToPath h top n = refl
name_owes text AtAlt h top n = refl
name_owes text AtBrace h top n = refl
name_owes text AtLabel h top n = refl
name_owes text AtIndex h top n = refl
name_owes text AtField h top n = refl
name_owes text AtEtc h top n = refl

-- a char holds no path
pub scalar_owes : (s : ReadState) (v : ℕ) (q : Spot) → move_pending (scalar_move s v q) ≡ 0
unfolding scalar_move move_pending pending
scalar_owes Begin v q = refl
scalar_owes Expect v q = refl
scalar_owes BehindAmp v q = refl
scalar_owes BehindRef v q = refl
scalar_owes BehindMut v q = refl
scalar_owes AtName v q = refl
scalar_owes AtBound v q = refl
scalar_owes AtPath v q = refl
scalar_owes AtSep v q = refl
scalar_owes AtMinus v q = refl
scalar_owes AtLiteral v q = refl
scalar_owes AtDots v q = refl
scalar_owes AtFrom v q = refl
scalar_owes AtTo v q = refl
scalar_owes AtToPath v q = refl
scalar_owes AtAlt v q = refl
scalar_owes AtBrace v q = refl
scalar_owes AtLabel v q = refl
scalar_owes AtIndex v q = refl
scalar_owes AtField v q = refl
scalar_owes AtEtc v q = refl

pub scalar_keeps : (s : ReadState) (v : ℕ) (q : Spot) → keeps_path (scalar_move s v q) ≡ false
unfolding scalar_move keeps_path holds_path
scalar_keeps Begin v q = refl
scalar_keeps Expect v q = refl
scalar_keeps BehindAmp v q = refl
scalar_keeps BehindRef v q = refl
scalar_keeps BehindMut v q = refl
scalar_keeps AtName v q = refl
scalar_keeps AtBound v q = refl
scalar_keeps AtPath v q = refl
scalar_keeps AtSep v q = refl
scalar_keeps AtMinus v q = refl
scalar_keeps AtLiteral v q = refl
scalar_keeps AtDots v q = refl
scalar_keeps AtFrom v q = refl
scalar_keeps AtTo v q = refl
scalar_keeps AtToPath v q = refl
scalar_keeps AtAlt v q = refl
scalar_keeps AtBrace v q = refl
scalar_keeps AtLabel v q = refl
scalar_keeps AtIndex v q = refl
scalar_keeps AtField v q = refl
scalar_keeps AtEtc v q = refl
