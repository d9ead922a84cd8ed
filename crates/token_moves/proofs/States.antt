-- What is known of a state by what it waits for. Assumes nothing.
use Prim.Native.Nat.{ℕ}
use mathlib.Core.Path.{◌≡◌, refl, sym, ap, ◌∙◌}
use mathlib.Core.Bool.{true, false, false≢true, true≢false}
use mathlib.Core.List.{List}
use lib.Dec.{eqb}
use Rattle.pattern_grammar.specs.Lexemes.{integer_mark}
use Rattle.parsing_machine.specs.declared.ReadState.{ReadState}
use Rattle.parsing_machine.specs.declared.ReadState.TheVariants.{Begin, Expect, BehindAmp, BehindRef, BehindMut, AtName, AtBound, AtPath, AtSep, AtMinus, AtLiteral, AtDots, AtFrom, AtTo, AtToPath, AtAlt, AtBrace, AtLabel, AtIndex, AtField, AtEtc}
use Rattle.parsing_moves.specs.declared.HeldRow.{HeldRow}
use Rattle.parsing_moves.specs.declared.NodeMove.{NodeMove}
use Rattle.parsing_moves.specs.declared.NodeMove.TheVariants.{Halts, Holds, Opens, OpensTwo, OpensBehind, Mutates, Shuts, ShutsBefore, ShutsRange, ShutsRangeBefore, ShutsOpenRange, ShutsRest, PassesOn, ShutsTop, AddsField, AddsLastField}
use Rattle.parsing_moves.specs.Rows.{plain_held, held_in, move_of, is_index}
use Rattle.parsing_moves.specs.Roles.{role}
use Rattle.token_moves.specs.TokenMoves.{pending, pending_behind, holds_path}
use Rattle.token_moves.proofs.Paths.{move_pending}

-- behind `::` a path is held, and two bytes are to be copied
pub behind_sep : (s : ReadState) → eqb (role s) 2 ≡ true → (holds_path s ≡ true) × (pending s ≡ 2)
unfolding role holds_path pending
behind_sep Begin e = absurd (false≢true e)
behind_sep Expect e = absurd (false≢true e)
behind_sep BehindAmp e = absurd (false≢true e)
behind_sep BehindRef e = absurd (false≢true e)
behind_sep BehindMut e = absurd (false≢true e)
behind_sep AtName e = absurd (false≢true e)
behind_sep AtBound e = absurd (false≢true e)
behind_sep AtPath e = absurd (false≢true e)
behind_sep AtSep e = (refl, refl)
behind_sep AtMinus e = absurd (false≢true e)
behind_sep AtLiteral e = absurd (false≢true e)
behind_sep AtDots e = absurd (false≢true e)
behind_sep AtFrom e = absurd (false≢true e)
behind_sep AtTo e = absurd (false≢true e)
behind_sep AtToPath e = absurd (false≢true e)
behind_sep AtAlt e = absurd (false≢true e)
behind_sep AtBrace e = absurd (false≢true e)
behind_sep AtLabel e = absurd (false≢true e)
behind_sep AtIndex e = absurd (false≢true e)
behind_sep AtField e = absurd (false≢true e)
behind_sep AtEtc e = absurd (false≢true e)

-- where a field is read, no path is held
pub in_record_lem : (s : ReadState) → eqb (role s) 4 ≡ true → holds_path s ≡ false
unfolding role holds_path
in_record_lem Begin e = absurd (false≢true e)
in_record_lem Expect e = absurd (false≢true e)
in_record_lem BehindAmp e = absurd (false≢true e)
in_record_lem BehindRef e = absurd (false≢true e)
in_record_lem BehindMut e = absurd (false≢true e)
in_record_lem AtName e = absurd (false≢true e)
in_record_lem AtBound e = absurd (false≢true e)
in_record_lem AtPath e = absurd (false≢true e)
in_record_lem AtSep e = absurd (false≢true e)
in_record_lem AtMinus e = absurd (false≢true e)
in_record_lem AtLiteral e = absurd (false≢true e)
in_record_lem AtDots e = absurd (false≢true e)
in_record_lem AtFrom e = absurd (false≢true e)
in_record_lem AtTo e = absurd (false≢true e)
in_record_lem AtToPath e = absurd (false≢true e)
in_record_lem AtAlt e = absurd (false≢true e)
in_record_lem AtBrace e = refl
in_record_lem AtLabel e = absurd (false≢true e)
in_record_lem AtIndex e = absurd (false≢true e)
in_record_lem AtField e = absurd (false≢true e)
in_record_lem AtEtc e = absurd (false≢true e)

-- elsewhere an integer is no field, nor is what is no integer
pub not_field : (s : ReadState) (m : ℕ) → eqb (role s) 4 ≡ false → is_index s m ≡ false
unfolding role is_index
not_field Begin m e = refl
not_field Expect m e = refl
not_field BehindAmp m e = refl
not_field BehindRef m e = refl
not_field BehindMut m e = refl
not_field AtName m e = refl
not_field AtBound m e = refl
not_field AtPath m e = refl
not_field AtSep m e = refl
not_field AtMinus m e = refl
not_field AtLiteral m e = refl
not_field AtDots m e = refl
not_field AtFrom m e = refl
not_field AtTo m e = refl
not_field AtToPath m e = refl
not_field AtAlt m e = refl
not_field AtBrace m e = absurd (true≢false e)
not_field AtLabel m e = refl
not_field AtIndex m e = refl
not_field AtField m e = refl
not_field AtEtc m e = refl

pub not_integer : (s : ReadState) (m : ℕ) → eqb m integer_mark ≡ false → is_index s m ≡ false
unfolding is_index
not_integer Begin m e = refl
not_integer Expect m e = refl
not_integer BehindAmp m e = refl
not_integer BehindRef m e = refl
not_integer BehindMut m e = refl
not_integer AtName m e = refl
not_integer AtBound m e = refl
not_integer AtPath m e = refl
not_integer AtSep m e = refl
not_integer AtMinus m e = refl
not_integer AtLiteral m e = refl
not_integer AtDots m e = refl
not_integer AtFrom m e = refl
not_integer AtTo m e = refl
not_integer AtToPath m e = refl
not_integer AtAlt m e = refl
not_integer AtBrace m e = e
not_integer AtLabel m e = refl
not_integer AtIndex m e = refl
not_integer AtField m e = refl
not_integer AtEtc m e = refl

-- a path that is held is its name alone
pub held_path_lem : (text names : List ℕ) (s : ReadState) (h : HeldRow) → holds_path s ≡ true → held_in text names s h ≡ plain_held names h
unfolding holds_path held_in
held_path_lem text names Begin h e = absurd (false≢true e)
held_path_lem text names Expect h e = absurd (false≢true e)
held_path_lem text names BehindAmp h e = absurd (false≢true e)
held_path_lem text names BehindRef h e = absurd (false≢true e)
held_path_lem text names BehindMut h e = absurd (false≢true e)
held_path_lem text names AtName h e = refl
held_path_lem text names AtBound h e = absurd (false≢true e)
held_path_lem text names AtPath h e = refl
held_path_lem text names AtSep h e = refl
held_path_lem text names AtMinus h e = absurd (false≢true e)
held_path_lem text names AtLiteral h e = absurd (false≢true e)
held_path_lem text names AtDots h e = absurd (false≢true e)
held_path_lem text names AtFrom h e = absurd (false≢true e)
held_path_lem text names AtTo h e = absurd (false≢true e)
held_path_lem text names AtToPath h e = refl
held_path_lem text names AtAlt h e = absurd (false≢true e)
held_path_lem text names AtBrace h e = absurd (false≢true e)
held_path_lem text names AtLabel h e = absurd (false≢true e)
held_path_lem text names AtIndex h e = absurd (false≢true e)
held_path_lem text names AtField h e = absurd (false≢true e)
held_path_lem text names AtEtc h e = absurd (false≢true e)

-- what is left to be copied behind a move, by its row
pub pending_same : (text names : List ℕ) (made : NodeMove) → move_pending (move_of text names made) ≡ pending_behind made
unfolding move_of move_pending pending_behind
pending_same text names (Halts at) = refl
pending_same text names (Holds s h) = refl
pending_same text names (Opens s f) = refl
pending_same text names (OpensTwo f g) = refl
pending_same text names (OpensBehind s w f) = refl
pending_same text names Mutates = refl
pending_same text names (Shuts w) = refl
pending_same text names (ShutsBefore w) = refl
pending_same text names (ShutsRange w) = refl
pending_same text names (ShutsRangeBefore w) = refl
pending_same text names ShutsOpenRange = refl
pending_same text names ShutsRest = refl
pending_same text names PassesOn = refl
pending_same text names ShutsTop = refl
pending_same text names (AddsField w f) = refl
pending_same text names (AddsLastField w f) = refl
