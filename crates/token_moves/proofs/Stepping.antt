-- A step of the machine is its move at the token. Assumes nothing.
use Prim.Native.Nat.{ℕ, ◌+◌, ◌*◌}
use mathlib.Core.Path.{◌≡◌, refl, sym, ap, ◌∙◌}
use mathlib.Core.Bool.{Bool, true, false, cond}
use mathlib.Core.List.{List}
use lib.Dec.{eqb}
use Rattle.pattern_grammar.specs.Lexemes.{Spot, Identifier, Lexeme, name, scalar, mark}
use Rattle.parsing_machine.specs.declared.ReadState.{ReadState}
use Rattle.parsing_machine.specs.declared.ReadState.TheVariants.{Begin, Expect, BehindAmp, BehindRef, BehindMut, AtName, AtBound, AtPath, AtSep, AtMinus, AtLiteral, AtDots, AtFrom, AtTo, AtToPath, AtAlt, AtBrace, AtLabel, AtIndex, AtField, AtEtc}
use Rattle.parsing_machine.specs.Waiting.{Opened, innermost_kind}
use Rattle.parsing_machine.specs.Moves.{Held, name_move, scalar_move}
use Rattle.parsing_machine.specs.Parser.{Parser, perform, stepped}
use Rattle.token_rows.specs.declared.TokenRow.{TokenRow}
use Rattle.token_rows.specs.TokenRows.{spot_from, lexeme_of}
use Rattle.token_moves.specs.TokenMoves.{move_at, mark_of, mark_from}

pub step_moves :
    (text : List ℕ) (z : Parser) (t : Lexeme)
    → stepped text z t ≡ perform (move_at text z.state z.held (innermost_kind z.nodes.waiting) t) (mark_of t) (mark_from t) z.nodes
unfolding stepped move_at mark_of mark_from
step_moves text z (name n) = refl
step_moves text z (scalar v q) = refl
step_moves text z (mark m q) = refl

-- what a name or a char does is done whatever the mark is
name_any :
    (text : List ℕ) (s : ReadState) (h : Held) (top : ℕ) (n : Identifier) (m at : ℕ) (o : Opened)
    → perform (name_move text s h top n) 0 0 o ≡ perform (name_move text s h top n) m at o
unfolding name_move perform
name_any text Begin h top n m at o = refl
name_any text Expect h top n m at o = refl
name_any text BehindAmp h top n m at o = refl
name_any text BehindRef h top n m at o = refl
name_any text BehindMut h top n m at o = refl
name_any text AtName h top n m at o = refl
name_any text AtBound h top n m at o = refl
name_any text AtPath h top n m at o = refl
name_any text AtSep h top n m at o = refl
name_any text AtMinus h top n m at o = refl
name_any text AtLiteral h top n m at o = refl
name_any text AtDots h top n m at o = refl
name_any text AtFrom h top n m at o = refl
name_any text AtTo h top n m at o = refl
name_any text AtToPath h top n m at o = refl
name_any text AtAlt h top n m at o = refl
name_any text AtBrace h top n m at o = refl
name_any text AtLabel h top n m at o = refl
name_any text AtIndex h top n m at o = refl
name_any text AtField h top n m at o = refl
name_any text AtEtc h top n m at o = refl

scalar_any : (s : ReadState) (v : ℕ) (q : Spot) (m at : ℕ) (o : Opened) → perform (scalar_move s v q) 0 0 o ≡ perform (scalar_move s v q) m at o
unfolding scalar_move perform
scalar_any Begin v q m at o = refl
scalar_any Expect v q m at o = refl
scalar_any BehindAmp v q m at o = refl
scalar_any BehindRef v q m at o = refl
scalar_any BehindMut v q m at o = refl
scalar_any AtName v q m at o = refl
scalar_any AtBound v q m at o = refl
scalar_any AtPath v q m at o = refl
scalar_any AtSep v q m at o = refl
scalar_any AtMinus v q m at o = refl
scalar_any AtLiteral v q m at o = refl
scalar_any AtDots v q m at o = refl
scalar_any AtFrom v q m at o = refl
scalar_any AtTo v q m at o = refl
scalar_any AtToPath v q m at o = refl
scalar_any AtAlt v q m at o = refl
scalar_any AtBrace v q m at o = refl
scalar_any AtLabel v q m at o = refl
scalar_any AtIndex v q m at o = refl
scalar_any AtField v q m at o = refl
scalar_any AtEtc v q m at o = refl

-- so a token's own words will do
pub step_by_row :
    (text : List ℕ) (z : Parser) (r : TokenRow)
    → stepped text z (lexeme_of r) ≡ perform (move_at text z.state z.held (innermost_kind z.nodes.waiting) (lexeme_of r)) r.mark r.from z.nodes
unfolding lexeme_of move_at stepped
step_by_row text z r = by (eqb r.sort 0) (eqb r.sort 1)
  where
    chosen : Bool → Bool → Lexeme
    chosen a b =
        cond a (name (record { own = r.own; spot = spot_from r.from r.to }))
        (cond b (scalar (r.own * 65536 + r.mark) (spot_from r.from r.to)) (mark r.mark (spot_from r.from r.to)))

    by :
        (a b : Bool)
        → stepped text z (chosen a b)
        ≡ perform (move_at text z.state z.held (innermost_kind z.nodes.waiting) (chosen a b)) r.mark r.from z.nodes
    by true b = name_any text z.state z.held (innermost_kind z.nodes.waiting) (record { own = r.own; spot = spot_from r.from r.to }) r.mark r.from z.nodes
    by false true = scalar_any z.state (r.own * 65536 + r.mark) (spot_from r.from r.to) r.mark r.from z.nodes
    by false false = refl
