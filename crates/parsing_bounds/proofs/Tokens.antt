-- The nodes that a move lets wait have at most one part; so what waits has at most as many as there were tokens. Assumes nothing.
use Prim.Native.Nat.{ℕ, suc, ◌≤◌}
use mathlib.Core.Path.{◌≡◌}
use mathlib.Core.Bool.{Bool, true, false, cond}
use mathlib.Core.List.{List}
use native.Mathlib.Omega.{arith}
use lib.Dec.{eqb}
use Rattle.pattern_grammar.specs.Lexemes.{Spot, Identifier, Lexeme, name, scalar, mark, comma_mark, or_mark, close_brace_mark, ref_mark, mut_mark, true_mark, false_mark, underscore_mark, integer_mark, minus_mark, open_paren_mark, open_bracket_mark, open_brace_mark, and_mark, and_and_mark, bind_mark, colon_mark, path_sep_mark, dot_dot_mark, dot_dot_eq_mark, follows, strictly, wide}
use Rattle.parsing_machine.specs.declared.ReadState.{ReadState}
use Rattle.parsing_machine.specs.declared.ReadState.TheVariants.{Begin, Expect, BehindAmp, BehindRef, BehindMut, AtName, AtBound, AtPath, AtSep, AtMinus, AtLiteral, AtDots, AtFrom, AtTo, AtToPath, AtAlt, AtBrace, AtLabel, AtIndex, AtField, AtEtc}
use Rattle.parsing_machine.specs.Waiting.{innermost_kind, closes}
use Rattle.parsing_machine.specs.Moves.{Held, Move, fit_move, ranged_move, start_move, bound_move, path_move, field_move, name_move, scalar_move, mark_move}
use Rattle.parsing_machine.specs.Parser.{Parser, going, stepped}
use Rattle.parsing_bounds.specs.Parts.{PartsWithin, waiting_of, opened_parts}
use Rattle.parsing_bounds.proofs.Parts.{CourseWithin, perform_within}

-- at most one part
record Few (move : Move) : Type 0 where
  few : opened_parts move ≤ 1

few_if : {x y : Move} (b : Bool) → Few x → Few y → Few (cond b x y)
few_if true h g = h
few_if false h g = g

fits : {move : Move} (text : List ℕ) (minus : Bool) (q : Spot) → Few move → Few (fit_move text minus q move)
unfolding fit_move opened_parts
fits text minus q h = few_if (wide (strictly text) minus q) (record { few = omega arith }) h

rangy : {move : Move} (top : ℕ) (q : Spot) → Few move → Few (ranged_move top q move)
unfolding ranged_move opened_parts
rangy top q h = few_if (eqb top 8) (record { few = omega arith }) h

start_few : (text : List ℕ) (top m : ℕ) (q : Spot) → Few (start_move text top m q)
unfolding start_move opened_parts
start_few text top m q =
    few_if (eqb m ref_mark) (record { few = omega arith })
    (few_if (eqb m mut_mark) (record { few = omega arith })
    (few_if (eqb m true_mark) (record { few = omega arith })
    (few_if (eqb m false_mark) (record { few = omega arith })
    (few_if (eqb m underscore_mark) (record { few = omega arith })
    (few_if (eqb m integer_mark) (fits text false q (record { few = omega arith }))
    (few_if (eqb m minus_mark) (record { few = omega arith })
    (few_if (eqb m open_paren_mark) (record { few = omega arith })
    (few_if (eqb m open_bracket_mark) (record { few = omega arith })
    (few_if (eqb m and_mark) (record { few = omega arith })
    (few_if (eqb m and_and_mark) (record { few = omega arith })
    (few_if (eqb m dot_dot_mark) (rangy top q (record { few = omega arith }))
    (few_if (eqb m dot_dot_eq_mark) (rangy top q (record { few = omega arith }))
    (record { few = omega arith })))))))))))))

bound_few : (text : List ℕ) (m : ℕ) (q : Spot) (other : Move) → Few other → Few (bound_move text m q other)
unfolding bound_move opened_parts
bound_few text m q other h =
    few_if (eqb m true_mark) (record { few = omega arith })
    (few_if (eqb m false_mark) (record { few = omega arith })
    (few_if (eqb m integer_mark) (fits text false q (record { few = omega arith }))
    (few_if (eqb m minus_mark) (record { few = omega arith })
    h)))

path_few : (h : Held) (top m : ℕ) (q : Spot) → Few (path_move h top m q)
unfolding path_move opened_parts
path_few h top m q =
    few_if (eqb m path_sep_mark) (record { few = omega arith })
    (few_if (eqb m open_paren_mark) (record { few = omega arith })
    (few_if (eqb m open_brace_mark) (record { few = omega arith })
    (few_if (eqb m dot_dot_mark) (rangy top q (record { few = omega arith }))
    (few_if (eqb m dot_dot_eq_mark) (rangy top q (record { few = omega arith }))
    (record { few = omega arith })))))

field_few : (h : Held) (m : ℕ) (q : Spot) → Few (field_move h m q)
unfolding field_move opened_parts
field_few h m q =
    few_if (eqb m comma_mark) (record { few = omega arith })
    (few_if (eqb m close_brace_mark) (record { few = omega arith })
    (record { few = omega arith }))

mark_few : (text : List ℕ) (s : ReadState) (h : Held) (top m : ℕ) (q : Spot) → Few (mark_move text s h top m q)
unfolding mark_move opened_parts
mark_few text Begin h top m q =
    few_if (eqb m or_mark) (record { few = omega arith })
    (few_if (follows m) (few_if (closes top m) (record { few = omega arith }) (record { few = omega arith }))
    (start_few text top m q))
mark_few text Expect h top m q = start_few text top m q
mark_few text BehindAmp h top m q = few_if (eqb m mut_mark) (record { few = omega arith }) (start_few text top m q)
mark_few text BehindRef h top m q = few_if (eqb m mut_mark) (record { few = omega arith }) (record { few = omega arith })
mark_few text BehindMut h top m q = record { few = omega arith }
mark_few text AtName h top m q =
    few_if (follows m) (record { few = omega arith })
    (few_if (eqb m bind_mark) (record { few = omega arith })
    (path_few h top m q))
mark_few text AtBound h top m q =
    few_if (follows m) (record { few = omega arith })
    (few_if (eqb m bind_mark) (record { few = omega arith })
    (record { few = omega arith }))
mark_few text AtPath h top m q = few_if (follows m) (record { few = omega arith }) (path_few h top m q)
mark_few text AtSep h top m q = record { few = omega arith }
mark_few text AtMinus h top m q =
    few_if (eqb m integer_mark)
    (fits text true q (few_if (eqb top 5) (record { few = omega arith }) (record { few = omega arith })))
    (record { few = omega arith })
mark_few text AtLiteral h top m q =
    few_if (follows m) (record { few = omega arith })
    (few_if (eqb m dot_dot_mark) (rangy top q (record { few = omega arith }))
    (few_if (eqb m dot_dot_eq_mark) (rangy top q (record { few = omega arith }))
    (record { few = omega arith })))
mark_few text AtDots h top m q = bound_few text m q _ (record { few = omega arith })
mark_few text AtFrom h top m q = bound_few text m q _ (few_if (follows m) (record { few = omega arith }) (record { few = omega arith }))
mark_few text AtTo h top m q = bound_few text m q _ (record { few = omega arith })
mark_few text AtToPath h top m q =
    few_if (follows m) (record { few = omega arith })
    (few_if (eqb m path_sep_mark) (record { few = omega arith })
    (record { few = omega arith }))
mark_few text AtAlt h top m q = record { few = omega arith }
mark_few text AtBrace h top m q =
    few_if (eqb m close_brace_mark) (record { few = omega arith })
    (few_if (eqb m dot_dot_mark) (record { few = omega arith })
    (few_if (eqb m integer_mark) (fits text false q (record { few = omega arith }))
    (few_if (eqb m ref_mark) (record { few = omega arith })
    (few_if (eqb m mut_mark) (record { few = omega arith })
    (record { few = omega arith })))))
mark_few text AtLabel h top m q = few_if (eqb m colon_mark) (record { few = omega arith }) (field_few h m q)
mark_few text AtIndex h top m q = few_if (eqb m colon_mark) (record { few = omega arith }) (record { few = omega arith })
mark_few text AtField h top m q = field_few h m q
mark_few text AtEtc h top m q = few_if (eqb m close_brace_mark) (record { few = omega arith }) (record { few = omega arith })

name_few : (text : List ℕ) (s : ReadState) (h : Held) (top : ℕ) (n : Identifier) → Few (name_move text s h top n)
unfolding name_move opened_parts
name_few text Begin h top n = record { few = omega arith }
name_few text Expect h top n = record { few = omega arith }
name_few text BehindAmp h top n = record { few = omega arith }
name_few text BehindRef h top n = record { few = omega arith }
name_few text BehindMut h top n = record { few = omega arith }
name_few text AtName h top n = record { few = omega arith }
name_few text AtBound h top n = record { few = omega arith }
name_few text AtPath h top n = record { few = omega arith }
name_few text AtSep h top n = record { few = omega arith }
name_few text AtMinus h top n = record { few = omega arith }
name_few text AtLiteral h top n = record { few = omega arith }
name_few text AtDots h top n = record { few = omega arith }
name_few text AtFrom h top n = record { few = omega arith }
name_few text AtTo h top n = record { few = omega arith }
name_few text AtToPath h top n = record { few = omega arith }
name_few text AtAlt h top n = record { few = omega arith }
name_few text AtBrace h top n = record { few = omega arith }
name_few text AtLabel h top n = record { few = omega arith }
name_few text AtIndex h top n = record { few = omega arith }
name_few text AtField h top n = record { few = omega arith }
name_few text AtEtc h top n = record { few = omega arith }

scalar_few : (s : ReadState) (v : ℕ) (q : Spot) → Few (scalar_move s v q)
unfolding scalar_move opened_parts
scalar_few Begin v q = record { few = omega arith }
scalar_few Expect v q = record { few = omega arith }
scalar_few BehindAmp v q = record { few = omega arith }
scalar_few BehindRef v q = record { few = omega arith }
scalar_few BehindMut v q = record { few = omega arith }
scalar_few AtName v q = record { few = omega arith }
scalar_few AtBound v q = record { few = omega arith }
scalar_few AtPath v q = record { few = omega arith }
scalar_few AtSep v q = record { few = omega arith }
scalar_few AtMinus v q = record { few = omega arith }
scalar_few AtLiteral v q = record { few = omega arith }
scalar_few AtDots v q = record { few = omega arith }
scalar_few AtFrom v q = record { few = omega arith }
scalar_few AtTo v q = record { few = omega arith }
scalar_few AtToPath v q = record { few = omega arith }
scalar_few AtAlt v q = record { few = omega arith }
scalar_few AtBrace v q = record { few = omega arith }
scalar_few AtLabel v q = record { few = omega arith }
scalar_few AtIndex v q = record { few = omega arith }
scalar_few AtField v q = record { few = omega arith }
scalar_few AtEtc v q = record { few = omega arith }

-- one token: what waits has at most a part more each
pub step_within : {n : ℕ} (text : List ℕ) (z : Parser) (t : Lexeme) → PartsWithin n z.nodes.waiting → CourseWithin (suc n) (stepped text z t)
unfolding stepped
step_within text z (name n) w =
    perform_within (name_move text z.state z.held (innermost_kind z.nodes.waiting) n) 0 0 z.nodes w
    (name_few text z.state z.held (innermost_kind z.nodes.waiting) n).few
step_within text z (scalar v q) w = perform_within (scalar_move z.state v q) 0 0 z.nodes w (scalar_few z.state v q).few
step_within text z (mark m q) w =
    perform_within (mark_move text z.state z.held (innermost_kind z.nodes.waiting) m q) m q.from z.nodes w
    (mark_few text z.state z.held (innermost_kind z.nodes.waiting) m q).few

-- where it goes on
pub parts_step :
    (text : List ℕ) (z : Parser) (t : Lexeme) (n : ℕ) (z' : Parser) → PartsWithin n z.nodes.waiting → stepped text z t ≡ going z' → PartsWithin (suc n) z'.nodes.waiting
unfolding waiting_of
parts_step text z t n z' w e = let h = (step_within text z t w).waits in rw e at h
