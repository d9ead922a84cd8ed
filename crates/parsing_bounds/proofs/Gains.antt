-- A move gains no more nodes than its token has bytes, with the one that is held. Assumes nothing.
use Prim.Native.Nat.{ℕ, suc, ◌+◌, ◌≤◌}
use mathlib.Core.Path.{◌≡◌, refl, ap}
use mathlib.Core.Bool.{Bool, true, false, cond}
use mathlib.Core.List.{List}
use native.Mathlib.Omega.{arith}
use lib.Dec.{eqb}
use borrow.Author.Tests.{eqb-true}
use Rattle.pattern_grammar.specs.Lexemes.{Spot, Identifier, Lexeme, name, scalar, mark, comma_mark, or_mark, close_brace_mark, ref_mark, mut_mark, true_mark, false_mark, underscore_mark, integer_mark, minus_mark, open_paren_mark, open_bracket_mark, open_brace_mark, and_mark, and_and_mark, bind_mark, colon_mark, path_sep_mark, dot_dot_mark, dot_dot_eq_mark, follows, strictly, wide}
use Rattle.parsing_machine.specs.declared.ReadState.{ReadState}
use Rattle.parsing_machine.specs.declared.ReadState.TheVariants.{Begin, Expect, BehindAmp, BehindRef, BehindMut, AtName, AtBound, AtPath, AtSep, AtMinus, AtLiteral, AtDots, AtFrom, AtTo, AtToPath, AtAlt, AtBrace, AtLabel, AtIndex, AtField, AtEtc}
use Rattle.parsing_machine.specs.Waiting.{innermost_kind, closes}
use Rattle.parsing_machine.specs.Moves.{Held, Move, halts, fit_move, ranged_move, start_move, bound_move, path_move, field_move, name_move, scalar_move, mark_move}
use Rattle.parsing_machine.specs.Parser.{Parser, going, stepped}
use Rattle.parsing_bounds.specs.Weights.{owed, weight, or_one, gain, mark_bytes, lexeme_bytes}
use Rattle.parsing_bounds.proofs.Sizes.{perform_weight}

-- what a move gains at most
record Gains (move : Move) (m k : ℕ) : Type 0 where
  most : gain move m ≤ k

gain_if : {m k : ℕ} {x y : Move} (b : Bool) → (b ≡ true → Gains x m k) → (b ≡ false → Gains y m k) → Gains (cond b x y) m k
gain_if true h g = h refl
gain_if false h g = g refl

-- a mark that is this one has its bytes
has : (m c k : ℕ) → eqb m c ≡ true → mark_bytes c ≡ k → k ≤ mark_bytes m
has m c k e f = let s = ap mark_bytes (eqb-true m c e) in omega (arith, s, f)

or_bytes : (m : ℕ) → or_one m ≤ mark_bytes m
unfolding or_one mark_bytes
or_bytes m = by (eqb m or_mark) refl
  where
    by : (b : Bool) → eqb m or_mark ≡ b → cond b 1 0 ≤ mark_bytes m
    by true e = has m or_mark 1 e refl
    by false e = omega arith

halting : {at m k : ℕ} → Gains (halts at) m k
unfolding gain
halting = record { most = omega arith }

fits : {m k : ℕ} {move : Move} (text : List ℕ) (minus : Bool) (q : Spot) → Gains move m k → Gains (fit_move text minus q move) m k
unfolding fit_move
fits text minus q h = gain_if (wide (strictly text) minus q) (λ e. halting) (λ e. h)

rangy : {m k : ℕ} {move : Move} (top : ℕ) (q : Spot) → Gains move m k → Gains (ranged_move top q move) m k
unfolding ranged_move
rangy top q h = gain_if (eqb top 8) (λ e. halting) (λ e. h)

start_gains : (text : List ℕ) (top m : ℕ) (q : Spot) → Gains (start_move text top m q) m (mark_bytes m)
unfolding start_move gain owed mark_bytes
start_gains text top m q =
    gain_if (eqb m ref_mark) (λ e. record { most = omega arith })
    (λ _. gain_if (eqb m mut_mark) (λ e. record { most = omega arith })
    (λ _. gain_if (eqb m true_mark) (λ e. record { most = has m true_mark 1 e refl })
    (λ _. gain_if (eqb m false_mark) (λ e. record { most = has m false_mark 1 e refl })
    (λ _. gain_if (eqb m underscore_mark) (λ e. record { most = has m underscore_mark 1 e refl })
    (λ _. gain_if (eqb m integer_mark) (λ e. fits text false q (record { most = has m integer_mark 1 e refl }))
    (λ _. gain_if (eqb m minus_mark) (λ e. record { most = has m minus_mark 1 e refl })
    (λ _. gain_if (eqb m open_paren_mark) (λ e. record { most = has m open_paren_mark 1 e refl })
    (λ _. gain_if (eqb m open_bracket_mark) (λ e. record { most = has m open_bracket_mark 1 e refl })
    (λ _. gain_if (eqb m and_mark) (λ e. record { most = has m and_mark 1 e refl })
    (λ _. gain_if (eqb m and_and_mark) (λ e. record { most = has m and_and_mark 2 e refl })
    (λ _. gain_if (eqb m dot_dot_mark) (λ e. rangy top q (record { most = has m dot_dot_mark 1 e refl }))
    (λ _. gain_if (eqb m dot_dot_eq_mark) (λ e. rangy top q (record { most = has m dot_dot_eq_mark 1 e refl }))
    (λ _. halting)))))))))))))

bound_gains : (text : List ℕ) (m : ℕ) (q : Spot) (other : Move) → Gains other m (mark_bytes m) → Gains (bound_move text m q other) m (mark_bytes m)
unfolding bound_move gain owed mark_bytes
bound_gains text m q other h =
    gain_if (eqb m true_mark) (λ e. record { most = has m true_mark 1 e refl })
    (λ _. gain_if (eqb m false_mark) (λ e. record { most = has m false_mark 1 e refl })
    (λ _. gain_if (eqb m integer_mark) (λ e. fits text false q (record { most = has m integer_mark 1 e refl }))
    (λ _. gain_if (eqb m minus_mark) (λ e. record { most = has m minus_mark 1 e refl })
    (λ _. h))))

-- behind a node that is held
one_more_lem : (m c : ℕ) → eqb m c ≡ true → mark_bytes c ≡ 1 → 2 ≤ suc (mark_bytes m)
one_more_lem m c e f = let h = has m c 1 e f in omega (arith, h)

before_gains : (m : ℕ) → 1 + or_one m ≤ suc (mark_bytes m)
before_gains m = let h = or_bytes m in omega (arith, h)

path_gains : (h : Held) (top m : ℕ) (q : Spot) → Gains (path_move h top m q) m (suc (mark_bytes m))
unfolding path_move gain owed mark_bytes
path_gains h top m q =
    gain_if (eqb m path_sep_mark) (λ e. record { most = omega arith })
    (λ _. gain_if (eqb m open_paren_mark) (λ e. record { most = omega arith })
    (λ _. gain_if (eqb m open_brace_mark) (λ e. record { most = omega arith })
    (λ _. gain_if (eqb m dot_dot_mark) (λ e. rangy top q (record { most = one_more_lem m dot_dot_mark e refl }))
    (λ _. gain_if (eqb m dot_dot_eq_mark) (λ e. rangy top q (record { most = one_more_lem m dot_dot_eq_mark e refl }))
    (λ _. halting)))))

field_gains : (h : Held) (m : ℕ) (q : Spot) → Gains (field_move h m q) m (suc (mark_bytes m))
unfolding field_move gain mark_bytes
field_gains h m q =
    gain_if (eqb m comma_mark) (λ e. record { most = one_more_lem m comma_mark e refl })
    (λ _. gain_if (eqb m close_brace_mark) (λ e. record { most = one_more_lem m close_brace_mark e refl })
    (λ _. halting))

-- the bytes of a mark, and one more where a node is held
allowed : ReadState → ℕ → ℕ
allowed Begin m = mark_bytes m
allowed Expect m = mark_bytes m
allowed BehindAmp m = mark_bytes m
allowed BehindRef m = mark_bytes m
allowed BehindMut m = mark_bytes m
allowed AtName m = suc (mark_bytes m)
allowed AtBound m = suc (mark_bytes m)
allowed AtPath m = suc (mark_bytes m)
allowed AtSep m = suc (mark_bytes m)
allowed AtMinus m = suc (mark_bytes m)
allowed AtLiteral m = suc (mark_bytes m)
allowed AtDots m = mark_bytes m
allowed AtFrom m = mark_bytes m
allowed AtTo m = mark_bytes m
allowed AtToPath m = suc (mark_bytes m)
allowed AtAlt m = mark_bytes m
allowed AtBrace m = mark_bytes m
allowed AtLabel m = suc (mark_bytes m)
allowed AtIndex m = suc (mark_bytes m)
allowed AtField m = suc (mark_bytes m)
allowed AtEtc m = mark_bytes m

allowed_owed : (s : ReadState) (m : ℕ) → allowed s m ≤ owed s + mark_bytes m
unfolding allowed owed
allowed_owed Begin m = omega arith
allowed_owed Expect m = omega arith
allowed_owed BehindAmp m = omega arith
allowed_owed BehindRef m = omega arith
allowed_owed BehindMut m = omega arith
allowed_owed AtName m = omega arith
allowed_owed AtBound m = omega arith
allowed_owed AtPath m = omega arith
allowed_owed AtSep m = omega arith
allowed_owed AtMinus m = omega arith
allowed_owed AtLiteral m = omega arith
allowed_owed AtDots m = omega arith
allowed_owed AtFrom m = omega arith
allowed_owed AtTo m = omega arith
allowed_owed AtToPath m = omega arith
allowed_owed AtAlt m = omega arith
allowed_owed AtBrace m = omega arith
allowed_owed AtLabel m = omega arith
allowed_owed AtIndex m = omega arith
allowed_owed AtField m = omega arith
allowed_owed AtEtc m = omega arith

mark_gains : (text : List ℕ) (s : ReadState) (h : Held) (top m : ℕ) (q : Spot) → Gains (mark_move text s h top m q) m (allowed s m)
unfolding mark_move allowed owed gain mark_bytes
mark_gains text Begin h top m q =
    gain_if (eqb m or_mark) (λ e. record { most = has m or_mark 1 e refl })
    (λ _. gain_if (follows m) (λ e. gain_if (closes top m) (λ _. record { most = omega arith }) (λ _. halting))
    (λ _. start_gains text top m q))
mark_gains text Expect h top m q = start_gains text top m q
mark_gains text BehindAmp h top m q = gain_if (eqb m mut_mark) (λ e. record { most = omega arith }) (λ _. start_gains text top m q)
mark_gains text BehindRef h top m q = gain_if (eqb m mut_mark) (λ e. record { most = omega arith }) (λ _. halting)
mark_gains text BehindMut h top m q = halting
mark_gains text AtName h top m q =
    gain_if (follows m) (λ e. record { most = before_gains m })
    (λ _. gain_if (eqb m bind_mark) (λ e. record { most = omega arith })
    (λ _. path_gains h top m q))
mark_gains text AtBound h top m q =
    gain_if (follows m) (λ e. record { most = before_gains m })
    (λ _. gain_if (eqb m bind_mark) (λ e. record { most = omega arith })
    (λ _. halting))
mark_gains text AtPath h top m q = gain_if (follows m) (λ e. record { most = before_gains m }) (λ _. path_gains h top m q)
mark_gains text AtSep h top m q = halting
mark_gains text AtMinus h top m q =
    gain_if (eqb m integer_mark)
    (λ e. fits text true q (gain_if (eqb top 5) (λ _. record { most = omega arith }) (λ _. record { most = omega arith })))
    (λ _. halting)
mark_gains text AtLiteral h top m q =
    gain_if (follows m) (λ e. record { most = before_gains m })
    (λ _. gain_if (eqb m dot_dot_mark) (λ e. rangy top q (record { most = one_more_lem m dot_dot_mark e refl }))
    (λ _. gain_if (eqb m dot_dot_eq_mark) (λ e. rangy top q (record { most = one_more_lem m dot_dot_eq_mark e refl }))
    (λ _. halting)))
mark_gains text AtDots h top m q = bound_gains text m q _ (record { most = omega arith })
mark_gains text AtFrom h top m q = bound_gains text m q _ (gain_if (follows m) (λ _. record { most = or_bytes m }) (λ _. halting))
mark_gains text AtTo h top m q = bound_gains text m q _ halting
mark_gains text AtToPath h top m q =
    gain_if (follows m) (λ e. record { most = before_gains m })
    (λ _. gain_if (eqb m path_sep_mark) (λ e. record { most = omega arith })
    (λ _. halting))
mark_gains text AtAlt h top m q = record { most = or_bytes m }
mark_gains text AtBrace h top m q =
    gain_if (eqb m close_brace_mark) (λ e. record { most = omega arith })
    (λ _. gain_if (eqb m dot_dot_mark) (λ e. record { most = omega arith })
    (λ _. gain_if (eqb m integer_mark) (λ e. fits text false q (record { most = has m integer_mark 1 e refl }))
    (λ _. gain_if (eqb m ref_mark) (λ e. record { most = omega arith })
    (λ _. gain_if (eqb m mut_mark) (λ e. record { most = omega arith })
    (λ _. halting)))))
mark_gains text AtLabel h top m q = gain_if (eqb m colon_mark) (λ e. record { most = omega arith }) (λ _. field_gains h m q)
mark_gains text AtIndex h top m q = gain_if (eqb m colon_mark) (λ e. record { most = omega arith }) (λ _. halting)
mark_gains text AtField h top m q = field_gains h m q
mark_gains text AtEtc h top m q = gain_if (eqb m close_brace_mark) (λ e. record { most = omega arith }) (λ _. halting)

owed_one : (b : Bool) (x y : ReadState) (k : ℕ) → owed x ≤ k → owed y ≤ k → owed (cond b x y) ≤ k
owed_one true x y k h g = h
owed_one false x y k h g = g

-- neither a name nor a char looks at a mark
name_gains : (text : List ℕ) (s : ReadState) (h : Held) (top : ℕ) (n : Identifier) (m : ℕ) → Gains (name_move text s h top n) m (owed s + 1)
unfolding name_move owed gain
name_gains text Begin h top n m = record { most = omega arith }
name_gains text Expect h top n m = record { most = omega arith }
name_gains text BehindAmp h top n m = record { most = omega arith }
name_gains text BehindRef h top n m = record { most = owed_one (eqb top 12) AtField AtBound 1 (omega arith) (omega arith) }
name_gains text BehindMut h top n m = record { most = owed_one (eqb top 12) AtField AtBound 1 (omega arith) (omega arith) }
name_gains text AtName h top n m = halting
name_gains text AtBound h top n m = halting
name_gains text AtPath h top n m = halting
name_gains text AtSep h top n m = record { most = owed_one (eqb top 5) AtToPath AtPath 2 (omega arith) (omega arith) }
name_gains text AtMinus h top n m = halting
name_gains text AtLiteral h top n m = halting
name_gains text AtDots h top n m = record { most = omega arith }
name_gains text AtFrom h top n m = record { most = omega arith }
name_gains text AtTo h top n m = record { most = omega arith }
name_gains text AtToPath h top n m = halting
name_gains text AtAlt h top n m = halting
name_gains text AtBrace h top n m = record { most = omega arith }
name_gains text AtLabel h top n m = halting
name_gains text AtIndex h top n m = halting
name_gains text AtField h top n m = halting
name_gains text AtEtc h top n m = halting

scalar_gains : (s : ReadState) (v : ℕ) (q : Spot) (m : ℕ) → Gains (scalar_move s v q) m (owed s + 1)
unfolding scalar_move owed gain
scalar_gains Begin v q m = record { most = omega arith }
scalar_gains Expect v q m = record { most = omega arith }
scalar_gains BehindAmp v q m = record { most = omega arith }
scalar_gains BehindRef v q m = halting
scalar_gains BehindMut v q m = halting
scalar_gains AtName v q m = halting
scalar_gains AtBound v q m = halting
scalar_gains AtPath v q m = halting
scalar_gains AtSep v q m = halting
scalar_gains AtMinus v q m = halting
scalar_gains AtLiteral v q m = halting
scalar_gains AtDots v q m = record { most = omega arith }
scalar_gains AtFrom v q m = record { most = omega arith }
scalar_gains AtTo v q m = record { most = omega arith }
scalar_gains AtToPath v q m = halting
scalar_gains AtAlt v q m = halting
scalar_gains AtBrace v q m = halting
scalar_gains AtLabel v q m = halting
scalar_gains AtIndex v q m = halting
scalar_gains AtField v q m = halting
scalar_gains AtEtc v q m = halting

-- what a move gains, in numbers
pub name_weighs : (text : List ℕ) (s : ReadState) (h : Held) (top : ℕ) (n : Identifier) (m : ℕ) → gain (name_move text s h top n) m ≤ owed s + 1
name_weighs text s h top n m = (name_gains text s h top n m).most

pub scalar_weighs : (s : ReadState) (v : ℕ) (q : Spot) (m : ℕ) → gain (scalar_move s v q) m ≤ owed s + 1
scalar_weighs s v q m = (scalar_gains s v q m).most

pub mark_weighs : (text : List ℕ) (s : ReadState) (h : Held) (top m : ℕ) (q : Spot) → gain (mark_move text s h top m q) m ≤ owed s + mark_bytes m
mark_weighs text s h top m q =
    let g = (mark_gains text s h top m q).most in
    let a = allowed_owed s m in
    omega (arith, g, a)

-- one token: what waits, has closed or is held grows by no more than the token's bytes
pub step_weight : (text : List ℕ) (z : Parser) (t : Lexeme) → weight (stepped text z t) ≤ weight (going z) + lexeme_bytes t
unfolding stepped weight lexeme_bytes
step_weight text z (name n) =
    let h = perform_weight (name_move text z.state z.held (innermost_kind z.nodes.waiting) n) 0 0 z.nodes in
    let g = name_weighs text z.state z.held (innermost_kind z.nodes.waiting) n 0 in
    omega (arith, h, g)
step_weight text z (scalar v q) =
    let h = perform_weight (scalar_move z.state v q) 0 0 z.nodes in
    let g = scalar_weighs z.state v q 0 in
    omega (arith, h, g)
step_weight text z (mark m q) =
    let h = perform_weight (mark_move text z.state z.held (innermost_kind z.nodes.waiting) m q) m q.from z.nodes in
    let g = mark_weighs text z.state z.held (innermost_kind z.nodes.waiting) m q in
    omega (arith, h, g)
