-- A move adds no more nodes than it gains. Assumes nothing.
use Prim.Native.Nat.{ℕ, suc, ◌+◌, ◌≤◌}
use mathlib.Core.Path.{◌≡◌, refl}
use mathlib.Core.Bool.{Bool, true, false, not, cond, ◌&&◌, ◌||◌}
use mathlib.Core.List.{List, [], ◌∷◌}
use native.Mathlib.Omega.{arith}
use lib.Dec.{eqb}
use lib.ListN.{length}
use Rattle.pattern_grammar.specs.Lexemes.{end_mark, comma_mark, or_mark, close_bracket_mark, close_brace_mark}
use Rattle.pattern_syntax.specs.Written.{rest_node, range_node}
use Rattle.pattern_syntax.specs.Closing.{ClosedNode, closed_node}
use Rattle.parsing_machine.specs.declared.ReadState.TheVariants.{Expect}
use Rattle.parsing_machine.specs.Waiting.{Opened, pushed, noted, node_kind, innermost_kind, closes, part_more, grown, begun_last, settle, shut_top, another_alt, last_alt, with_rest, rest_fits, is_bare_tuple}
use Rattle.parsing_machine.specs.Moves.{nothing_held, Move, halts, holds, opens, opens_two, opens_behind, mutates, shuts, shuts_before, shuts_range, shuts_range_before, shuts_open_range, shuts_rest, passes_on, shuts_top, adds_field, adds_last_field}
use Rattle.parsing_machine.specs.Parser.{Course, going_in, ended, mutated, item_last, ended_in, behind_alt, rest_item, rest_in, rest_read, open_range, perform}
use Rattle.parsing_bounds.specs.Weights.{owed, opened_size, weight, or_one, gain}

size_if : (b : Bool) (x y : Opened) (k : ℕ) → opened_size x ≤ k → opened_size y ≤ k → opened_size (cond b x y) ≤ k
size_if true x y k h g = h
size_if false x y k h g = g

weight_if : (b : Bool) (x y : Course) (k : ℕ) → weight x ≤ k → weight y ≤ k → weight (cond b x y) ≤ k
weight_if true x y k h g = h
weight_if false x y k h g = g

begun_long : (at : ℕ) (ws : List ClosedNode) → length (begun_last at ws) ≡ length ws
unfolding begun_last
begun_long at [] = refl
begun_long at (w ∷ ws) = refl

grown_long : (ws : List ClosedNode) → length (grown ws) ≡ length ws
unfolding grown
grown_long [] = refl
grown_long (w ∷ ws) = refl

mutated_long : (ws : List ClosedNode) → length (mutated ws) ≡ length ws
unfolding mutated
mutated_long [] = refl
mutated_long (w ∷ ws) = refl

settle_size : (ws cs : List ClosedNode) → opened_size (settle ws cs) ≤ length ws + length cs
unfolding settle opened_size
settle_size [] cs = omega arith
settle_size (f ∷ fs) cs =
    size_if (eqb (node_kind f.is) 7 || eqb (node_kind f.is) 8) _ _ _ (let h = settle_size fs (part_more f ∷ cs) in omega (arith, h))
    (size_if (eqb (node_kind f.is) 14) _ _ _
    (size_if (eqb f.parts 0) _ _ _ (let h = begun_long f.from cs in omega (arith, h)) (omega arith))
    (omega arith))

shut_size : (ws cs : List ClosedNode) → opened_size (shut_top ws cs) ≤ length ws + length cs
unfolding shut_top opened_size
shut_size [] cs = omega arith
shut_size (f ∷ fs) cs = let h = settle_size fs (f ∷ cs) in omega (arith, h)

shut_grown : (ws cs : List ClosedNode) → opened_size (shut_top (grown ws) cs) ≤ length ws + length cs
shut_grown ws cs = let h = shut_size (grown ws) cs in let g = grown_long ws in omega (arith, h, g)

last_size : (ws cs : List ClosedNode) → opened_size (last_alt ws cs) ≤ length ws + length cs
unfolding last_alt opened_size
last_size [] cs = omega arith
last_size (f ∷ fs) cs = size_if (eqb (node_kind f.is) 14) _ _ _ (omega arith) (omega arith)

ended_weight : (m at : ℕ) (ws cs : List ClosedNode) → weight (ended_in m at ws cs) ≤ length ws + length cs
unfolding ended_in weight opened_size owed item_last
ended_weight m at [] cs = weight_if (eqb m end_mark) _ _ _ (omega arith) (omega arith)
ended_weight m at (f ∷ fs) cs =
    weight_if (eqb (node_kind f.is) 13) _ _ _
    (weight_if (eqb m comma_mark) _ _ _ (let g = grown_long fs in omega (arith, g))
    (weight_if (eqb m close_brace_mark) _ _ _ (let h = shut_grown fs (part_more f ∷ cs) in omega (arith, h))
    (omega arith)))
    (weight_if (eqb m comma_mark) _ _ _ (omega arith)
    (weight_if (closes (node_kind f.is) m) _ _ _
    (let h = size_if (is_bare_tuple f) (settle fs (begun_last f.from cs)) (settle fs (part_more f ∷ cs)) (suc (length fs + length cs))
    (let h = settle_size fs (begun_last f.from cs) in let g = begun_long f.from cs in omega (arith, h, g))
    (let h = settle_size fs (part_more f ∷ cs) in omega (arith, h)) in
    omega (arith, h))
    (omega arith)))

another_size : (o : Opened) → opened_size (another_alt o) ≤ suc (opened_size o)
unfolding another_alt opened_size pushed
another_size o = size_if (eqb (innermost_kind o.waiting) 14) _ _ _ (omega arith) (omega arith)

behind_weight : (m at : ℕ) (o : Opened) → weight (behind_alt m at o) ≤ opened_size o + or_one m
unfolding behind_alt weight or_one owed opened_size
behind_weight m at o = by (eqb m or_mark)
  where
    by :
        (b : Bool)
        → weight (cond b (going_in Expect nothing_held (another_alt o)) (ended m at (last_alt o.waiting o.closed))) ≤ length o.waiting + length o.closed + cond b 1 0
    by true = let h = another_size o in omega (arith, h)
    by false =
        let h = ended_weight m at (last_alt o.waiting o.closed).waiting (last_alt o.waiting o.closed).closed in
        let g = last_size o.waiting o.closed in
        omega (arith, h, g)

rest_item_weight : (m at : ℕ) (ws cs : List ClosedNode) → weight (rest_item m at ws cs) ≤ length ws + length cs
unfolding rest_item weight opened_size owed
rest_item_weight m at [] cs = omega arith
rest_item_weight m at (f ∷ fs) cs =
    weight_if (eqb m comma_mark) _ _ _ (omega arith)
    (weight_if (closes (node_kind f.is) m) _ _ _ (let h = settle_size fs (with_rest f ∷ cs) in omega (arith, h))
    (omega arith))

rest_in_weight : (dots m at : ℕ) (ws cs : List ClosedNode) → weight (rest_in dots m at ws cs) ≤ suc (length ws + length cs)
unfolding rest_in weight
rest_in_weight dots m at [] cs = omega arith
rest_in_weight dots m at (f ∷ fs) cs =
    weight_if (eqb (node_kind f.is) 7) _ _ _ (let h = rest_item_weight m at fs (part_more f ∷ closed_node dots rest_node 0 ∷ cs) in omega (arith, h))
    (weight_if (eqb (node_kind f.is) 11) _ _ _ (let h = rest_item_weight m at (f ∷ fs) (closed_node dots rest_node 0 ∷ cs) in omega (arith, h))
    (let h = rest_item_weight m at (f ∷ fs) cs in omega (arith, h)))

rest_weight : (m at : ℕ) (ws cs : List ClosedNode) → weight (rest_read m at ws cs) ≤ length ws + length cs
unfolding rest_read weight
rest_weight m at [] cs = omega arith
rest_weight m at (f ∷ fs) cs =
    weight_if (rest_fits fs && not (eqb m or_mark)) _ _ _ (let h = rest_in_weight f.from m at fs cs in omega (arith, h)) (omega arith)

open_weight : (m at : ℕ) (ws cs : List ClosedNode) → weight (open_range m at ws cs) ≤ length ws + length cs + or_one m
unfolding open_range weight
open_weight m at [] cs = omega arith
open_weight m at (f ∷ fs) cs =
    weight_if (eqb (innermost_kind fs) 11 && (eqb m comma_mark || eqb m close_bracket_mark)) _ _ _ (omega arith)
    (let w : ClosedNode = closed_node f.from (range_node true false true) 1 in
    let h = behind_weight m at (settle fs (w ∷ cs)) in
    let g = settle_size fs (w ∷ cs) in
    omega (arith, h, g))

-- a move
pub perform_weight : (move : Move) (m at : ℕ) (o : Opened) → weight (perform move m at o) ≤ opened_size o + gain move m
unfolding perform weight gain opened_size owed pushed noted
perform_weight (halts place) m at o = omega arith
perform_weight (holds s h) m at o = omega arith
perform_weight (opens s f) m at o = omega arith
perform_weight (opens_two f g) m at o = omega arith
perform_weight (opens_behind s w f) m at o = omega arith
perform_weight mutates m at o = let h = mutated_long o.waiting in omega (arith, h)
perform_weight (shuts w) m at o = let h = settle_size o.waiting (w ∷ o.closed) in omega (arith, h)
perform_weight (shuts_before w) m at o =
    let h = behind_weight m at (settle o.waiting (w ∷ o.closed)) in
    let g = settle_size o.waiting (w ∷ o.closed) in
    omega (arith, h, g)
perform_weight (shuts_range w) m at o = let h = shut_grown o.waiting (w ∷ o.closed) in omega (arith, h)
perform_weight (shuts_range_before w) m at o =
    let h = behind_weight m at (shut_top (grown o.waiting) (w ∷ o.closed)) in
    let g = shut_grown o.waiting (w ∷ o.closed) in
    omega (arith, h, g)
perform_weight shuts_open_range m at o = open_weight m at o.waiting o.closed
perform_weight shuts_rest m at o = let h = rest_weight m at o.waiting o.closed in omega (arith, h)
perform_weight passes_on m at o = behind_weight m at o
perform_weight shuts_top m at o = let h = shut_size o.waiting o.closed in omega (arith, h)
perform_weight (adds_field w f) m at o = let h = grown_long o.waiting in omega (arith, h)
perform_weight (adds_last_field w f) m at o = let h = shut_grown o.waiting (f ∷ w ∷ o.closed) in omega (arith, h)
