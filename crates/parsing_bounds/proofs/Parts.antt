-- A token gives what waits at most one part more each. Assumes nothing.
use Prim.Native.Nat.{ℕ, zero, suc, ◌≤◌}
use mathlib.Core.Path.{◌≡◌, refl}
use mathlib.Core.Bool.{Bool, true, false, not, cond, ◌&&◌, ◌||◌}
use mathlib.Core.List.{List, [], ◌∷◌}
use native.Mathlib.Omega.{arith}
use lib.Dec.{eqb}
use Rattle.pattern_grammar.specs.Lexemes.{end_mark, comma_mark, or_mark, close_bracket_mark, close_brace_mark}
use Rattle.pattern_syntax.specs.Written.{or_node, rest_node, range_node}
use Rattle.pattern_syntax.specs.Closing.{ClosedNode, closed_node}
use Rattle.parsing_machine.specs.Waiting.{Opened, opened, pushed, noted, node_kind, innermost_kind, closes, part_more, grown, begun_last, last_from, settle, shut_top, another_alt, last_alt, with_rest, rest_fits, is_bare_tuple}
use Rattle.parsing_machine.specs.Moves.{Move, halts, holds, opens, opens_two, opens_behind, mutates, shuts, shuts_before, shuts_range, shuts_range_before, shuts_open_range, shuts_rest, passes_on, shuts_top, adds_field, adds_last_field}
use Rattle.parsing_machine.specs.Parser.{Course, halted_at, mutated, item_last, ended_in, behind_alt, rest_item, rest_in, rest_read, open_range, perform}
use Rattle.parsing_bounds.specs.Parts.{parts_at, PartsWithin, waiting_of, opened_parts}

pub none_within : {n : ℕ} → PartsWithin n []
unfolding parts_at
none_within = record { fit = λ i. omega arith }

one_within : {n : ℕ} {f : ClosedNode} {fs : List ClosedNode} → f.parts ≤ n → PartsWithin n fs → PartsWithin n (f ∷ fs)
unfolding parts_at
one_within {n} {f} {fs} h w = record { fit = by }
  where
    by : (i : ℕ) → parts_at (f ∷ fs) i ≤ n
    by zero = h
    by (suc i) = w.fit i

pub first_within : {n : ℕ} {f : ClosedNode} {fs : List ClosedNode} → PartsWithin n (f ∷ fs) → f.parts ≤ n
unfolding parts_at
first_within w = w.fit 0

pub others_within : {n : ℕ} {f : ClosedNode} {fs : List ClosedNode} → PartsWithin n (f ∷ fs) → PartsWithin n fs
unfolding parts_at
others_within w = record { fit = λ i. w.fit (suc i) }

pub within_more : {n k : ℕ} {ws : List ClosedNode} → n ≤ k → PartsWithin n ws → PartsWithin k ws
within_more h w = record { fit = λ i. let p = w.fit i in omega (arith, p, h) }

one_more_lem : {n : ℕ} {ws : List ClosedNode} → PartsWithin n ws → PartsWithin (suc n) ws
one_more_lem w = within_more (omega arith) w

-- what waits when an Or that waits innermost has closed
behind_or : List ClosedNode → List ClosedNode
behind_or [] = []
behind_or (f ∷ fs) = cond (eqb (node_kind f.is) 14) fs (f ∷ fs)

-- an Or that waits innermost alone may have a part more
record Settled (n : ℕ) (ws : List ClosedNode) : Type 0 where
  all : PartsWithin (suc n) ws
  below : PartsWithin n (behind_or ws)

-- by cases
list_if : {n : ℕ} {xs ys : List ClosedNode} (b : Bool) → PartsWithin n xs → PartsWithin n ys → PartsWithin n (cond b xs ys)
list_if true h g = h
list_if false h g = g

settled_if : {n : ℕ} (b : Bool) (x y : Opened) → (b ≡ true → Settled n x.waiting) → (b ≡ false → Settled n y.waiting) → Settled n (cond b x y).waiting
settled_if true x y h g = h refl
settled_if false x y h g = g refl

behind_within : {n : ℕ} (ws : List ClosedNode) → PartsWithin n ws → PartsWithin n (behind_or ws)
unfolding behind_or
behind_within [] w = w
behind_within (f ∷ fs) w = list_if (eqb (node_kind f.is) 14) (others_within w) w

settled_same : {n : ℕ} (ws : List ClosedNode) → PartsWithin n ws → Settled n ws
settled_same ws w = record { all = one_more_lem w; below = behind_within ws w }

settled_or : {n : ℕ} (f : ClosedNode) (fs : List ClosedNode) → eqb (node_kind f.is) 14 ≡ true → PartsWithin n (f ∷ fs) → Settled n (part_more f ∷ fs)
unfolding behind_or part_more
settled_or f fs e w = record {
  all = one_within (let h = first_within w in omega (arith, h)) (one_more_lem (others_within w));
  below = rw e (others_within w);
}

settle_within : {n : ℕ} (ws cs : List ClosedNode) → PartsWithin n ws → Settled n (settle ws cs).waiting
unfolding settle
settle_within [] cs w = settled_same [] w
settle_within (f ∷ fs) cs w =
    settled_if (eqb (node_kind f.is) 7 || eqb (node_kind f.is) 8) _ _ (λ _. settle_within fs (part_more f ∷ cs) (others_within w))
    (λ _. settled_if (eqb (node_kind f.is) 14) _ _
    (λ e. settled_if (eqb f.parts 0) (opened fs (begun_last f.from cs)) (opened (part_more f ∷ fs) cs) (λ _. settled_same fs (others_within w))
    (λ _. settled_or f fs e w))
    (λ _. settled_same (f ∷ fs) w))

shut_within : {n : ℕ} (ws cs : List ClosedNode) → PartsWithin n ws → Settled n (shut_top ws cs).waiting
unfolding shut_top
shut_within [] cs w = settled_same [] w
shut_within (f ∷ fs) cs w = settle_within fs (f ∷ cs) (others_within w)

shut_grown_within : {n : ℕ} (ws cs : List ClosedNode) → PartsWithin n ws → Settled n (shut_top (grown ws) cs).waiting
unfolding shut_top grown
shut_grown_within [] cs w = settled_same [] w
shut_grown_within (f ∷ fs) cs w = settle_within fs (part_more f ∷ cs) (others_within w)

grown_within : {n : ℕ} (ws : List ClosedNode) → PartsWithin n ws → PartsWithin (suc n) (grown ws)
unfolding grown part_more
grown_within [] w = none_within
grown_within (f ∷ fs) w = one_within (let h = first_within w in omega (arith, h)) (one_more_lem (others_within w))

mutated_within : {n : ℕ} (ws : List ClosedNode) → PartsWithin n ws → PartsWithin n (mutated ws)
unfolding mutated
mutated_within [] w = w
mutated_within (f ∷ fs) w = one_within (first_within w) (others_within w)

-- of a course
pub record CourseWithin (n : ℕ) (c : Course) : Type 0 where
  pub waits : PartsWithin n (waiting_of c)

course_if : {n : ℕ} {x y : Course} (b : Bool) → CourseWithin n x → CourseWithin n y → CourseWithin n (cond b x y)
course_if true h g = h
course_if false h g = g

halted : {n at : ℕ} → CourseWithin n (halted_at at)
unfolding waiting_of
halted = record { waits = none_within }

item_within : {n : ℕ} (f : ClosedNode) (fs cs : List ClosedNode) → PartsWithin n fs → Settled n (item_last f fs cs).waiting
unfolding item_last
item_within f fs cs w =
    settled_if (is_bare_tuple f) _ _ (λ _. settle_within fs (begun_last f.from cs) w) (λ _. settle_within fs (part_more f ∷ cs) w)

ended_within : {n : ℕ} (m at : ℕ) (ws cs : List ClosedNode) → PartsWithin n ws → CourseWithin (suc n) (ended_in m at ws cs)
unfolding ended_in waiting_of part_more grown
ended_within m at [] cs w = course_if (eqb m end_mark) (record { waits = none_within }) halted
ended_within m at (f ∷ fs) cs w =
    course_if (eqb (node_kind f.is) 13)
    (course_if (eqb m comma_mark) (record { waits = grown_within fs (others_within w) })
    (course_if (eqb m close_brace_mark) (record { waits = (shut_grown_within fs (part_more f ∷ cs) (others_within w)).all })
    halted))
    (course_if (eqb m comma_mark) (record { waits = grown_within (f ∷ fs) w })
    (course_if (closes (node_kind f.is) m) (record { waits = (item_within f fs cs (others_within w)).all })
    halted))

another_within : {n : ℕ} (o : Opened) → PartsWithin (suc n) o.waiting → PartsWithin (suc n) (another_alt o).waiting
unfolding another_alt pushed
another_within {n} o w = by (eqb (innermost_kind o.waiting) 14)
  where
    by : (b : Bool) → PartsWithin (suc n) (cond b o (opened (closed_node (last_from o.closed) or_node 1 ∷ o.waiting) o.closed)).waiting
    by true = w
    by false = one_within (omega arith) w

last_behind : (ws cs : List ClosedNode) → (last_alt ws cs).waiting ≡ behind_or ws
unfolding last_alt behind_or
last_behind [] cs = refl
last_behind (f ∷ fs) cs = by (eqb (node_kind f.is) 14)
  where
    by : (b : Bool) → (cond b (opened fs (f ∷ cs)) (opened (f ∷ fs) cs)).waiting ≡ cond b fs (f ∷ fs)
    by true = refl
    by false = refl

last_within : {n : ℕ} (ws cs : List ClosedNode) → Settled n ws → PartsWithin n (last_alt ws cs).waiting
last_within ws cs s = rw (last_behind ws cs) s.below

alt_within : {n : ℕ} (m at : ℕ) (o : Opened) → Settled n o.waiting → CourseWithin (suc n) (behind_alt m at o)
unfolding behind_alt waiting_of
alt_within m at o s =
    course_if (eqb m or_mark) (record { waits = another_within o s.all })
    (ended_within m at (last_alt o.waiting o.closed).waiting (last_alt o.waiting o.closed).closed (last_within o.waiting o.closed s))

rest_parts : {n : ℕ} (f : ClosedNode) → f.parts ≤ n → (with_rest f).parts ≤ suc n
unfolding with_rest
rest_parts {n} f h = by (eqb (node_kind f.is) 11)
  where
    by : (b : Bool) → cond b (suc f.parts) f.parts ≤ suc n
    by true = omega (arith, h)
    by false = omega (arith, h)

rest_item_within : {n : ℕ} (m at : ℕ) (ws cs : List ClosedNode) → PartsWithin n ws → CourseWithin (suc n) (rest_item m at ws cs)
unfolding rest_item waiting_of
rest_item_within m at [] cs w = halted
rest_item_within m at (f ∷ fs) cs w =
    course_if (eqb m comma_mark) (record { waits = one_within (rest_parts f (first_within w)) (one_more_lem (others_within w)) })
    (course_if (closes (node_kind f.is) m) (record { waits = (settle_within fs (with_rest f ∷ cs) (others_within w)).all })
    halted)

rest_in_within : {n : ℕ} (dots m at : ℕ) (ws cs : List ClosedNode) → PartsWithin n ws → CourseWithin (suc n) (rest_in dots m at ws cs)
unfolding rest_in
rest_in_within dots m at [] cs w = halted
rest_in_within dots m at (f ∷ fs) cs w =
    course_if (eqb (node_kind f.is) 7) (rest_item_within m at fs (part_more f ∷ closed_node dots rest_node 0 ∷ cs) (others_within w))
    (course_if (eqb (node_kind f.is) 11) (rest_item_within m at (f ∷ fs) (closed_node dots rest_node 0 ∷ cs) w)
    (rest_item_within m at (f ∷ fs) cs w))

rest_within_lem : {n : ℕ} (m at : ℕ) (ws cs : List ClosedNode) → PartsWithin n ws → CourseWithin (suc n) (rest_read m at ws cs)
unfolding rest_read
rest_within_lem m at [] cs w = halted
rest_within_lem m at (f ∷ fs) cs w = course_if (rest_fits fs && not (eqb m or_mark)) (rest_in_within f.from m at fs cs (others_within w)) halted

open_within : {n : ℕ} (m at : ℕ) (ws cs : List ClosedNode) → PartsWithin n ws → CourseWithin (suc n) (open_range m at ws cs)
unfolding open_range
open_within m at [] cs w = halted
open_within m at (f ∷ fs) cs w =
    course_if (eqb (innermost_kind fs) 11 && (eqb m comma_mark || eqb m close_bracket_mark)) halted
    (alt_within m at (settle fs (closed_node f.from (range_node true false true) 1 ∷ cs))
    (settle_within fs (closed_node f.from (range_node true false true) 1 ∷ cs) (others_within w)))

-- a move that lets nodes with at most one part wait
pub perform_within : {n : ℕ} (move : Move) (m at : ℕ) (o : Opened) → PartsWithin n o.waiting → opened_parts move ≤ 1 → CourseWithin (suc n) (perform move m at o)
unfolding perform waiting_of opened_parts pushed noted
perform_within (halts place) m at o w h = halted
perform_within (holds s v) m at o w h = record { waits = one_more_lem w }
perform_within (opens s f) m at o w h = record { waits = one_within (omega (arith, h)) (one_more_lem w) }
perform_within (opens_two f g) m at o w h = record { waits = one_within (omega (arith, h)) (one_within (omega (arith, h)) (one_more_lem w)) }
perform_within (opens_behind s v f) m at o w h = record { waits = one_within (omega (arith, h)) (one_more_lem w) }
perform_within mutates m at o w h = record { waits = one_more_lem (mutated_within o.waiting w) }
perform_within (shuts v) m at o w h = record { waits = (settle_within o.waiting (v ∷ o.closed) w).all }
perform_within (shuts_before v) m at o w h =
    alt_within m at (settle o.waiting (v ∷ o.closed)) (settle_within o.waiting (v ∷ o.closed) w)
perform_within (shuts_range v) m at o w h = record { waits = (shut_grown_within o.waiting (v ∷ o.closed) w).all }
perform_within (shuts_range_before v) m at o w h =
    alt_within m at (shut_top (grown o.waiting) (v ∷ o.closed)) (shut_grown_within o.waiting (v ∷ o.closed) w)
perform_within shuts_open_range m at o w h = open_within m at o.waiting o.closed w
perform_within shuts_rest m at o w h = rest_within_lem m at o.waiting o.closed w
perform_within passes_on m at o w h = alt_within m at o (settled_same o.waiting w)
perform_within shuts_top m at o w h = record { waits = (shut_within o.waiting o.closed w).all }
perform_within (adds_field v f) m at o w h = record { waits = grown_within o.waiting w }
perform_within (adds_last_field v f) m at o w h = record { waits = (shut_grown_within o.waiting (f ∷ v ∷ o.closed) w).all }
