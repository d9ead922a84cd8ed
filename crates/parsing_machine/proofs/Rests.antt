-- `..` that no bound follows and `a..`, in the parser as in the grammar's machine. Assumes nothing.
use Prim.Native.Nat.{ℕ, suc}
use mathlib.Core.Path.{◌≡◌, refl, sym, ap, ◌∙◌}
use mathlib.Core.Bool.{Bool, true, false, not, cond, ◌&&◌, ◌||◌, true≢false, false≢true}
use mathlib.Core.Option.{Option, none, some}
use mathlib.Core.List.{List, [], ◌∷◌}
use lib.Dec.{eqb}
use borrow.Author.Tests.{not-true, eqb-true}
use Rattle.image.proofs.Bools.{and_left, and_right}
use Rattle.pattern_grammar.specs.Lexemes.{Spot, comma_mark, or_mark, close_bracket_mark, strictly}
use Rattle.pattern_grammar.specs.Trees.{RangeBound, exclusive, BoundName, single, double, ListHead, tuple_at, struct_at, slice_at, closer, Pattern, alone, plain, upward, rest, ident_at, list_to, ListItems, no_item, item}
use Rattle.pattern_grammar.specs.Admitted.{RestRoom, no_rest, bare_rest, bound_rest, fits_rest, behind_name, behind_bar, list_room, has_rest, item_room, is_rest, is_rest_alt, is_rest_plain, is_none, open_at, upward_at, open_item_at, when_strict, bound_at}
use Rattle.pattern_grammar.specs.Machine.{ForPlain, any_alt, behind_amp, ForAlt, first_alt, next_alt, behind_at, whole_text, for_item, for_field, Closed, expect, up_to_head, from_head, Reading, failed, close_alt, room_in, room_behind, room_of, rest_stands, unless_open, behind, after}
use Rattle.pattern_syntax.specs.Written.{range_node, part_count}
use Rattle.pattern_syntax.specs.Reduced.{head_at, list_node, item_count, or_else, before_rest, is_part, is_group, one_of, alternatives, written_alt, written_plain, written_ident, written_items, dots_at, bound_in}
use Rattle.pattern_syntax.specs.Closing.{ClosedNode, closed_node}
use Rattle.parsing_machine.specs.declared.ReadState.TheVariants.{Begin, Expect}
use Rattle.parsing_machine.specs.Moves.{nothing_held}
use Rattle.parsing_machine.specs.Waiting.{opened, pushed, noted, node_kind, node_before, innermost_kind, closes, part_more, settle, node_with_rest, with_rest, takes_rest, slice_takes_rest, rest_fits}
use Rattle.parsing_machine.specs.Parser.{Course, halted_at, going_in, rest_item, rest_in, rest_read, open_range, ended_in, behind_alt}
use Rattle.parsing_machine.proofs.Encoding.{closed_onto, parts_onto, parts_noted, opened_plain, opened_alt, opened_pattern, opened_range, opened_behind, encode, steady}
use Rattle.parsing_machine.proofs.Settling.{settle_alt, calm, calm_plain}
use Rattle.parsing_machine.proofs.Agreeing.{Agrees, plainly, either, halted, shut_plain}
use Rattle.parsing_machine.proofs.Behind.{another, last_one, open_where, never_open, behind_agrees, closes_list}

-- where there is no room it fails where it stands
no_room :
    {text : List ℕ} {at : ℕ} (x : Reading) (fits b : Bool) → fits ≡ false → Agrees text (cond ((fits && b) || false) x (failed at)) (halted_at at)
no_room x true b e = absurd (true≢false e)
no_room x false b e = halted

-- behind two names there is none
twice : (room : RestRoom) → fits_rest (behind_name (behind_name room)) ≡ false
unfolding fits_rest behind_name
twice no_rest = refl
twice bare_rest = refl
twice bound_rest = refl

-- and none behind a name in a tuple
named_bare : (b : Bool) → fits_rest (behind_name (cond b no_rest bare_rest)) ≡ false
unfolding fits_rest behind_name
named_bare true = refl
named_bare false = refl

-- a list that has no rest counts its items by its parts
or_none : (x : Option ℕ) (b : Bool) (n : ℕ) → is_none (or_else x (cond b (some n) none)) ≡ (is_none x && not b)
unfolding is_none or_else
or_none none true n = refl
or_none none false n = refl
or_none (some m) b n = refl

not_or : (a b : Bool) → not (a || b) ≡ (not a && not b)
not_or true b = refl
not_or false b = refl

pub rest_none : (is : ListItems) → is_none (before_rest is) ≡ not (has_rest is)
unfolding before_rest has_rest is_none
rest_none no_item = refl
rest_none (item is p c) =
    or_none (before_rest is) (is_rest p) (item_count is) ∙ (ap (λ x. x && not (is_rest p)) (rest_none is) ∙ sym (not_or (has_rest is) (is_rest p)))

is_none_lem : (x : Option ℕ) → is_none x ≡ true → x ≡ none
unfolding is_none
is_none_lem none e = refl
is_none_lem (some n) e = absurd (false≢true e)

or_left : (a b : Bool) → (a || b) ≡ false → a ≡ false
or_left true b e = absurd (true≢false e)
or_left false b e = refl

or_right : (a b : Bool) → (a || b) ≡ false → b ≡ false
or_right true b e = absurd (true≢false e)
or_right false b e = e

part_when : (h : ListHead) (p : Pattern) → is_rest p ≡ false → is_part h p ≡ true
unfolding is_part
part_when (tuple_at q) p e = rw e refl
part_when (struct_at n q) p e = rw e refl
part_when (slice_at q) p e = refl

items_parts : (text : List ℕ) (h : ListHead) (is : ListItems) → has_rest is ≡ false → part_count (written_items text h is) ≡ item_count is
unfolding written_items part_count item_count has_rest
items_parts text h no_item e = refl
items_parts text h (item is p c) e =
    rw (part_when h p (or_right (has_rest is) (is_rest p) e)) (ap suc (items_parts text h is (or_left (has_rest is) (is_rest p) e)))

-- a list with its rest
abbrev restless : List ℕ → ListHead → ListItems → ClosedNode
restless text h is = closed_node (head_at h) (list_node text h (before_rest is)) (part_count (written_items text h is))

-- the pattern that is a rest
abbrev bare : Spot → Pattern
bare d = alone none (plain (rest d))

abbrev bound : BoundName → Spot → Spot → Pattern
bound b c d = alone none (plain (ident_at b c (plain (rest d))))

before_rest_lem : (is : ListItems) (p : Pattern) (q : Spot) → has_rest is ≡ false → is_rest p ≡ true → before_rest (item is p q) ≡ some (item_count is)
unfolding before_rest or_else
before_rest_lem is p q e f = rw (is_none_lem (before_rest is) (rest_none is ∙ ap not e)) (rw f refl)

-- the list behind its rest
with_rest_lem :
    (text : List ℕ) (h : ListHead) (is : ListItems) (p : Pattern) (q : Spot) → has_rest is ≡ false → is_rest p ≡ true
    → with_rest (restless text h is) ≡ closed_node (head_at h) (list_node text h (before_rest (item is p q))) (part_count (written_items text h (item is p q)))
unfolding with_rest node_kind node_with_rest list_node written_items is_part part_count
with_rest_lem text (tuple_at c) is p q e f = rw (before_rest_lem is p q e f) (rw f (rw (sym (items_parts text (tuple_at c) is e)) refl))
with_rest_lem text (struct_at n c) is p q e f = rw (before_rest_lem is p q e f) (rw f (rw (sym (items_parts text (struct_at n c) is e)) refl))
with_rest_lem text (slice_at c) is p q e f = rw (before_rest_lem is p q e f) (rw (sym (items_parts text (slice_at c) is e)) refl)

no_group : (h : ListHead) (is : ListItems) (p : Pattern) → is_rest p ≡ true → is_group h is p ≡ false
unfolding is_group
no_group (tuple_at q) no_item p f = rw f refl
no_group (tuple_at q) (item is o c) p f = refl
no_group (struct_at n q) is p f = refl
no_group (slice_at q) is p f = refl

rest_shut :
    (text : List ℕ) (h : ListHead) (is : ListItems) (p : Pattern) (q : Spot) (before : List ClosedNode) → has_rest is ≡ false → is_rest p ≡ true
    → closed_onto (written_plain text (list_to h is p q)) before ≡ with_rest (restless text h is) ∷ parts_onto (written_items text h (item is p q)) before
unfolding written_plain closed_onto written_items
rest_shut text h is p q before e f = rw (no_group h is p f) (rw (with_rest_lem text h is p q e f) refl)

-- a mark behind a list's rest
rest_item_lem :
    (text : List ℕ) (h : ListHead) (is : ListItems) (s : ForPlain) (p : Pattern) (m : ℕ) (q : Spot)
    → has_rest is ≡ false → is_rest p ≡ true → open_at p ≡ none → eqb m or_mark ≡ false
    → Agrees text (behind (strictly text) p (for_item h is s) m q)
    (rest_item m q.from (restless text h is ∷ (opened_plain text s).waiting) (parts_onto (written_items text h (item is p q)) (opened_plain text s).closed))
unfolding behind unless_open open_where rest_item encode steady opened_pattern pushed parts_noted is_rest_plain
rest_item_lem text h is s p m q e f g b =
    rw b
    (rw (never_open text (for_item h is s) p g)
    (rw (closes_list text h (before_rest is) m)
    (either (eqb m comma_mark)
    (plainly
    (ap (λ x. going_in Begin nothing_held (opened (x ∷ (opened_plain text s).waiting) (parts_onto (written_items text h (item is p q)) (opened_plain text s).closed)))
    (sym (with_rest_lem text h is p q e f)))
    refl)
    (either (eqb m (closer h)) (rw (sym (rest_shut text h is p q (opened_plain text s).closed e f)) (shut_plain text s (list_to h is p q) refl))
    halted))))

-- room is told alike
chosen :
    {text : List ℕ} (x : Reading) (c : Course) (at : ℕ) (f g b : Bool) → f ≡ g → (g ≡ true → b ≡ false → Agrees text x c)
    → Agrees text (cond ((f && not b) || false) x (failed at)) (cond (g && not b) c (halted_at at))
chosen x c at true true true e h = halted
chosen x c at true true false e h = h refl refl
chosen x c at false false b e h = halted
chosen x c at true false b e h = absurd (true≢false e)
chosen x c at false true b e h = absurd (false≢true e)

bare_room : (has : Bool) → fits_rest (cond has no_rest bare_rest) ≡ not has
unfolding fits_rest
bare_room true = refl
bare_room false = refl

bound_room : (has : Bool) → fits_rest (cond has no_rest bound_rest) ≡ not has
unfolding fits_rest
bound_room true = refl
bound_room false = refl

named_room : (has : Bool) → fits_rest (behind_name (cond has no_rest bound_rest)) ≡ not has
unfolding fits_rest behind_name
named_room true = refl
named_room false = refl

has_none : (is : ListItems) → is_none (before_rest is) ≡ true → has_rest is ≡ false
has_none is e = not-true (has_rest is) (sym (rest_none is) ∙ e)

-- `..` that no bound follows
pub rest_agrees :
    (text : List ℕ) (d : Spot) (l : ForAlt) (m : ℕ) (q : Spot)
    → Agrees text (cond (rest_stands (strictly text) l m) (after (strictly text) (close_alt (plain (rest d)) l) m q) (failed d.from))
    (rest_read m q.from (opened_range text (up_to_head (exclusive d)) l).waiting (opened_range text (up_to_head (exclusive d)) l).closed)
unfolding rest_stands rest_read rest_fits rest_in takes_rest slice_takes_rest opened_range opened_alt opened_plain opened_pattern pushed parts_noted node_kind node_before list_node dots_at room_in room_of room_behind behind_bar item_room list_room close_alt fits_rest behind_name parts_onto closed_onto written_items is_part is_rest is_rest_alt one_of alternatives written_alt written_ident part_count part_more open_at upward_at
rest_agrees text d (first_alt none whole_text) m q = halted
rest_agrees text d (first_alt none (for_item (tuple_at c) is s)) m q =
    chosen _ _ d.from _ _ (eqb m or_mark) (bare_room (has_rest is) ∙ sym (rest_none is))
    (λ e b. rest_item_lem text (tuple_at c) is s (bare d) m q (has_none is e) refl refl b)
rest_agrees text d (first_alt none (for_item (struct_at n c) is s)) m q =
    chosen _ _ d.from _ _ (eqb m or_mark) (bare_room (has_rest is) ∙ sym (rest_none is))
    (λ e b. rest_item_lem text (struct_at n c) is s (bare d) m q (has_none is e) refl refl b)
rest_agrees text d (first_alt none (for_item (slice_at c) is s)) m q =
    chosen _ _ d.from _ _ (eqb m or_mark) (bound_room (has_rest is) ∙ sym (rest_none is))
    (λ e b. rest_item_lem text (slice_at c) is s (bare d) m q (has_none is e) refl refl b)
rest_agrees text d (first_alt none (for_field h fs key c s)) m q = halted
rest_agrees text d (first_alt (some c) o) m q = halted
rest_agrees text d (next_alt p c o) m q = halted
rest_agrees text d (behind_at b c (behind_amp (single a) n s)) m q = halted
rest_agrees text d (behind_at b c (behind_amp (double a) n s)) m q = halted
rest_agrees text d (behind_at b c (any_alt (first_alt none whole_text))) m q = halted
rest_agrees text d (behind_at b c (any_alt (first_alt none (for_item (tuple_at x) is s)))) m q =
    no_room _ _ (not (eqb m or_mark)) (named_bare (has_rest is))
rest_agrees text d (behind_at b c (any_alt (first_alt none (for_item (struct_at n x) is s)))) m q =
    no_room _ _ (not (eqb m or_mark)) (named_bare (has_rest is))
rest_agrees text d (behind_at b c (any_alt (first_alt none (for_item (slice_at x) is s)))) m q =
    chosen _ _ d.from _ _ (eqb m or_mark) (named_room (has_rest is) ∙ sym (rest_none is))
    (λ e b'. rest_item_lem text (slice_at x) is s (bound b c d) m q (has_none is e) refl refl b')
rest_agrees text d (behind_at b c (any_alt (first_alt none (for_field h fs key x s)))) m q = halted
rest_agrees text d (behind_at b c (any_alt (first_alt (some x) o))) m q = halted
rest_agrees text d (behind_at b c (any_alt (next_alt p x o))) m q = halted
rest_agrees text d (behind_at b c (any_alt (behind_at e x s))) m q = no_room _ _ (not (eqb m or_mark)) (twice (room_behind s))

-- a pattern that closes calmly
calm_rest : (c : Closed) → calm c ≡ true → is_rest c.pattern ≡ false
unfolding calm
calm_rest c e = not-true (is_rest c.pattern) (and_left (not (is_rest c.pattern)) (is_none (open_at c.pattern)) e)

calm_open : (text : List ℕ) (c : Closed) → calm c ≡ true → open_where text c.waiting c.pattern ≡ none
unfolding calm
calm_open text c e =
    never_open text c.waiting c.pattern (is_none_lem (open_at c.pattern) (and_right (not (is_rest c.pattern)) (is_none (open_at c.pattern)) e))

pub after_agrees :
    (text : List ℕ) (c : Closed) (m : ℕ) (q : Spot) → calm c ≡ true
    → Agrees text (after (strictly text) c m q) (behind_alt m q.from (opened_behind text c.pattern c.waiting))
after_agrees text c m q e = behind_agrees text c.pattern c.waiting m q (calm_rest c e) (calm_open text c e)

slice_or :
    (text : List ℕ) (c : Spot) (is : ListItems) (s : ForPlain) (p : Pattern) (m : ℕ) (q : Spot) → eqb m or_mark ≡ true
    → Agrees text (expect (any_alt (next_alt p q (for_item (slice_at c) is s)))) (behind_alt m q.from (opened_behind text p (for_item (slice_at c) is s)))
unfolding behind_alt encode steady opened_plain opened_alt
slice_or text c is s p m q e = rw e (plainly (ap (going_in Expect nothing_held) (sym (another text p (for_item (slice_at c) is s)))) refl)

slice_halts :
    (text : List ℕ) (c : Spot) (is : ListItems) (s : ForPlain) (p : Pattern) (m : ℕ) (q : Spot)
    → eqb m comma_mark ≡ false → eqb m close_bracket_mark ≡ false → eqb m or_mark ≡ false
    → Agrees text (failed q.from) (behind_alt m q.from (opened_behind text p (for_item (slice_at c) is s)))
unfolding behind_alt ended_in opened_pattern pushed node_kind list_node closes
slice_halts text c is s p m q e f g = rw g (rw (last_one text p (for_item (slice_at c) is s)) (rw e (rw f halted)))

-- a mark behind `a..` in a slice
slice_open :
    (text : List ℕ) (at : ℕ) (c : Spot) (is : ListItems) (s : ForPlain) (p : Pattern) (m : ℕ) (q : Spot) → open_at p ≡ some at → is_rest p ≡ false
    → Agrees text (behind (strictly text) p (for_item (slice_at c) is s) m q)
    (cond (eqb m comma_mark || eqb m close_bracket_mark) (halted_at at) (behind_alt m q.from (opened_behind text p (for_item (slice_at c) is s))))
unfolding behind closer unless_open open_item_at when_strict
slice_open text at c is s p m q e f =
    rw e (by (eqb m comma_mark) (eqb m close_bracket_mark) (eqb m or_mark) refl refl refl)
  where
    by :
        (x y z : Bool) → eqb m comma_mark ≡ x → eqb m close_bracket_mark ≡ y → eqb m or_mark ≡ z
        → Agrees text
        (cond z (expect (any_alt (next_alt p q (for_item (slice_at c) is s)))) (cond x (failed at) (cond y (failed at) (failed q.from))))
        (cond (x || y) (halted_at at) (behind_alt m q.from (opened_behind text p (for_item (slice_at c) is s))))
    by true y true ex ey ez = absurd (true≢false (sym ez ∙ ap (λ n. eqb n or_mark) (eqb-true m comma_mark ex)))
    by true y false ex ey ez = halted
    by false true true ex ey ez = absurd (true≢false (sym ez ∙ ap (λ n. eqb n or_mark) (eqb-true m close_bracket_mark ey)))
    by false true false ex ey ez = halted
    by false false true ex ey ez = slice_or text c is s p m q ez
    by false false false ex ey ez = slice_halts text c is s p m q ex ey ez

settle_open :
    (text : List ℕ) (a : RangeBound) (d : Spot) (l : ForAlt)
    → settle (opened_alt text l).waiting (closed_node (bound_at a) (range_node true false true) 1 ∷ closed_node (bound_at a) (bound_in text a) 0 ∷ (opened_alt text l).closed)
    ≡ opened_behind text (close_alt (upward a d) l).pattern (close_alt (upward a d) l).waiting
unfolding written_alt closed_onto parts_onto part_count
settle_open text a d l = settle_alt text l (upward a d)

open_range_lem :
    (text : List ℕ) (a : RangeBound) (d : Spot) (l : ForAlt) (m : ℕ) (q : Spot)
    → eqb (innermost_kind (opened_alt text l).waiting) 11 ≡ false → is_rest (close_alt (upward a d) l).pattern ≡ false
    → open_where text (close_alt (upward a d) l).waiting (close_alt (upward a d) l).pattern ≡ none
    → Agrees text (after (strictly text) (close_alt (upward a d) l) m q)
    (open_range m q.from (opened_range text (from_head a (exclusive d)) l).waiting (opened_range text (from_head a (exclusive d)) l).closed)
unfolding open_range opened_range pushed noted
open_range_lem text a d l m q e f g =
    rw e (rw (settle_open text a d l) (behind_agrees text (close_alt (upward a d) l).pattern (close_alt (upward a d) l).waiting m q f g))

slice_range :
    (text : List ℕ) (a : RangeBound) (d c : Spot) (is : ListItems) (s : ForPlain) (m : ℕ) (q : Spot)
    → Agrees text (behind (strictly text) (alone none (upward a d)) (for_item (slice_at c) is s) m q)
    (open_range m q.from (opened_range text (from_head a (exclusive d)) (first_alt none (for_item (slice_at c) is s))).waiting
    (opened_range text (from_head a (exclusive d)) (first_alt none (for_item (slice_at c) is s))).closed)
unfolding open_range opened_range close_alt opened_alt opened_pattern pushed noted innermost_kind node_kind list_node is_rest is_rest_alt open_at upward_at
slice_range text a d c is s m q =
    rw (settle_open text a d (first_alt none (for_item (slice_at c) is s)))
    (slice_open text (bound_at a) c is s (alone none (upward a d)) m q refl refl)

-- a mark behind `a..`
pub open_range_agrees :
    (text : List ℕ) (a : RangeBound) (d : Spot) (l : ForAlt) (m : ℕ) (q : Spot)
    → Agrees text (after (strictly text) (close_alt (upward a d) l) m q)
    (open_range m q.from (opened_range text (from_head a (exclusive d)) l).waiting (opened_range text (from_head a (exclusive d)) l).closed)
unfolding close_alt opened_alt opened_pattern pushed innermost_kind node_kind list_node is_rest is_rest_alt open_where open_item_at open_at
open_range_agrees text a d (first_alt none whole_text) m q = open_range_lem text a d (first_alt none whole_text) m q refl refl refl
open_range_agrees text a d (first_alt none (for_item (tuple_at c) is s)) m q = open_range_lem text a d (first_alt none (for_item (tuple_at c) is s)) m q refl refl refl
open_range_agrees text a d (first_alt none (for_item (struct_at n c) is s)) m q =
    open_range_lem text a d (first_alt none (for_item (struct_at n c) is s)) m q refl refl refl
open_range_agrees text a d (first_alt none (for_item (slice_at c) is s)) m q = slice_range text a d c is s m q
open_range_agrees text a d (first_alt none (for_field h fs key c s)) m q = open_range_lem text a d (first_alt none (for_field h fs key c s)) m q refl refl refl
open_range_agrees text a d (first_alt (some c) o) m q = open_range_lem text a d (first_alt (some c) o) m q refl refl (never_open text o _ refl)
open_range_agrees text a d (next_alt p c o) m q = open_range_lem text a d (next_alt p c o) m q refl refl (never_open text o _ refl)
open_range_agrees text a d (behind_at b c s) m q =
    open_range_lem text a d (behind_at b c s) m q refl (calm_rest _ (calm_plain s (ident_at b c (upward a d)) refl)) (calm_open text _ (calm_plain s (ident_at b c (upward a d)) refl))
