-- What stands behind an alternative, in the parser as in the grammar's machine. Assumes nothing.
use Prim.Native.Nat.{ℕ}
use mathlib.Core.Path.{◌≡◌, refl, sym, ap}
use mathlib.Core.Bool.{Bool, true, false, not, cond, ◌&&◌}
use mathlib.Core.Option.{Option, none, some}
use mathlib.Core.List.{List, [], ◌∷◌}
use lib.Dec.{eqb}
use Rattle.pattern_grammar.specs.Lexemes.{Spot, end_mark, comma_mark, or_mark, close_brace_mark, strictly}
use Rattle.pattern_grammar.specs.Trees.{RecordHead, FieldKey, RecordFields, field, ListHead, tuple_at, struct_at, slice_at, closer, keyed, Pattern, alone, or, list_to, record_to, ListItems, no_item, item}
use Rattle.pattern_grammar.specs.Admitted.{is_rest, is_rest_plain, is_none, open_at, open_item_at, when_strict}
use Rattle.pattern_grammar.specs.Machine.{begin, read_alt, read_brace, done, failed, close_plain, ForPlain, ForPattern, whole_text, for_item, for_field, unless_open, behind}
use Rattle.pattern_syntax.specs.Written.{or_node, more, part_count}
use Rattle.pattern_syntax.specs.Reduced.{head_at, list_node, item_count, or_else, before_rest, is_part, is_group, first_beginning, one_of, alternatives, written_plain, written_items, written_fields, written_field_of}
use Rattle.pattern_syntax.specs.Closing.{ClosedNode, closed_node}
use Rattle.parsing_machine.specs.declared.ReadState.TheVariants.{Begin, Expect}
use Rattle.parsing_machine.specs.Moves.{nothing_held}
use Rattle.parsing_machine.specs.Waiting.{opened, pushed, node_kind, node_before, innermost_kind, closes, part_more, grown, settle, shut_top, another_alt, last_alt, is_bare_tuple}
use Rattle.parsing_machine.specs.Parser.{going_in, item_last, ended_in, behind_alt}
use Rattle.parsing_machine.proofs.Encoding.{closed_onto, parts_onto, parts_noted, or_waiting, opened_plain, opened_alt, opened_pattern, opened_record, opened_behind, encode, steady}
use Rattle.parsing_machine.proofs.Settling.{begun_last_lem, last_from_lem, suc_some}
use Rattle.parsing_machine.proofs.Agreeing.{Agrees, plainly, either, halted, shut_plain}

-- what waits for a pattern is no Or
pattern_kind : (text : List ℕ) (o : ForPattern) → eqb (innermost_kind (opened_pattern text o).waiting) 14 ≡ false
unfolding opened_pattern pushed innermost_kind node_kind list_node
pattern_kind text whole_text = refl
pattern_kind text (for_item (tuple_at q) is s) = refl
pattern_kind text (for_item (struct_at p q) is s) = refl
pattern_kind text (for_item (slice_at q) is s) = refl
pattern_kind text (for_field h fs key c s) = refl

-- `|` behind an alternative
pub another : (text : List ℕ) (p : Pattern) (o : ForPattern) → another_alt (opened_behind text p o) ≡ pushed (or_waiting (alternatives text p)) (parts_noted (alternatives text p) (opened_pattern text o))
unfolding another_alt opened_behind pushed parts_noted parts_onto alternatives first_beginning part_count innermost_kind node_kind
another text (alone none a) o =
    rw (pattern_kind text o)
    (ap (λ at. opened (closed_node at or_node 1 ∷ (opened_pattern text o).waiting) (parts_onto (alternatives text (alone none a)) (opened_pattern text o).closed))
    (last_from_lem _ (opened_pattern text o).closed))
another text (alone (some q) a) o =
    rw (pattern_kind text o)
    (ap (λ at. opened (closed_node at or_node 1 ∷ (opened_pattern text o).waiting) (parts_onto (alternatives text (alone (some q) a)) (opened_pattern text o).closed))
    (last_from_lem _ (opened_pattern text o).closed))
another text (or p c a) o = refl

-- another mark
last_pattern_lem : (text : List ℕ) (o : ForPattern) (closed : List ClosedNode) → last_alt (opened_pattern text o).waiting closed ≡ opened (opened_pattern text o).waiting closed
unfolding last_alt opened_pattern pushed node_kind list_node
last_pattern_lem text whole_text closed = refl
last_pattern_lem text (for_item (tuple_at q) is s) closed = refl
last_pattern_lem text (for_item (struct_at p q) is s) closed = refl
last_pattern_lem text (for_item (slice_at q) is s) closed = refl
last_pattern_lem text (for_field h fs key c s) closed = refl

pub last_one : (text : List ℕ) (p : Pattern) (o : ForPattern)
    → last_alt (opened_behind text p o).waiting (opened_behind text p o).closed
    ≡ opened (opened_pattern text o).waiting (closed_onto (one_of (alternatives text p)) (opened_pattern text o).closed)
unfolding last_alt opened_behind pushed parts_noted parts_onto closed_onto alternatives one_of node_kind first_beginning part_count
last_one text (alone none a) o = last_pattern_lem text o _
last_one text (alone (some q) a) o = last_pattern_lem text o _
last_one text (or (alone none b) c a) o = refl
last_one text (or (alone (some q) b) c a) o = refl
last_one text (or (or p d b) c a) o = refl

-- an item that is no rest
none_else : (x : Option ℕ) → or_else x none ≡ x
unfolding or_else
none_else none = refl
none_else (some n) = refl

item_before : (is : ListItems) (p : Pattern) (c : Spot) → is_rest p ≡ false → before_rest (item is p c) ≡ before_rest is
unfolding before_rest
item_before is p c e = rw e (none_else (before_rest is))

is_part_lem : (h : ListHead) (p : Pattern) → is_rest p ≡ false → is_part h p ≡ true
unfolding is_part
is_part_lem (tuple_at q) p e = rw e refl
is_part_lem (struct_at n q) p e = rw e refl
is_part_lem (slice_at q) p e = refl

item_parts_lem : (text : List ℕ) (h : ListHead) (is : ListItems) (p : Pattern) (c : Spot) → is_rest p ≡ false → written_items text h (item is p c) ≡ more (written_items text h is) (one_of (alternatives text p))
unfolding written_items
item_parts_lem text h is p c e = rw (is_part_lem h p e) refl

-- a tuple that has an item has a part or a rest
some_else : (x : Option ℕ) (n : ℕ) → is_none (or_else x (some n)) ≡ false
unfolding is_none or_else
some_else none n = refl
some_else (some m) n = refl

and_false : (b : Bool) → (b && false) ≡ false
and_false true = refl
and_false false = refl

tuple_some :
    (text : List ℕ) (q : Spot) (is : ListItems) (p : Pattern) (c : Spot)
    → (is_none (before_rest (item is p c)) && eqb (part_count (written_items text (tuple_at q) (item is p c))) 0) ≡ false
unfolding before_rest written_items is_part part_count
tuple_some text q is p c = by (is_rest p)
  where
    by : (r : Bool)
        → (is_none (or_else (before_rest is) (cond r (some (item_count is)) none))
        && eqb (part_count (cond (not r) (more (written_items text (tuple_at q) is) (one_of (alternatives text p))) (written_items text (tuple_at q) is))) 0) ≡ false
    by true = rw (some_else (before_rest is) (item_count is)) refl
    by false = rw (suc_some (part_count (written_items text (tuple_at q) is))) (and_false (is_none (or_else (before_rest is) none)))

-- an item that is no rest and no `a..` is added
item_added :
    (text : List ℕ) (h : ListHead) (is : ListItems) (p : Pattern) (q : Spot) (s : ForPlain) → is_rest p ≡ false
    → opened_pattern text (for_item h (item is p q) s)
    ≡ opened (part_more (closed_node (head_at h) (list_node text h (before_rest is)) (part_count (written_items text h is))) ∷ (opened_plain text s).waiting)
    (closed_onto (one_of (alternatives text p)) (parts_onto (written_items text h is) (opened_plain text s).closed))
unfolding opened_pattern pushed parts_noted part_more parts_onto part_count
item_added text h is p q s e = rw (item_before is p q e) (rw (item_parts_lem text h is p q e) refl)

-- the last item
list_shut :
    (text : List ℕ) (h : ListHead) (is : ListItems) (p : Pattern) (q : Spot) (s : ForPlain) → is_rest p ≡ false → is_group h is p ≡ false
    → closed_onto (written_plain text (list_to h is p q)) (opened_plain text s).closed
    ≡ part_more (closed_node (head_at h) (list_node text h (before_rest is)) (part_count (written_items text h is)))
    ∷ closed_onto (one_of (alternatives text p)) (parts_onto (written_items text h is) (opened_plain text s).closed)
unfolding written_plain closed_onto part_more parts_onto part_count
list_shut text h is p q s e g = rw g (rw (is_part_lem h p e) (rw (item_before is p q e) refl))

group_shut :
    (text : List ℕ) (c : Spot) (p : Pattern) (q : Spot) (s : ForPlain) → is_rest p ≡ false
    → settle (opened_plain text s).waiting (closed_onto (written_plain text (list_to (tuple_at c) no_item p q)) (opened_plain text s).closed)
    ≡ item_last (closed_node (head_at (tuple_at c)) (list_node text (tuple_at c) (before_rest no_item)) (part_count (written_items text (tuple_at c) no_item))) (opened_plain text s).waiting
    (closed_onto (one_of (alternatives text p)) (parts_onto (written_items text (tuple_at c) no_item) (opened_plain text s).closed))
unfolding item_last is_bare_tuple node_kind node_before list_node head_at written_plain is_group before_rest written_items part_count parts_onto is_none
group_shut text c p q s e = rw e (ap (settle (opened_plain text s).waiting) (sym (begun_last_lem c.from (one_of (alternatives text p)) _)))

item_shut :
    (text : List ℕ) (h : ListHead) (is : ListItems) (p : Pattern) (q : Spot) (s : ForPlain) → is_rest p ≡ false
    → settle (opened_plain text s).waiting (closed_onto (written_plain text (list_to h is p q)) (opened_plain text s).closed)
    ≡ item_last (closed_node (head_at h) (list_node text h (before_rest is)) (part_count (written_items text h is))) (opened_plain text s).waiting
    (closed_onto (one_of (alternatives text p)) (parts_onto (written_items text h is) (opened_plain text s).closed))
unfolding item_last is_bare_tuple node_kind node_before list_node head_at is_group
item_shut text (tuple_at c) no_item p q s e = group_shut text c p q s e
item_shut text (tuple_at c) (item is o d) p q s e =
    rw (tuple_some text c is o d) (ap (settle (opened_plain text s).waiting) (list_shut text (tuple_at c) (item is o d) p q s e refl))
item_shut text (struct_at n c) is p q s e = ap (settle (opened_plain text s).waiting) (list_shut text (struct_at n c) is p q s e refl)
item_shut text (slice_at c) is p q s e = ap (settle (opened_plain text s).waiting) (list_shut text (slice_at c) is p q s e refl)

-- where a pattern that is an item of a slice fails, as `a..`
unfoldable pub open_where : List ℕ → ForPattern → Pattern → Option ℕ
open_where text whole_text p = none
open_where text (for_item h is s) p = open_item_at (strictly text) h p
open_where text (for_field h fs key c s) p = none

pub never_open : (text : List ℕ) (o : ForPattern) (p : Pattern) → open_at p ≡ none → open_where text o p ≡ none
unfolding open_where open_item_at when_strict
never_open text whole_text p e = refl
never_open text (for_item (tuple_at q) is s) p e = refl
never_open text (for_item (struct_at n q) is s) p e = refl
never_open text (for_item (slice_at q) is s) p e = rw e refl
never_open text (for_field h fs key c s) p e = refl

-- a mark closes a list of this kind where it is the closer
pub closes_list : (text : List ℕ) (h : ListHead) (before : Option ℕ) (m : ℕ) → closes (node_kind (list_node text h before)) m ≡ eqb m (closer h)
unfolding closes node_kind list_node closer
closes_list text (tuple_at q) before m = refl
closes_list text (struct_at p q) before m = refl
closes_list text (slice_at q) before m = refl

list_no_field : (text : List ℕ) (h : ListHead) (before : Option ℕ) → eqb (node_kind (list_node text h before)) 13 ≡ false
unfolding node_kind list_node
list_no_field text (tuple_at q) before = refl
list_no_field text (struct_at p q) before = refl
list_no_field text (slice_at q) before = refl

ended_item :
    (text : List ℕ) (h : ListHead) (is : ListItems) (s : ForPlain) (p : Pattern) (m : ℕ) (q : Spot) → is_rest p ≡ false → open_item_at (strictly text) h p ≡ none
    → Agrees text
    (cond (eqb m comma_mark) (unless_open (open_item_at (strictly text) h p) (begin (for_item h (item is p q) s)))
    (cond (eqb m (closer h)) (unless_open (open_item_at (strictly text) h p) (read_alt (close_plain (list_to h is p q) s)))
    (failed q.from)))
    (ended_in m q.from (opened_pattern text (for_item h is s)).waiting (closed_onto (one_of (alternatives text p)) (opened_pattern text (for_item h is s)).closed))
unfolding ended_in opened_pattern pushed parts_noted encode steady is_rest_plain unless_open
ended_item text h is s p m q e f =
    rw f
    (rw (list_no_field text h (before_rest is))
    (rw (closes_list text h (before_rest is) m)
    (either (eqb m comma_mark) (plainly (ap (going_in Begin nothing_held) (item_added text h is p q s e)) refl)
    (either (eqb m (closer h)) (rw (sym (item_shut text h is p q s e)) (shut_plain text s (list_to h is p q) refl))
    halted))))

whole_ended :
    (text : List ℕ) (p : Pattern) (m : ℕ) (q : Spot)
    → Agrees text (cond (eqb m end_mark) (done p q) (failed q.from))
    (ended_in m q.from (opened_pattern text whole_text).waiting (closed_onto (one_of (alternatives text p)) (opened_pattern text whole_text).closed))
unfolding ended_in opened_pattern encode steady
whole_ended text p m q = either (eqb m end_mark) (plainly refl refl) halted

ended_field :
    (text : List ℕ) (h : RecordHead) (fs : RecordFields) (key : FieldKey) (c : Spot) (s : ForPlain) (p : Pattern) (m : ℕ) (q : Spot)
    → Agrees text
    (cond (eqb m comma_mark) (read_brace h (field fs (keyed key c p) q) s)
    (cond (eqb m close_brace_mark) (read_alt (close_plain (record_to h fs (keyed key c p) q) s))
    (failed q.from)))
    (ended_in m q.from (opened_pattern text (for_field h fs key c s)).waiting
    (closed_onto (one_of (alternatives text p)) (opened_pattern text (for_field h fs key c s)).closed))
unfolding ended_in opened_pattern opened_record pushed parts_noted parts_onto closed_onto part_count encode steady node_kind grown part_more shut_top written_fields written_field_of written_plain is_rest_plain
ended_field text h fs key c s p m q =
    either (eqb m comma_mark) (plainly refl refl)
    (either (eqb m close_brace_mark) (shut_plain text s (record_to h fs (keyed key c p) q) refl)
    halted)

-- a mark behind an alternative that is neither a rest nor `a..`
pub behind_agrees :
    (text : List ℕ) (p : Pattern) (o : ForPattern) (m : ℕ) (q : Spot) → is_rest p ≡ false → open_where text o p ≡ none
    → Agrees text (behind (strictly text) p o m q) (behind_alt m q.from (opened_behind text p o))
unfolding behind behind_alt encode steady opened_plain opened_alt open_where
behind_agrees text p whole_text m q e f =
    rw (last_one text p whole_text)
    (either (eqb m or_mark) (plainly (ap (going_in Expect nothing_held) (sym (another text p whole_text))) refl)
    (whole_ended text p m q))
behind_agrees text p (for_item h is s) m q e f =
    rw (last_one text p (for_item h is s))
    (either (eqb m or_mark) (plainly (ap (going_in Expect nothing_held) (sym (another text p (for_item h is s)))) refl)
    (ended_item text h is s p m q e f))
behind_agrees text p (for_field h fs key c s) m q e f =
    rw (last_one text p (for_field h fs key c s))
    (either (eqb m or_mark) (plainly (ap (going_in Expect nothing_held) (sym (another text p (for_field h fs key c s)))) refl)
    (ended_field text h fs key c s p m q))
