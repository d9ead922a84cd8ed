-- A slice's rest is one of its parts, `..` or a name. Assumes nothing.
use Prim.Native.Nat.{ℕ, suc}
use mathlib.Core.Path.{◌≡◌, refl, ap, ◌∙◌}
use mathlib.Core.Bool.{Bool, true, false, cond, false≢true}
use mathlib.Core.Option.{Option, none, some}
use mathlib.Core.List.{List}
use native.Mathlib.Omega.{arith}
use borrow.Author.Tests.{ltb-true, lt-ltb, eq-eqb, ne_eqb}
use Rattle.pattern_grammar.specs.Lexemes.{Spot}
use Rattle.pattern_grammar.specs.Trees.{slice_at, Pattern, alone, or, NoTopAlt, plain, between, upward, up_to, WithoutRange, literal, ident, ident_at, wild, rest, reference, path, list, list_to, record_of, record_to, record_dots, ListItems, no_item, item}
use Rattle.pattern_grammar.specs.Admitted.{is_rest_alt, is_rest_plain, is_rest}
use Rattle.pattern_syntax.specs.Written.{Written, written, Parts, more, begun_at, part_count}
use Rattle.pattern_syntax.specs.Reduced.{written_ident, item_count, or_else, before_rest, is_part, one_of, alternatives, written_alt, written_plain, written_items}
use Rattle.pattern_syntax.specs.Formed.{rest_within, may_be_rest, node_in, rest_part_formed}

-- a rest is one of the parts, and may be one
pub record RestHolds (before : Option ℕ) (ps : Parts) : Type 0 where
  pub within : rest_within before (part_count ps) ≡ true
  pub part : rest_part_formed before ps ≡ true

-- one part more, which may be the rest where there is none before it
more_holds : (before : Option ℕ) (ps : Parts) (w : Written) (b : Bool) → RestHolds before ps → (b ≡ true → may_be_rest (node_in w) ≡ true) →
    RestHolds (or_else before (cond b (some (part_count ps)) none)) (more ps w)
unfolding or_else rest_within rest_part_formed part_count
more_holds (some n) ps w b h m =
    let below = ltb-true n (part_count ps) h.within in
    record { within = lt-ltb n (suc (part_count ps)) (omega (arith, below)); part = rw (ne_eqb n (part_count ps) (λ e. omega (arith, below, e))) h.part }
more_holds none ps w true h m = record { within = lt-ltb (part_count ps) (suc (part_count ps)) (omega arith); part = rw (eq-eqb (part_count ps) (part_count ps) refl) (m refl) }
more_holds none ps w false h m = record { within = refl; part = refl }

begun_node : (at : ℕ) (w : Written) → node_in (begun_at at w) ≡ node_in w
unfolding node_in begun_at
begun_node at (written old n ps) = refl

plain_rest : (text : List ℕ) (w : WithoutRange) → is_rest_plain w ≡ true → may_be_rest (node_in (written_plain text w)) ≡ true
unfolding is_rest_plain written_plain written_ident node_in may_be_rest
plain_rest text (literal l) e = absurd (false≢true e)
plain_rest text (ident b) e = absurd (false≢true e)
plain_rest text (ident_at b c a) e = refl
plain_rest text (wild q) e = absurd (false≢true e)
plain_rest text (rest q) e = refl
plain_rest text (reference a m w) e = absurd (false≢true e)
plain_rest text (path p c n) e = absurd (false≢true e)
plain_rest text (list h is q) e = absurd (false≢true e)
plain_rest text (list_to h is p q) e = absurd (false≢true e)
plain_rest text (record_of h fs q) e = absurd (false≢true e)
plain_rest text (record_to h fs f q) e = absurd (false≢true e)
plain_rest text (record_dots h fs d q) e = absurd (false≢true e)

alt_rest : (text : List ℕ) (a : NoTopAlt) → is_rest_alt a ≡ true → may_be_rest (node_in (written_alt text a)) ≡ true
unfolding is_rest_alt written_alt
alt_rest text (plain w) e = plain_rest text w e
alt_rest text (between a d b) e = absurd (false≢true e)
alt_rest text (upward a q) e = absurd (false≢true e)
alt_rest text (up_to d b) e = absurd (false≢true e)

-- an item that is a rest is `..` or a name
rest_node_lem : (text : List ℕ) (p : Pattern) → is_rest p ≡ true → may_be_rest (node_in (one_of (alternatives text p))) ≡ true
unfolding is_rest alternatives one_of
rest_node_lem text (alone none a) e = alt_rest text a e
rest_node_lem text (alone (some q) a) e = ap may_be_rest (begun_node _ (written_alt text a)) ∙ alt_rest text a e
rest_node_lem text (or p c a) e = absurd (false≢true e)

-- each item of a slice is a part
count_items_lem : (text : List ℕ) (q : Spot) (is : ListItems) → part_count (written_items text (slice_at q) is) ≡ item_count is
unfolding written_items is_part part_count item_count
count_items_lem text q no_item = refl
count_items_lem text q (item is p c) = ap suc (count_items_lem text q is)

pub item_more : (text : List ℕ) (q : Spot) (is : ListItems) (p : Pattern) (c : Spot) → RestHolds (before_rest is) (written_items text (slice_at q) is) →
    RestHolds (before_rest (item is p c)) (more (written_items text (slice_at q) is) (one_of (alternatives text p)))
unfolding before_rest
item_more text q is p c h =
    rw (← (count_items_lem text q is))
    (more_holds (before_rest is) (written_items text (slice_at q) is) (one_of (alternatives text p)) (is_rest p) h (rest_node_lem text p))

pub items_hold : (text : List ℕ) (q : Spot) (is : ListItems) → RestHolds (before_rest is) (written_items text (slice_at q) is)
unfolding before_rest written_items is_part rest_within rest_part_formed
items_hold text q no_item = record { within = refl; part = refl }
items_hold text q (item is p c) = item_more text q is p c (items_hold text q is)
