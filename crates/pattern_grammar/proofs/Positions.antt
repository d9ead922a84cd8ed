-- Where a step fails, and why: its token is none that the grammar has there, or an integer over 16 bytes, or a rest behind `&`; or the rest or
-- the `a..` before it may not stand there. Assumes nothing.
use Prim.Native.Nat.{ℕ}
use mathlib.Core.Path.{◌≡◌, refl, sym, ap, ◌∙◌}
use mathlib.Core.Bool.{Bool, true, false, not, cond, ◌&&◌, ◌||◌, true≢false, false≢true}
use mathlib.Core.Option.{Option, none, some, none-ne-some}
use mathlib.Core.List.{List}
use lib.Dec.{eqb}
use Rattle.decimal_values.specs.Values.{integer_value}
use Rattle.pattern_grammar.specs.Lexemes.{Spot, Identifier, Lexeme, name, scalar, mark, end_mark, comma_mark, or_mark, close_brace_mark, ref_mark, mut_mark, true_mark, false_mark, underscore_mark, integer_mark, minus_mark, open_paren_mark, open_bracket_mark, open_brace_mark, and_mark, and_and_mark, bind_mark, colon_mark, path_sep_mark, dot_dot_mark, dot_dot_eq_mark, follows, lexeme_at, wide, over, strictly, loosely}
use Rattle.pattern_grammar.specs.Trees.{NamePath, segment, inside, LiteralPattern, negative, RangeBound, constant, place, exclusive, inclusive, BoundName, bare_name, ListHead, tuple_at, struct_at, slice_at, closer, RecordHead, Pattern, NoTopAlt, plain, upward, WithoutRange, literal, ident, ident_at, rest, reference, path, list_to, item, RecordFields, RecordField, short}
use Rattle.pattern_grammar.specs.Admitted.{bound_at, upward_at, open_at, when_strict, open_item_at, fits_rest}
use Rattle.pattern_grammar.specs.Machine.{ForPlain, any_alt, behind_amp, ForAlt, first_alt, next_alt, behind_at, ForPattern, whole_text, for_item, for_field, Closed, RangeHead, up_to_head, from_head, range_of, BoundPlace, at_start, at_end, NamePlace, in_pattern, in_record, Reading, begin, expect, read_amp, read_ref, read_mut, read_name, read_bound, read_path, read_sep, read_minus, read_literal, read_dots, read_from, read_to, read_to_path, read_alt, read_brace, read_label, read_index, read_field, read_etc, done, failed, close_alt, close_plain, after, room_in, ranged, fitting, unless_open, starts, bounds, behind, ends, named_in, path_in, negative_in, behind_path, behind_field, on_mark, on_name, on_char, step, is_failed, dots_in, rest_stands}

-- where what is read last stands, if it is `..`, or may be an `a..` that is a whole item; what has failed has its place
unfoldable pub own_at : Reading → Option ℕ
own_at (begin o) = none
own_at (expect s) = none
own_at (read_amp a s) = none
own_at (read_ref i r) = none
own_at (read_mut i r u) = none
own_at (read_name x s) = none
own_at (read_bound b s) = none
own_at (read_path p c x s) = none
own_at (read_sep p c i) = none
own_at (read_minus c i) = none
own_at (read_literal l s) = none
own_at (read_dots d l) = some d.from
own_at (read_from a d l) = some (bound_at a)
own_at (read_to h l) = none
own_at (read_to_path p h l) = none
own_at (read_alt c) = open_at c.pattern
own_at (read_brace h fs s) = none
own_at (read_label x h fs s) = none
own_at (read_index i h fs s) = none
own_at (read_field x h fs s) = none
own_at (read_etc d h fs s) = none
own_at (done p e) = none
own_at (failed at) = some at

-- an integer over 16 bytes, or over what a minus before it leaves of them
abbrev pub IsOver : List ℕ → Lexeme → Type 0
IsOver text (name n) = ⊥
IsOver text (scalar v q) = ⊥
IsOver text (mark m q) = (eqb m integer_mark ≡ true) × ((minus : Bool) × (over minus (integer_value text q.from q.to) ≡ true))

-- `..`
unfoldable pub is_dots : Lexeme → Bool
is_dots (name n) = false
is_dots (scalar v q) = false
is_dots (mark m q) = eqb m dot_dot_mark

-- why a step fails at a position: here, where it fails by the grammar alone too; here, at an integer; here, at a `..`; or at that place of its own
pub data Why (here : ℕ) (own : Option ℕ) (int : Type 0) (dots : Bool) (u : Reading) (at : ℕ) : Type 0 where
  by_grammar : at ≡ here → is_failed u ≡ true → Why here own int dots u at
  over_wide : at ≡ here → int → Why here own int dots u at
  rest_behind : at ≡ here → dots ≡ true → Why here own int dots u at
  of_own : own ≡ some at → Why here own int dots u at

-- one reading, and the same by the grammar alone: where the first has not failed, they are alike
pub record Judges (here : ℕ) (own : Option ℕ) (int : Type 0) (dots : Bool) (z u : Reading) : Type 0 where
  pub agree : is_failed z ≡ false → u ≡ z
  pub place : (at : ℕ) → z ≡ failed at → Why here own int dots u at

goes : {here : ℕ} {own : Option ℕ} {int : Type 0} {dots : Bool} {z : Reading} → is_failed z ≡ false → Judges here own int dots z z
unfolding is_failed
goes e = record { agree = λ _. refl; place = λ at f. absurd (false≢true (sym e ∙ ap is_failed f)) }

same : (a b : ℕ) → failed a ≡ failed b → b ≡ a
same a b e = cc

fails : (at : ℕ) → is_failed (failed at) ≡ false → ⊥
unfolding is_failed
fails at e = true≢false e

stops : {here : ℕ} {own : Option ℕ} {int : Type 0} {dots : Bool} → Judges here own int dots (failed here) (failed here)
unfolding is_failed
stops {here} = record { agree = λ e. absurd (fails here e); place = λ at f. by_grammar (same here at f) refl }

at_own : {here : ℕ} {own : Option ℕ} {int : Type 0} {dots : Bool} (at : ℕ) (u : Reading) → own ≡ some at → Judges here own int dots (failed at) u
at_own at u e = record { agree = λ f. absurd (fails at f); place = λ b f. of_own (e ∙ ap some (sym (same at b f))) }

if :
    {here : ℕ} {own : Option ℕ} {int : Type 0} {dots : Bool} {x y u v : Reading} (b : Bool)
    → (b ≡ true → Judges here own int dots x u) → (b ≡ false → Judges here own int dots y v)
    → Judges here own int dots (cond b x y) (cond b u v)
if true h g = h refl
if false h g = g refl

fits :
    {own : Option ℕ} {int : Type 0} {dots : Bool} {z u : Reading} (text : List ℕ) (minus : Bool) (q : Spot)
    → (over minus (integer_value text q.from q.to) ≡ true → int) → Judges q.from own int dots z u
    → Judges q.from own int dots (fitting (strictly text) minus q z) (fitting (loosely text) minus q u)
unfolding fitting wide
fits {own} {int} {dots} {z} {u} text minus q e h = by (over minus (integer_value text q.from q.to)) e
  where
    by : (b : Bool) → (b ≡ true → int) → Judges q.from own int dots (cond (b && true) (failed q.from) z) (cond (b && false) (failed q.from) u)
    by true g = record { agree = λ f. absurd (fails q.from f); place = λ at f. over_wide (same q.from at f) (g refl) }
    by false g = h

ranges :
    {own : Option ℕ} {int : Type 0} {dots : Bool} (s : ForPlain) (q : Spot) (go : ForAlt → Reading)
    → ((l : ForAlt) → is_failed (go l) ≡ false) → Judges q.from own int dots (ranged s q go) (ranged s q go)
unfolding ranged
ranges (any_alt l) q go h = goes (h l)
ranges (behind_amp a m s) q go h = stops

dotted :
    {own : Option ℕ} {int : Type 0} {dots : Bool} (s : ForPlain) (text : List ℕ) (q : Spot)
    → dots ≡ true → Judges q.from own int dots (dots_in (strictly text) s q) (dots_in (loosely text) s q)
unfolding dots_in is_failed
dotted (any_alt l) text q e = goes refl
dotted (behind_amp a m s) text q e = record { agree = λ f. absurd (fails q.from f); place = λ at f. rest_behind (same q.from at f) e }

unless :
    {here : ℕ} {own : Option ℕ} {int : Type 0} {dots : Bool} (h : ListHead) (p : Pattern) (text : List ℕ) (z : Reading)
    → ((at : ℕ) → open_at p ≡ some at → own ≡ some at) → is_failed z ≡ false
    → Judges here own int dots (unless_open (open_item_at (strictly text) h p) z) (unless_open (open_item_at (loosely text) h p) z)
unfolding unless_open open_item_at when_strict
unless (tuple_at q) p text z f e = goes e
unless (struct_at n q) p text z f e = goes e
unless {here} {own} {int} {dots} (slice_at q) p text z f e = by (open_at p) f
  where
    by :
        (o : Option ℕ) → ((at : ℕ) → o ≡ some at → own ≡ some at)
        → Judges here own int dots (unless_open (when_strict (strictly text) o) z) (unless_open (when_strict (loosely text) o) z)
    by none g = goes e
    by (some a) g = at_own a z (g a refl)

-- what closes with another last part is none
mutual
  unfolding close_alt open_at upward_at

  shut_alt : (l : ForAlt) (a : NoTopAlt) → upward_at a ≡ none → open_at (close_alt a l).pattern ≡ none
  shut_alt (first_alt none o) a e = e
  shut_alt (first_alt (some q) o) a e = refl
  shut_alt (next_alt p c o) a e = refl
  shut_alt (behind_at b c s) a e = shut_plain s (ident_at b c a)

  shut_plain : (s : ForPlain) (w : WithoutRange) → open_at (close_plain w s).pattern ≡ none
  shut_plain (any_alt l) w = shut_alt l (plain w) refl
  shut_plain (behind_amp a m s) w = shut_plain s (reference a m w)

-- and with `a..` it is that
open_upward : (l : ForAlt) (a : RangeBound) (d : Spot) (at : ℕ) → open_at (close_alt (upward a d) l).pattern ≡ some at → some (bound_at a) ≡ some at
unfolding close_alt open_at upward_at
open_upward (first_alt none o) a d at e = e
open_upward (first_alt (some q) o) a d at e = absurd (none-ne-some at e)
open_upward (next_alt p c o) a d at e = absurd (none-ne-some at e)
open_upward (behind_at b c s) a d at e = absurd (none-ne-some at (sym (shut_plain s (ident_at b c (upward a d))) ∙ e))

behinds :
    {int : Type 0} {dots : Bool} (o : ForPattern) (text : List ℕ) (p : Pattern) (own : Option ℕ) (m : ℕ) (q : Spot)
    → ((at : ℕ) → open_at p ≡ some at → own ≡ some at)
    → Judges q.from own int dots (behind (strictly text) p o m q) (behind (loosely text) p o m q)
unfolding behind is_failed
behinds whole_text text p own m q f = if (eqb m or_mark) (λ _. goes refl) (λ _. if (eqb m end_mark) (λ _. goes refl) (λ _. stops))
behinds (for_item h is s) text p own m q f =
    if (eqb m or_mark) (λ _. goes refl) (λ _.
    if (eqb m comma_mark) (λ _. unless h p text (begin (for_item h (item is p q) s)) f refl) (λ _.
    if (eqb m (closer h)) (λ _. unless h p text (read_alt (close_plain (list_to h is p q) s)) f refl) (λ _.
    stops)))
behinds (for_field h fs key c s) text p own m q f =
    if (eqb m or_mark) (λ _. goes refl) (λ _. if (eqb m comma_mark) (λ _. goes refl) (λ _. if (eqb m close_brace_mark) (λ _. goes refl) (λ _. stops)))

closes :
    {int : Type 0} {dots : Bool} (c : Closed) (text : List ℕ) (own : Option ℕ) (m : ℕ) (q : Spot)
    → open_at c.pattern ≡ none → Judges q.from own int dots (after (strictly text) c m q) (after (loosely text) c m q)
closes c text own m q e = behinds c.waiting text c.pattern own m q (λ at f. absurd (none-ne-some at (sym e ∙ f)))

begins :
    (text : List ℕ) (own : Option ℕ) (s : ForPlain) (m : ℕ) (q : Spot)
    → Judges q.from own (IsOver text (mark m q)) (eqb m dot_dot_mark) (starts (strictly text) s m q) (starts (loosely text) s m q)
unfolding starts is_failed
begins text own s m q =
    if (eqb m ref_mark) (λ _. goes refl) (λ _.
    if (eqb m mut_mark) (λ _. goes refl) (λ _.
    if (eqb m true_mark) (λ _. goes refl) (λ _.
    if (eqb m false_mark) (λ _. goes refl) (λ _.
    if (eqb m underscore_mark) (λ _. goes refl) (λ _.
    if (eqb m integer_mark) (λ e. fits text false q (λ o. (e, (false, o))) (goes refl)) (λ _.
    if (eqb m minus_mark) (λ _. goes refl) (λ _.
    if (eqb m open_paren_mark) (λ _. goes refl) (λ _.
    if (eqb m open_bracket_mark) (λ _. goes refl) (λ _.
    if (eqb m and_mark) (λ _. goes refl) (λ _.
    if (eqb m and_and_mark) (λ _. goes refl) (λ _.
    if (eqb m dot_dot_mark) (λ e. dotted s text q e) (λ _.
    if (eqb m dot_dot_eq_mark) (λ _. ranges s q (read_to (up_to_head (inclusive q))) (λ l. refl)) (λ _.
    stops)))))))))))))

uppers :
    {dots : Bool} (text : List ℕ) (own : Option ℕ) (h : RangeHead) (l : ForAlt) (m : ℕ) (q : Spot) (z u : Reading)
    → Judges q.from own (IsOver text (mark m q)) dots z u
    → Judges q.from own (IsOver text (mark m q)) dots (bounds (strictly text) h l m q z) (bounds (loosely text) h l m q u)
unfolding bounds is_failed
uppers text own h l m q z u o =
    if (eqb m true_mark) (λ _. goes refl) (λ _.
    if (eqb m false_mark) (λ _. goes refl) (λ _.
    if (eqb m integer_mark) (λ e. fits text false q (λ o. (e, (false, o))) (goes refl)) (λ _.
    if (eqb m minus_mark) (λ _. goes refl) (λ _.
    o))))

paths :
    {int : Type 0} {dots : Bool} (own : Option ℕ) (p : NamePath) (s : ForPlain) (m : ℕ) (q : Spot)
    → Judges q.from own int dots (behind_path p s m q) (behind_path p s m q)
unfolding behind_path is_failed
paths own p s m q =
    if (eqb m path_sep_mark) (λ _. goes refl) (λ _.
    if (eqb m open_paren_mark) (λ _. goes refl) (λ _.
    if (eqb m open_brace_mark) (λ _. goes refl) (λ _.
    if (eqb m dot_dot_mark) (λ _. ranges s q (read_from (place p) q) (λ l. refl)) (λ _.
    if (eqb m dot_dot_eq_mark) (λ _. ranges s q (read_to (from_head (place p) (inclusive q))) (λ l. refl)) (λ _.
    stops)))))

fields :
    {int : Type 0} {dots : Bool} (own : Option ℕ) (f : RecordField) (h : RecordHead) (fs : RecordFields) (s : ForPlain) (m : ℕ) (q : Spot)
    → Judges q.from own int dots (behind_field f h fs s m q) (behind_field f h fs s m q)
unfolding behind_field is_failed
fields own f h fs s m q = if (eqb m comma_mark) (λ _. goes refl) (λ _. if (eqb m close_brace_mark) (λ _. goes refl) (λ _. stops))

finishes : {int : Type 0} {dots : Bool} (own : Option ℕ) (o : ForPattern) (m : ℕ) (q : Spot) → Judges q.from own int dots (ends o m q) (ends o m q)
unfolding ends is_failed
finishes own whole_text m q = stops
finishes own (for_item h is s) m q = if (eqb m (closer h)) (λ _. goes refl) (λ _. stops)
finishes own (for_field h fs key c s) m q = stops

negatives : {int : Type 0} {dots : Bool} (own : Option ℕ) (i : BoundPlace) (v : LiteralPattern) (here : ℕ) → Judges here own int dots (negative_in i v) (negative_in i v)
unfolding negative_in is_failed
negatives own (at_start s) v here = goes refl
negatives own (at_end h l) v here = goes refl

not_upward : (h : RangeHead) (b : RangeBound) → upward_at (range_of h b) ≡ none
unfolding range_of upward_at
not_upward (up_to_head d) b = refl
not_upward (from_head a d) b = refl

-- a rest that may not stand has the place
rests :
    {int : Type 0} {dots : Bool} (d : Spot) (l : ForAlt) (text : List ℕ) (m : ℕ) (q : Spot)
    → Judges q.from (some d.from) int dots
    (cond (rest_stands (strictly text) l m) (after (strictly text) (close_alt (plain (rest d)) l) m q) (failed d.from))
    (cond (rest_stands (loosely text) l m) (after (loosely text) (close_alt (plain (rest d)) l) m q) (failed d.from))
unfolding rest_stands upward_at
rests {int} {dots} d l text m q = by (fits_rest (room_in l) && not (eqb m or_mark))
  where
    by :
        (b : Bool) → Judges q.from (some d.from) int dots
        (cond (b || false) (after (strictly text) (close_alt (plain (rest d)) l) m q) (failed d.from))
        (cond (b || true) (after (loosely text) (close_alt (plain (rest d)) l) m q) (failed d.from))
    by true = closes _ text (some d.from) m q (shut_alt l (plain (rest d)) refl)
    by false = at_own d.from _ refl

on_mark_lem :
    (r : Reading) (text : List ℕ) (m : ℕ) (q : Spot)
    → Judges q.from (own_at r) (IsOver text (mark m q)) (eqb m dot_dot_mark) (on_mark (strictly text) r m q) (on_mark (loosely text) r m q)
unfolding on_mark own_at is_failed upward_at
on_mark_lem (begin o) text m q =
    if (eqb m or_mark) (λ _. goes refl) (λ _. if (follows m) (λ _. finishes none o m q) (λ _. begins text none (any_alt (first_alt none o)) m q))
on_mark_lem (expect s) text m q = begins text none s m q
on_mark_lem (read_amp a s) text m q = if (eqb m mut_mark) (λ _. goes refl) (λ _. begins text none (behind_amp a none s) m q)
on_mark_lem (read_ref i r) text m q = if (eqb m mut_mark) (λ _. goes refl) (λ _. stops)
on_mark_lem (read_mut i r u) text m q = stops
on_mark_lem (read_name n s) text m q =
    if (follows m) (λ _. closes _ text none m q (shut_plain s (ident (bare_name n)))) (λ _.
    if (eqb m bind_mark) (λ _. goes refl) (λ _. paths none (segment n) s m q))
on_mark_lem (read_bound b s) text m q =
    if (follows m) (λ _. closes _ text none m q (shut_plain s (ident b))) (λ _. if (eqb m bind_mark) (λ _. goes refl) (λ _. stops))
on_mark_lem (read_path p c n s) text m q = if (follows m) (λ _. closes _ text none m q (shut_plain s (path p c n))) (λ _. paths none (inside p c n) s m q)
on_mark_lem (read_sep p c i) text m q = stops
on_mark_lem (read_minus c i) text m q =
    if (eqb m integer_mark) (λ e. fits text true q (λ o. (e, (true, o))) (negatives none i (negative c q) q.from)) (λ _. stops)
on_mark_lem (read_literal v s) text m q =
    if (follows m) (λ _. closes _ text none m q (shut_plain s (literal v))) (λ _.
    if (eqb m dot_dot_mark) (λ _. ranges s q (read_from (constant v) q) (λ l. refl)) (λ _.
    if (eqb m dot_dot_eq_mark) (λ _. ranges s q (read_to (from_head (constant v) (inclusive q))) (λ l. refl)) (λ _.
    stops)))
on_mark_lem (read_dots d l) text m q = uppers text (some d.from) (up_to_head (exclusive d)) l m q _ _ (rests d l text m q)
on_mark_lem (read_from a d l) text m q =
    uppers text (some (bound_at a)) (from_head a (exclusive d)) l m q _ _
    (if (follows m) (λ _. behinds _ text _ (some (bound_at a)) m q (λ at e. open_upward l a d at e)) (λ _. stops))
on_mark_lem (read_to h l) text m q = uppers text none h l m q _ _ stops
on_mark_lem (read_to_path p h l) text m q =
    if (follows m) (λ _. closes _ text none m q (shut_alt l (range_of h (place p)) (not_upward h (place p)))) (λ _.
    if (eqb m path_sep_mark) (λ _. goes refl) (λ _. stops))
on_mark_lem (read_alt c) text m q = behinds c.waiting text c.pattern (open_at c.pattern) m q (λ at e. e)
on_mark_lem (read_brace h fs s) text m q =
    if (eqb m close_brace_mark) (λ _. goes refl) (λ _.
    if (eqb m dot_dot_mark) (λ _. goes refl) (λ _.
    if (eqb m integer_mark) (λ e. fits text false q (λ o. (e, (false, o))) (goes refl)) (λ _.
    if (eqb m ref_mark) (λ _. goes refl) (λ _.
    if (eqb m mut_mark) (λ _. goes refl) (λ _.
    stops)))))
on_mark_lem (read_label n h fs s) text m q = if (eqb m colon_mark) (λ _. goes refl) (λ _. fields none (short (bare_name n)) h fs s m q)
on_mark_lem (read_index i h fs s) text m q = if (eqb m colon_mark) (λ _. goes refl) (λ _. stops)
on_mark_lem (read_field f h fs s) text m q = fields none f h fs s m q
on_mark_lem (read_etc d h fs s) text m q = if (eqb m close_brace_mark) (λ _. goes refl) (λ _. stops)
on_mark_lem (done p e) text m q = stops
on_mark_lem (failed at) text m q = at_own at _ refl

named_goes : (i : NamePlace) (b : BoundName) (own : Option ℕ) (here : ℕ) → Judges here own ⊥ false (named_in i b) (named_in i b)
unfolding named_in is_failed
named_goes (in_pattern s) b own here = goes refl
named_goes (in_record h fs s) b own here = goes refl

path_goes : (i : BoundPlace) (p : NamePath) (c : Spot) (n : Identifier) (own : Option ℕ) (here : ℕ) → Judges here own ⊥ false (path_in i p c n) (path_in i p c n)
unfolding path_in is_failed
path_goes (at_start s) p c n own here = goes refl
path_goes (at_end h l) p c n own here = goes refl

on_name_lem : (r : Reading) (n : Identifier) → Judges n.spot.from (own_at r) ⊥ false (on_name r n) (on_name r n)
unfolding on_name own_at is_failed
on_name_lem (begin o) n = goes refl
on_name_lem (expect s) n = goes refl
on_name_lem (read_amp a s) n = goes refl
on_name_lem (read_ref i r) n = named_goes i _ none n.spot.from
on_name_lem (read_mut i r u) n = named_goes i _ none n.spot.from
on_name_lem (read_name x s) n = stops
on_name_lem (read_bound b s) n = stops
on_name_lem (read_path p c x s) n = stops
on_name_lem (read_sep p c i) n = path_goes i p c n none n.spot.from
on_name_lem (read_minus c i) n = stops
on_name_lem (read_literal l s) n = stops
on_name_lem (read_dots d l) n = goes refl
on_name_lem (read_from a d l) n = goes refl
on_name_lem (read_to h l) n = goes refl
on_name_lem (read_to_path p h l) n = stops
on_name_lem (read_alt c) n = stops
on_name_lem (read_brace h fs s) n = goes refl
on_name_lem (read_label x h fs s) n = stops
on_name_lem (read_index i h fs s) n = stops
on_name_lem (read_field x h fs s) n = stops
on_name_lem (read_etc d h fs s) n = stops
on_name_lem (done p e) n = stops
on_name_lem (failed at) n = at_own at _ refl

on_scalar_lem : (r : Reading) (v : ℕ) (q : Spot) → Judges q.from (own_at r) ⊥ false (on_char r v q) (on_char r v q)
unfolding on_char own_at is_failed
on_scalar_lem (begin o) v q = goes refl
on_scalar_lem (expect s) v q = goes refl
on_scalar_lem (read_amp a s) v q = goes refl
on_scalar_lem (read_ref i r) v q = stops
on_scalar_lem (read_mut i r u) v q = stops
on_scalar_lem (read_name x s) v q = stops
on_scalar_lem (read_bound b s) v q = stops
on_scalar_lem (read_path p c x s) v q = stops
on_scalar_lem (read_sep p c i) v q = stops
on_scalar_lem (read_minus c i) v q = stops
on_scalar_lem (read_literal l s) v q = stops
on_scalar_lem (read_dots d l) v q = goes refl
on_scalar_lem (read_from a d l) v q = goes refl
on_scalar_lem (read_to h l) v q = goes refl
on_scalar_lem (read_to_path p h l) v q = stops
on_scalar_lem (read_alt c) v q = stops
on_scalar_lem (read_brace h fs s) v q = stops
on_scalar_lem (read_label x h fs s) v q = stops
on_scalar_lem (read_index i h fs s) v q = stops
on_scalar_lem (read_field x h fs s) v q = stops
on_scalar_lem (read_etc d h fs s) v q = stops
on_scalar_lem (done p e) v q = stops
on_scalar_lem (failed at) v q = at_own at _ refl

-- a step, and the same by the grammar alone
pub judged :
    (t : Lexeme) (text : List ℕ) (r : Reading)
    → Judges (lexeme_at t) (own_at r) (IsOver text t) (is_dots t) (step (strictly text) r t) (step (loosely text) r t)
unfolding step lexeme_at is_dots
judged (name n) text r = on_name_lem r n
judged (scalar v q) text r = on_scalar_lem r v q
judged (mark m q) text r = on_mark_lem r text m q
