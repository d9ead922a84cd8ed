-- What is open can be completed: a reading that has not failed is the beginning of a text that is read. Assumes nothing.
use Prim.Native.Nat.{ℕ}
use mathlib.Core.Path.{◌≡◌, refl, ap, ◌∙◌}
use mathlib.Core.Bool.{false, true≢false}
use mathlib.Core.Option.{none, some}
use mathlib.Core.List.{List, [], ◌∷◌}
use Rattle.decimal_values.specs.Values.{decimal_from, in_halves, integer_value}
use Rattle.pattern_grammar.specs.Lexemes.{Spot, Identifier, Lexeme, name, mark, end_mark, or_mark, close_brace_mark, true_mark, underscore_mark, integer_mark, colon_mark, wide, over, Source}
use Rattle.pattern_grammar.specs.Trees.{inside, true_at, negative, constant, place, exclusive, bare_name, ListHead, tuple_at, struct_at, slice_at, closer, index, Pattern, alone, or, NoTopAlt, plain, WithoutRange, literal, ident, ident_at, wild, reference, path, list_to, record_of, record_to, record_dots, ListItems, keyed, short}
use Rattle.pattern_grammar.specs.Admitted.{open_item_at, open_at, when_strict}
use Rattle.pattern_grammar.specs.Machine.{ForPlain, any_alt, behind_amp, ForAlt, first_alt, next_alt, behind_at, ForPattern, whole_text, for_item, for_field, closed_in, up_to_head, from_head, range_of, at_start, at_end, in_pattern, in_record, Reading, begin, expect, read_amp, read_ref, read_mut, read_name, read_bound, read_path, read_sep, read_minus, read_literal, read_dots, read_from, read_to, read_to_path, read_alt, read_brace, read_label, read_index, read_field, read_etc, done, failed, close_alt, close_plain, fitting, unless_open, starts, bounds, behind, named_in, path_in, negative_in, behind_field, on_mark, on_name, step, feed, is_failed}

-- where the tokens that are added stand does not matter
abbrev pub nowhere : Spot
nowhere = record { from = 0; to = 0 }

abbrev pub some_name : Identifier
some_name = record { own = 0; spot = nowhere }

-- tokens that close what is open behind a whole alternative: `| _`, and a closing bracket for each that is open
unfoldable mutual
  pub end_plain : ForPlain → List Lexeme
  end_plain (any_alt l) = end_alt l
  end_plain (behind_amp a m s) = end_plain s

  pub end_alt : ForAlt → List Lexeme
  end_alt (first_alt lead o) = mark or_mark nowhere ∷ mark underscore_mark nowhere ∷ end_open o
  end_alt (next_alt p c o) = mark or_mark nowhere ∷ mark underscore_mark nowhere ∷ end_open o
  end_alt (behind_at b c s) = end_plain s

  pub end_open : ForPattern → List Lexeme
  end_open whole_text = mark end_mark nowhere ∷ []
  end_open (for_item h is s) = mark (closer h) nowhere ∷ end_plain s
  end_open (for_field h fs key c s) = mark close_brace_mark nowhere ∷ end_plain s

-- the tokens lead a reading to the whole text
pub record Finishes (text : Source) (ts : List Lexeme) (r : Reading) : Type 0 where
  pub tree : Pattern
  pub end : Spot
  pub reads : feed text ts r ≡ done tree end

from_here :
    {text : Source} {ts us : List Lexeme} {r u : Reading} → feed text ts r ≡ feed text us u → Finishes text us u → Finishes text ts r
from_here e f = record { tree = f.tree; end = f.end; reads = e ∙ f.reads }

stepped : {text : Source} (m : ℕ) (q : Spot) (ts : List Lexeme) (r : Reading) → Finishes text ts (on_mark text r m q) → Finishes text (mark m q ∷ ts) r
unfolding feed step
stepped m q ts r f = record { tree = f.tree; end = f.end; reads = f.reads }

named : {text : Source} (n : Identifier) (ts : List Lexeme) (r : Reading) → Finishes text ts (on_name r n) → Finishes text (name n ∷ ts) r
unfolding feed step
named n ts r f = record { tree = f.tree; end = f.end; reads = f.reads }

-- readings that go on alike behind `|` close alike
mutual
  unfolding end_plain feed step

  or_plain :
      (s : ForPlain) (text : Source) (r u : Reading)
      → on_mark text r or_mark nowhere ≡ on_mark text u or_mark nowhere → feed text (end_plain s) r ≡ feed text (end_plain s) u
  or_plain (any_alt l) text r u e = or_alt l text r u e
  or_plain (behind_amp a m s) text r u e = or_plain s text r u e

  or_alt :
      (l : ForAlt) (text : Source) (r u : Reading)
      → on_mark text r or_mark nowhere ≡ on_mark text u or_mark nowhere → feed text (end_alt l) r ≡ feed text (end_alt l) u
  or_alt (first_alt lead o) text r u e = ap (feed text (mark underscore_mark nowhere ∷ end_open o)) e
  or_alt (next_alt p c o) text r u e = ap (feed text (mark underscore_mark nowhere ∷ end_open o)) e
  or_alt (behind_at b c s) text r u e = or_plain s text r u e

shut_item :
    (h : ListHead) (p : Pattern) (c : Spot) (a : NoTopAlt) (is : ListItems) (s : ForPlain) (text : Source)
    → behind text (or p c a) (for_item h is s) (closer h) nowhere ≡ read_alt (close_plain (list_to h is (or p c a) nowhere) s)
unfolding behind closer open_item_at open_at when_strict unless_open
shut_item (tuple_at q) p c a is s text = refl
shut_item (struct_at n q) p c a is s text = refl
shut_item (slice_at q) p c a is s text = refl

bar_wild : (o : ForPattern) (p : Pattern) (text : Source) → feed text (mark or_mark nowhere ∷ mark underscore_mark nowhere ∷ end_open o) (read_alt (closed_in p o)) ≡ feed text (end_open o) (read_alt (closed_in (or p nowhere (plain (wild nowhere))) o))
unfolding feed step on_mark behind starts close_alt
bar_wild whole_text p text = refl
bar_wild (for_item h is s) p text = refl
bar_wild (for_field h fs key c s) p text = refl

mutual
  unfolding end_plain close_alt feed step on_mark behind

  pub finish_plain : (s : ForPlain) (text : Source) (w : WithoutRange) → Finishes text (end_plain s) (read_alt (close_plain w s))
  finish_plain (any_alt l) text w = finish_alt l text (plain w)
  finish_plain (behind_amp a m s) text w = finish_plain s text (reference a m w)

  pub finish_alt : (l : ForAlt) (text : Source) (a : NoTopAlt) → Finishes text (end_alt l) (read_alt (close_alt a l))
  finish_alt (first_alt lead o) text a = from_here (bar_wild o (alone lead a) text) (finish_open o text (alone lead a) nowhere (plain (wild nowhere)))
  finish_alt (next_alt p c o) text a = from_here (bar_wild o (or p c a) text) (finish_open o text (or p c a) nowhere (plain (wild nowhere)))
  finish_alt (behind_at b c s) text a = finish_plain s text (ident_at b c a)

  pub finish_open :
      (o : ForPattern) (text : Source) (p : Pattern) (c : Spot) (a : NoTopAlt) → Finishes text (end_open o) (read_alt (closed_in (or p c a) o))
  finish_open whole_text text p c a = record { tree = or p c a; end = nowhere; reads = refl }
  finish_open (for_item h is s) text p c a =
      from_here (ap (feed text (end_plain s)) (shut_item h p c a is s text)) (finish_plain s text (list_to h is (or p c a) nowhere))
  finish_open (for_field h fs key d s) text p c a = stepped _ _ _ _ (finish_plain s text (record_to h fs (keyed key d (or p c a)) nowhere))

-- tokens that complete a reading
unfoldable pub completion : Reading → List Lexeme
completion (begin o) = mark underscore_mark nowhere ∷ end_alt (first_alt none o)
completion (expect s) = mark underscore_mark nowhere ∷ end_plain s
completion (read_amp a s) = mark underscore_mark nowhere ∷ end_plain s
completion (read_ref (in_pattern s) r) = name some_name ∷ end_plain s
completion (read_ref (in_record h fs s) r) = name some_name ∷ mark close_brace_mark nowhere ∷ end_plain s
completion (read_mut (in_pattern s) r u) = name some_name ∷ end_plain s
completion (read_mut (in_record h fs s) r u) = name some_name ∷ mark close_brace_mark nowhere ∷ end_plain s
completion (read_name n s) = end_plain s
completion (read_bound b s) = end_plain s
completion (read_path p c n s) = end_plain s
completion (read_sep p c (at_start s)) = name some_name ∷ end_plain s
completion (read_sep p c (at_end h l)) = name some_name ∷ end_alt l
completion (read_minus c (at_start s)) = mark integer_mark nowhere ∷ end_plain s
completion (read_minus c (at_end h l)) = mark integer_mark nowhere ∷ end_alt l
completion (read_literal v s) = end_plain s
completion (read_dots d l) = mark true_mark nowhere ∷ end_alt l
completion (read_from a d l) = mark true_mark nowhere ∷ end_alt l
completion (read_to h l) = mark true_mark nowhere ∷ end_alt l
completion (read_to_path p h l) = end_alt l
completion (read_alt c) = mark or_mark nowhere ∷ mark underscore_mark nowhere ∷ end_open c.waiting
completion (read_brace h fs s) = mark close_brace_mark nowhere ∷ end_plain s
completion (read_label n h fs s) = mark close_brace_mark nowhere ∷ end_plain s
completion (read_index i h fs s) = mark colon_mark nowhere ∷ mark underscore_mark nowhere ∷ mark close_brace_mark nowhere ∷ end_plain s
completion (read_field f h fs s) = mark close_brace_mark nowhere ∷ end_plain s
completion (read_etc d h fs s) = mark close_brace_mark nowhere ∷ end_plain s
completion (done p e) = []
completion (failed at) = []

-- a reading that has not failed can be completed
pub viable : (r : Reading) (text : Source) → is_failed r ≡ false → Finishes text (completion r) r
unfolding completion is_failed end_plain feed step on_mark on_name starts bounds behind_field behind named_in path_in negative_in fitting wide over integer_value in_halves decimal_from close_alt range_of
viable (begin o) text e = stepped _ _ _ _ (finish_alt (first_alt none o) text (plain (wild nowhere)))
viable (expect s) text e = stepped _ _ _ _ (finish_plain s text (wild nowhere))
viable (read_amp a s) text e = stepped _ _ _ _ (finish_plain (behind_amp a none s) text (wild nowhere))
viable (read_ref (in_pattern s) r) text e = named _ _ _ (from_here (or_plain s text _ (read_alt (close_plain (ident (record { by_ref = some r; mutable = none; called = some_name })) s)) refl) (finish_plain s text _))
viable (read_ref (in_record h fs s) r) text e = named _ _ _ (stepped _ _ _ _ (finish_plain s text (record_to h fs (short (record { by_ref = some r; mutable = none; called = some_name })) nowhere)))
viable (read_mut (in_pattern s) r u) text e = named _ _ _ (from_here (or_plain s text _ (read_alt (close_plain (ident (record { by_ref = r; mutable = some u; called = some_name })) s)) refl) (finish_plain s text _))
viable (read_mut (in_record h fs s) r u) text e = named _ _ _ (stepped _ _ _ _ (finish_plain s text (record_to h fs (short (record { by_ref = r; mutable = some u; called = some_name })) nowhere)))
viable (read_name n s) text e = from_here (or_plain s text _ (read_alt (close_plain (ident (bare_name n)) s)) refl) (finish_plain s text _)
viable (read_bound b s) text e = from_here (or_plain s text _ (read_alt (close_plain (ident b) s)) refl) (finish_plain s text _)
viable (read_path p c n s) text e = from_here (or_plain s text _ (read_alt (close_plain (path p c n) s)) refl) (finish_plain s text _)
viable (read_sep p c (at_start s)) text e = named _ _ _ (from_here (or_plain s text _ (read_alt (close_plain (path p c some_name) s)) refl) (finish_plain s text _))
viable (read_sep p c (at_end h l)) text e = named _ _ _ (from_here (or_alt l text _ (read_alt (close_alt (range_of h (place (inside p c some_name))) l)) refl) (finish_alt l text _))
viable (read_minus c (at_start s)) text e = stepped _ _ _ _ (from_here (or_plain s text _ (read_alt (close_plain (literal (negative c nowhere)) s)) refl) (finish_plain s text _))
viable (read_minus c (at_end h l)) text e = stepped _ _ _ _ (finish_alt l text (range_of h (constant (negative c nowhere))))
viable (read_literal v s) text e = from_here (or_plain s text _ (read_alt (close_plain (literal v) s)) refl) (finish_plain s text _)
viable (read_dots d l) text e = stepped _ _ _ _ (finish_alt l text (range_of (up_to_head (exclusive d)) (constant (true_at nowhere))))
viable (read_from a d l) text e = stepped _ _ _ _ (finish_alt l text (range_of (from_head a (exclusive d)) (constant (true_at nowhere))))
viable (read_to h l) text e = stepped _ _ _ _ (finish_alt l text (range_of h (constant (true_at nowhere))))
viable (read_to_path p h l) text e = from_here (or_alt l text _ (read_alt (close_alt (range_of h (place p)) l)) refl) (finish_alt l text _)
viable (read_alt c) text e = from_here (bar_wild c.waiting c.pattern text) (finish_open c.waiting text c.pattern nowhere (plain (wild nowhere)))
viable (read_brace h fs s) text e = stepped _ _ _ _ (finish_plain s text (record_of h fs nowhere))
viable (read_label n h fs s) text e = stepped _ _ _ _ (finish_plain s text (record_to h fs (short (bare_name n)) nowhere))
viable (read_index i h fs s) text e = stepped _ _ _ _ (stepped _ _ _ _ (stepped _ _ _ _ (finish_plain s text (record_to h fs (keyed (index i) nowhere (alone none (plain (wild nowhere)))) nowhere))))
viable (read_field f h fs s) text e = stepped _ _ _ _ (finish_plain s text (record_to h fs f nowhere))
viable (read_etc d h fs s) text e = stepped _ _ _ _ (finish_plain s text (record_dots h fs d nowhere))
viable (done p end) text e = record { tree = p; end = end; reads = refl }
viable (failed at) text e = absurd (true≢false e)
