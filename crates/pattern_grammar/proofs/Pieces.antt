-- Names, paths, literals, bounds and what opens lists are read back from what they are written as. Assumes nothing.
use Prim.Native.Nat.{ℕ}
use mathlib.Core.Path.{◌≡◌, refl, sym, ap, ◌∙◌}
use mathlib.Core.Bool.{Bool, true, false, not, true≢false}
use mathlib.Core.Option.{Option, none, some}
use mathlib.Core.List.{List, ◌∷◌}
use lib.Dec.{eqb, ltb}
use borrow.Author.Tests.{ne_eqb, not-true}
use Rattle.pattern_grammar.specs.Lexemes.{Spot, Identifier, Lexeme, name, mark, ref_mark, mut_mark, true_mark, false_mark, integer_mark, minus_mark, path_sep_mark, open_brace_mark, open_paren_mark, dot_dot_mark, dot_dot_eq_mark, bind_mark, follows, wide, Source}
use Rattle.pattern_grammar.specs.Trees.{NamePath, segment, inside, LiteralPattern, true_at, false_at, character, whole, negative, RangeBound, constant, place, exclusive, inclusive, ListHead, tuple_at, struct_at, slice_at, no_item, no_field, RecordHead, path, path_t, literal_t, bound_t, optional_t, head_t, record_t}
use Rattle.pattern_grammar.specs.Admitted.{literal_fits, bound_fits}
use Rattle.pattern_grammar.specs.Machine.{ForPlain, any_alt, ForAlt, for_item, RangeHead, up_to_head, from_head, range_of, at_end, Reading, begin, expect, read_name, read_bound, read_path, read_minus, read_literal, read_dots, read_from, read_to, read_to_path, read_alt, read_brace, close_alt, ranged, fitting, starts, bounds, behind_path, named_in, path_in, negative_in, on_mark, on_name, on_char, step, feed}
use Rattle.pattern_grammar.proofs.Beginnings.{cond_true}

-- a mark that can stand behind a pattern is none of those that cannot
pub apart : (m c : ℕ) → follows m ≡ true → follows c ≡ false → eqb m c ≡ false
apart m c f g = ne_eqb m c (λ e. true≢false (sym f ∙ (ap (λ x. ltb x 6) e ∙ g)))

pub fits_goes : (text : Source) (minus : Bool) (q : Spot) (go : Reading) → not (wide text minus q) ≡ true → fitting text minus q go ≡ go
unfolding fitting
fits_goes text minus q go e = rw (not-true (wide text minus q) e) refl

-- what is read last behind a path
unfoldable pub at_path : NamePath → ForPlain → Reading
at_path (segment n) s = read_name n s
at_path (inside p c n) s = read_path p c n s

pub path_mark :
    (p : NamePath) (text : Source) (s : ForPlain) (m : ℕ) (q : Spot)
    → follows m ≡ false → eqb m bind_mark ≡ false → on_mark text (at_path p s) m q ≡ behind_path p s m q
unfolding at_path on_mark
path_mark (segment n) text s m q f b = rw f (rw b refl)
path_mark (inside p c n) text s m q f b = rw f refl

pub path_read : (p : NamePath) (text : Source) (s : ForPlain) (k : List Lexeme) → feed text (path_t p k) (expect s) ≡ feed text k (at_path p s)
unfolding path_t feed step at_path on_name behind_path path_in
path_read (segment n) text s k = refl
path_read (inside p c n) text s k =
    path_read p text s (mark path_sep_mark c ∷ name n ∷ k)
    ∙ ap (λ r. feed text k (on_name r n)) (path_mark p text s path_sep_mark c refl refl)

pub literal_read :
    (v : LiteralPattern) (text : Source) (s : ForPlain) (k : List Lexeme)
    → literal_fits text v ≡ true → feed text (literal_t v k) (expect s) ≡ feed text k (read_literal v s)
unfolding literal_t literal_fits feed step starts on_mark on_char negative_in
literal_read (true_at q) text s k e = refl
literal_read (false_at q) text s k e = refl
literal_read (character v q) text s k e = refl
literal_read (whole q) text s k e = ap (feed text k) (fits_goes text false q (read_literal (whole q) s) e)
literal_read (negative c q) text s k e = ap (feed text k) (fits_goes text true q (read_literal (negative c q) s) e)

-- what is read last behind a lower bound
unfoldable pub at_bound : RangeBound → ForPlain → Reading
at_bound (constant v) s = read_literal v s
at_bound (place p) s = at_path p s

pub bound_read :
    (b : RangeBound) (text : Source) (s : ForPlain) (k : List Lexeme)
    → bound_fits text b ≡ true → feed text (bound_t b k) (expect s) ≡ feed text k (at_bound b s)
unfolding bound_t bound_fits at_bound
bound_read (constant v) text s k e = literal_read v text s k e
bound_read (place p) text s k e = path_read p text s k

pub from_dots : (b : RangeBound) (text : Source) (l : ForAlt) (q : Spot) → on_mark text (at_bound b (any_alt l)) dot_dot_mark q ≡ read_from b q l
unfolding at_bound on_mark behind_path ranged
from_dots (constant v) text l q = refl
from_dots (place p) text l q = path_mark p text (any_alt l) dot_dot_mark q refl refl

pub from_equals :
    (b : RangeBound) (text : Source) (l : ForAlt) (q : Spot)
    → on_mark text (at_bound b (any_alt l)) dot_dot_eq_mark q ≡ read_to (from_head b (inclusive q)) l
unfolding at_bound on_mark behind_path ranged
from_equals (constant v) text l q = refl
from_equals (place p) text l q = path_mark p text (any_alt l) dot_dot_eq_mark q refl refl

-- a reading that takes the upper bound of a range
pub record Awaits (text : Source) (h : RangeHead) (l : ForAlt) (r : Reading) : Type 0 where
  pub names : (n : Identifier) → on_name r n ≡ read_to_path (segment n) h l
  pub scalars : (v : ℕ) (q : Spot) → on_char r v q ≡ read_alt (close_alt (range_of h (constant (character v q))) l)
  pub truths : (q : Spot) → on_mark text r true_mark q ≡ read_alt (close_alt (range_of h (constant (true_at q))) l)
  pub untruths : (q : Spot) → on_mark text r false_mark q ≡ read_alt (close_alt (range_of h (constant (false_at q))) l)
  pub integers : (q : Spot) → on_mark text r integer_mark q ≡ fitting text false q (read_alt (close_alt (range_of h (constant (whole q))) l))
  pub minuses : (q : Spot) → on_mark text r minus_mark q ≡ read_minus q (at_end h l)

pub dots_await : (text : Source) (d : Spot) (l : ForAlt) → Awaits text (up_to_head (exclusive d)) l (read_dots d l)
unfolding on_name on_char on_mark bounds range_of
dots_await text d l = record {
  names = λ n. refl;
  scalars = λ v q. refl;
  truths = λ q. refl;
  untruths = λ q. refl;
  integers = λ q. refl;
  minuses = λ q. refl;
}

pub from_awaits : (text : Source) (a : RangeBound) (d : Spot) (l : ForAlt) → Awaits text (from_head a (exclusive d)) l (read_from a d l)
unfolding on_name on_char on_mark bounds range_of
from_awaits text a d l = record {
  names = λ n. refl;
  scalars = λ v q. refl;
  truths = λ q. refl;
  untruths = λ q. refl;
  integers = λ q. refl;
  minuses = λ q. refl;
}

pub to_awaits : (text : Source) (h : RangeHead) (l : ForAlt) → Awaits text h l (read_to h l)
unfolding on_name on_char on_mark bounds
to_awaits text h l = record {
  names = λ n. refl;
  scalars = λ v q. refl;
  truths = λ q. refl;
  untruths = λ q. refl;
  integers = λ q. refl;
  minuses = λ q. refl;
}

upper_path :
    (p : NamePath) (text : Source) (h : RangeHead) (l : ForAlt) (r : Reading) (k : List Lexeme)
    → Awaits text h l r → feed text (path_t p k) r ≡ feed text k (read_to_path p h l)
unfolding path_t feed step on_mark on_name path_in
upper_path (segment n) text h l r k a = ap (feed text k) (a.names n)
upper_path (inside p c n) text h l r k a = upper_path p text h l r (mark path_sep_mark c ∷ name n ∷ k) a

upper_literal :
    (v : LiteralPattern) (text : Source) (h : RangeHead) (l : ForAlt) (r : Reading) (k : List Lexeme)
    → Awaits text h l r → literal_fits text v ≡ true → feed text (literal_t v k) r ≡ feed text k (read_alt (close_alt (range_of h (constant v)) l))
unfolding literal_t literal_fits feed step on_mark negative_in
upper_literal (true_at q) text h l r k a e = ap (feed text k) (a.truths q)
upper_literal (false_at q) text h l r k a e = ap (feed text k) (a.untruths q)
upper_literal (character v q) text h l r k a e = ap (feed text k) (a.scalars v q)
upper_literal (whole q) text h l r k a e =
    ap (feed text k) (a.integers q ∙ fits_goes text false q (read_alt (close_alt (range_of h (constant (whole q))) l)) e)
upper_literal (negative c q) text h l r k a e =
    ap (λ u. feed text k (on_mark text u integer_mark q)) (a.minuses c)
    ∙ ap (feed text k) (fits_goes text true q (read_alt (close_alt (range_of h (constant (negative c q))) l)) e)

-- an upper bound closes the range, at the latest before a mark that can stand behind a pattern
pub upper_read :
    (b : RangeBound) (text : Source) (h : RangeHead) (l : ForAlt) (r : Reading) (m : ℕ) (q : Spot) (k : List Lexeme)
    → Awaits text h l r → bound_fits text b ≡ true → follows m ≡ true
    → feed text (bound_t b (mark m q ∷ k)) r ≡ feed text (mark m q ∷ k) (read_alt (close_alt (range_of h b) l))
unfolding bound_t bound_fits feed step on_mark
upper_read (constant v) text h l r m q k a e f = upper_literal v text h l r (mark m q ∷ k) a e
upper_read (place p) text h l r m q k a e f =
    upper_path p text h l r (mark m q ∷ k) a
    ∙ ap (feed text k) (cond_true (follows m) _ _ f)

-- what is read last behind a name, with `ref` and `mut` or without
unfoldable pub at_name : Option Spot → Option Spot → Identifier → ForPlain → Reading
at_name none none n s = read_name n s
at_name none (some q) n s = read_bound (record { by_ref = none; mutable = some q; called = n }) s
at_name (some c) m n s = read_bound (record { by_ref = some c; mutable = m; called = n }) s

pub name_read :
    (by_ref mutable : Option Spot) (n : Identifier) (text : Source) (s : ForPlain) (k : List Lexeme)
    → feed text (optional_t by_ref ref_mark (optional_t mutable mut_mark (name n ∷ k))) (expect s) ≡ feed text k (at_name by_ref mutable n s)
unfolding optional_t feed step on_mark on_name starts at_name named_in
name_read none none n text s k = refl
name_read none (some q) n text s k = refl
name_read (some c) none n text s k = refl
name_read (some c) (some q) n text s k = refl

pub head_read :
    (h : ListHead) (text : Source) (s : ForPlain) (k : List Lexeme) → feed text (head_t h k) (expect s) ≡ feed text k (begin (for_item h no_item s))
unfolding head_t feed step on_mark starts behind_path
head_read (tuple_at q) text s k = refl
head_read (struct_at p q) text s k =
    path_read p text s (mark open_paren_mark q ∷ k)
    ∙ ap (feed text k) (path_mark p text s open_paren_mark q refl refl)
head_read (slice_at q) text s k = refl

pub record_read :
    (h : RecordHead) (text : Source) (s : ForPlain) (k : List Lexeme) → feed text (record_t h k) (expect s) ≡ feed text k (read_brace h no_field s)
unfolding record_t feed step behind_path
record_read h text s k =
    path_read h.path text s (mark open_brace_mark h.brace ∷ k)
    ∙ ap (feed text k) (path_mark h.path text s open_brace_mark h.brace refl refl)
