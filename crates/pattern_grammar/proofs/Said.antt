-- What a reading has taken: the tokens as which what is open is written. A step that goes on adds its token. Assumes nothing.
use Prim.Native.Nat.{ℕ}
use mathlib.Core.Path.{◌≡◌, refl, sym, ap, subst, ◌∙◌}
use mathlib.Core.Bool.{Bool, true, false, cond, true≢false}
use mathlib.Core.Option.{Option, none, some}
use mathlib.Core.List.{List, ◌∷◌}
use lib.Dec.{eqb}
use borrow.Author.Tests.{eqb-true}
use Rattle.pattern_grammar.specs.Lexemes.{Spot, Lexeme, name, mark, end_mark, comma_mark, or_mark, close_brace_mark, ref_mark, mut_mark, true_mark, false_mark, underscore_mark, integer_mark, minus_mark, open_paren_mark, open_bracket_mark, open_brace_mark, and_mark, and_and_mark, bind_mark, colon_mark, path_sep_mark, dot_dot_mark, dot_dot_eq_mark, wide, Source}
use Rattle.pattern_grammar.specs.Trees.{NamePath, true_at, false_at, whole, RangeBound, constant, place, inclusive, closer, RecordHead, Pattern, NoTopAlt, plain, WithoutRange, ident_at, wild, rest, reference, list, list_to, record_to, RecordFields, RecordField, keyed, path_t, literal_t, bound_t, dots_t, optional_t, name_t, ampersand_t, head_t, record_t, key_t, pattern_t, alt_t, plain_t, items_t, fields_t, field_t}
use Rattle.pattern_grammar.specs.Admitted.{open_item_at}
use Rattle.pattern_grammar.specs.Machine.{ForPlain, any_alt, behind_amp, ForAlt, first_alt, next_alt, behind_at, ForPattern, whole_text, for_item, for_field, RangeHead, up_to_head, from_head, range_of, BoundPlace, at_start, at_end, NamePlace, in_pattern, in_record, Reading, begin, expect, read_amp, read_ref, read_mut, read_name, read_bound, read_path, read_sep, read_minus, read_literal, read_dots, read_from, read_to, read_to_path, read_alt, read_brace, read_label, read_index, read_field, read_etc, done, failed, close_alt, close_plain, after, ranged, fitting, unless_open, starts, bounds, behind, ends, behind_path, behind_field, is_failed, dots_in}

-- the tokens that what is open has taken, before others
unfoldable mutual
  pub said_plain : ForPlain → List Lexeme → List Lexeme
  said_plain (any_alt l) k = said_alt l k
  said_plain (behind_amp a m s) k = said_plain s (ampersand_t a ∷ optional_t m mut_mark k)

  pub said_alt : ForAlt → List Lexeme → List Lexeme
  said_alt (first_alt lead o) k = said_open o (optional_t lead or_mark k)
  said_alt (next_alt p c o) k = said_open o (pattern_t p (mark or_mark c ∷ k))
  said_alt (behind_at b c s) k = said_plain s (name_t b (mark bind_mark c ∷ k))

  pub said_open : ForPattern → List Lexeme → List Lexeme
  said_open whole_text k = k
  said_open (for_item h is s) k = said_plain s (head_t h (items_t is k))
  said_open (for_field h fs key c s) k = said_plain s (record_t h (fields_t fs (key_t key ∷ mark colon_mark c ∷ k)))

unfoldable pub range_t : RangeHead → List Lexeme → List Lexeme
range_t (up_to_head d) k = dots_t d ∷ k
range_t (from_head a d) k = bound_t a (dots_t d ∷ k)

unfoldable pub said_record : RecordHead → RecordFields → ForPlain → List Lexeme → List Lexeme
said_record h fs s k = said_plain s (record_t h (fields_t fs k))

unfoldable pub said_bound : BoundPlace → List Lexeme → List Lexeme
said_bound (at_start s) k = said_plain s k
said_bound (at_end h l) k = said_alt l (range_t h k)

unfoldable pub said_name : NamePlace → List Lexeme → List Lexeme
said_name (in_pattern s) k = said_plain s k
said_name (in_record h fs s) k = said_record h fs s k

unfoldable pub said : Reading → List Lexeme → List Lexeme
said (begin o) k = said_open o k
said (expect s) k = said_plain s k
said (read_amp a s) k = said_plain s (ampersand_t a ∷ k)
said (read_ref i r) k = said_name i (mark ref_mark r ∷ k)
said (read_mut i r u) k = said_name i (optional_t r ref_mark (mark mut_mark u ∷ k))
said (read_name n s) k = said_plain s (name n ∷ k)
said (read_bound b s) k = said_plain s (name_t b k)
said (read_path p c n s) k = said_plain s (path_t p (mark path_sep_mark c ∷ name n ∷ k))
said (read_sep p c i) k = said_bound i (path_t p (mark path_sep_mark c ∷ k))
said (read_minus c i) k = said_bound i (mark minus_mark c ∷ k)
said (read_literal v s) k = said_plain s (literal_t v k)
said (read_dots d l) k = said_alt l (mark dot_dot_mark d ∷ k)
said (read_from a d l) k = said_alt l (bound_t a (mark dot_dot_mark d ∷ k))
said (read_to h l) k = said_alt l (range_t h k)
said (read_to_path p h l) k = said_alt l (range_t h (path_t p k))
said (read_alt c) k = said_open c.waiting (pattern_t c.pattern k)
said (read_brace h fs s) k = said_record h fs s k
said (read_label n h fs s) k = said_record h fs s (name n ∷ k)
said (read_index i h fs s) k = said_record h fs s (mark integer_mark i ∷ k)
said (read_field f h fs s) k = said_record h fs s (field_t f k)
said (read_etc d h fs s) k = said_record h fs s (mark dot_dot_mark d ∷ k)
said (done p e) k = pattern_t p (mark end_mark e ∷ k)
said (failed at) k = k

-- a reading has failed, or has taken these tokens, before k
pub record Says (z : Reading) (k ts : List Lexeme) : Type 0 where
  pub written : is_failed z ≡ false → said z k ≡ ts

pub so : {z : Reading} {k ts : List Lexeme} → said z k ≡ ts → Says z k ts
so e = record { written = λ _. e }

pub fails : {at : ℕ} {k ts : List Lexeme} → Says (failed at) k ts
unfolding is_failed
fails = record { written = λ e. absurd (true≢false e) }

pub by_test : {x y : Reading} {k ts : List Lexeme} (b : Bool) → Says x k ts → Says y k ts → Says (cond b x y) k ts
by_test true h g = h
by_test false h g = g

pub by_mark :
    {x y : Reading} {k : List Lexeme} (m c : ℕ) (q : Spot) (w : Lexeme → List Lexeme)
    → Says x k (w (mark c q)) → Says y k (w (mark m q)) → Says (cond (eqb m c) x y) k (w (mark m q))
by_mark {x} {y} {k} m c q w h g = go (eqb m c) refl
  where
    go : (b : Bool) → eqb m c ≡ b → Says (cond b x y) k (w (mark m q))
    go true e = subst (λ z. Says x k (w (mark z q))) (sym (eqb-true m c e)) h
    go false e = g

mutual
  unfolding close_alt said said_alt pattern_t

  pub close_alt_lem : (l : ForAlt) (a : NoTopAlt) (k : List Lexeme) → said (read_alt (close_alt a l)) k ≡ said_alt l (alt_t a k)
  close_alt_lem (first_alt lead o) a k = refl
  close_alt_lem (next_alt p c o) a k = refl
  close_alt_lem (behind_at b c s) a k = close_plain_lem s (ident_at b c a) k

  pub close_plain_lem : (s : ForPlain) (w : WithoutRange) (k : List Lexeme) → said (read_alt (close_plain w s)) k ≡ said_plain s (plain_t w k)
  close_plain_lem (any_alt l) w k = close_alt_lem l (plain w) k
  close_plain_lem (behind_amp a m s) w k = close_plain_lem s (reference a m w) k

pub moved : {z : Reading} {k ts us : List Lexeme} → ts ≡ us → Says z k ts → Says z k us
moved {z} {k} e h = subst (λ x. Says z k x) e h

pub range_written : (h : RangeHead) (b : RangeBound) (k : List Lexeme) → alt_t (range_of h b) k ≡ range_t h (bound_t b k)
unfolding range_of range_t alt_t
range_written (up_to_head d) b k = refl
range_written (from_head a d) b k = refl

pub close_range :
    (h : RangeHead) (b : RangeBound) (l : ForAlt) (k : List Lexeme) → said (read_alt (close_alt (range_of h b) l)) k ≡ said_alt l (range_t h (bound_t b k))
close_range h b l k = close_alt_lem l (range_of h b) k ∙ ap (said_alt l) (range_written h b k)

pub fitting_says :
    {go : Reading} {k ts : List Lexeme} (text : Source) (minus : Bool) (q : Spot) → Says go k ts → Says (fitting text minus q go) k ts
unfolding fitting
fitting_says text minus q h = by_test (wide text minus q) fails h

pub unless_says : {go : Reading} {k ts : List Lexeme} (o : Option ℕ) → Says go k ts → Says (unless_open o go) k ts
unfolding unless_open
unless_says none h = h
unless_says (some at) h = fails

pub ranged_says :
    (s : ForPlain) (q : Spot) (go : ForAlt → Reading) (k : List Lexeme) (w : ForPlain → List Lexeme)
    → ((l : ForAlt) → Says (go l) k (w (any_alt l))) → Says (ranged s q go) k (w s)
unfolding ranged
ranged_says (any_alt l) q go k w h = h l
ranged_says (behind_amp a m s) q go k w h = fails

dots_says : (s : ForPlain) (text : Source) (q : Spot) (k : List Lexeme) → Says (dots_in text s q) k (said_plain s (mark dot_dot_mark q ∷ k))
unfolding dots_in said said_plain plain_t
dots_says (any_alt l) text q k = so refl
dots_says (behind_amp a m s) text q k = by_test text.strict fails (so (close_plain_lem (behind_amp a m s) (rest q) k))

pub starts_says : (text : Source) (s : ForPlain) (m : ℕ) (q : Spot) (k : List Lexeme) → Says (starts text s m q) k (said_plain s (mark m q ∷ k))
unfolding starts said said_name said_bound said_plain range_t ampersand_t dots_t literal_t head_t items_t optional_t plain_t
starts_says text s m q k =
    let w : Lexeme → List Lexeme = λ t. said_plain s (t ∷ k) in
    by_mark m ref_mark q w (so refl)
    (by_mark m mut_mark q w (so refl)
    (by_mark m true_mark q w (so refl)
    (by_mark m false_mark q w (so refl)
    (by_mark m underscore_mark q w (so (close_plain_lem s (wild q) k))
    (by_mark m integer_mark q w (fitting_says text false q (so refl))
    (by_mark m minus_mark q w (so refl)
    (by_mark m open_paren_mark q w (so refl)
    (by_mark m open_bracket_mark q w (so refl)
    (by_mark m and_mark q w (so refl)
    (by_mark m and_and_mark q w (so refl)
    (by_mark m dot_dot_mark q w (dots_says s text q k)
    (by_mark m dot_dot_eq_mark q w
    (ranged_says s q (read_to (up_to_head (inclusive q))) k (λ x. said_plain x (mark dot_dot_eq_mark q ∷ k)) (λ l. so refl))
    fails))))))))))))

pub bounds_says :
    (text : Source) (h : RangeHead) (l : ForAlt) (m : ℕ) (q : Spot) (other : Reading) (k : List Lexeme)
    → Says other k (said_alt l (range_t h (mark m q ∷ k))) → Says (bounds text h l m q other) k (said_alt l (range_t h (mark m q ∷ k)))
unfolding bounds said said_bound bound_t literal_t
bounds_says text h l m q other k o =
    let w : Lexeme → List Lexeme = λ t. said_alt l (range_t h (t ∷ k)) in
    by_mark m true_mark q w (so (close_range h (constant (true_at q)) l k))
    (by_mark m false_mark q w (so (close_range h (constant (false_at q)) l k))
    (by_mark m integer_mark q w (fitting_says text false q (so (close_range h (constant (whole q)) l k)))
    (by_mark m minus_mark q w (so refl)
    o)))

pub behind_says :
    (o : ForPattern) (text : Source) (p : Pattern) (m : ℕ) (q : Spot) (k : List Lexeme) → Says (behind text p o m q) k (said_open o (pattern_t p (mark m q ∷ k)))
unfolding behind said said_plain said_record pattern_t
behind_says whole_text text p m q k =
    let w : Lexeme → List Lexeme = λ t. pattern_t p (t ∷ k) in
    by_mark m or_mark q w (so refl)
    (by_mark m end_mark q w (so refl)
    fails)
behind_says (for_item h is s) text p m q k =
    let w : Lexeme → List Lexeme = λ t. said_open (for_item h is s) (pattern_t p (t ∷ k)) in
    by_mark m or_mark q w (so refl)
    (by_mark m comma_mark q w (unless_says (open_item_at text h p) (so refl))
    (by_mark m (closer h) q w (unless_says (open_item_at text h p) (so (close_plain_lem s (list_to h is p q) k)))
    fails))
behind_says (for_field h fs key c s) text p m q k =
    let w : Lexeme → List Lexeme = λ t. said_open (for_field h fs key c s) (pattern_t p (t ∷ k)) in
    by_mark m or_mark q w (so refl)
    (by_mark m comma_mark q w (so refl)
    (by_mark m close_brace_mark q w (so (close_plain_lem s (record_to h fs (keyed key c p) q) k))
    fails))

pub after_plain :
    (text : Source) (w : WithoutRange) (s : ForPlain) (m : ℕ) (q : Spot) (k : List Lexeme) → Says (after text (close_plain w s) m q) k (said_plain s (plain_t w (mark m q ∷ k)))
unfolding said
after_plain text w s m q k =
    moved (close_plain_lem s w (mark m q ∷ k)) (behind_says (close_plain w s).waiting text (close_plain w s).pattern m q k)

pub after_alt :
    (text : Source) (a : NoTopAlt) (l : ForAlt) (m : ℕ) (q : Spot) (k : List Lexeme) → Says (after text (close_alt a l) m q) k (said_alt l (alt_t a (mark m q ∷ k)))
unfolding said
after_alt text a l m q k = moved (close_alt_lem l a (mark m q ∷ k)) (behind_says (close_alt a l).waiting text (close_alt a l).pattern m q k)

pub path_says :
    (p : NamePath) (s : ForPlain) (m : ℕ) (q : Spot) (k : List Lexeme) → Says (behind_path p s m q) k (said_plain s (path_t p (mark m q ∷ k)))
unfolding behind_path said said_bound said_record said_plain record_t head_t items_t range_t bound_t dots_t
path_says p s m q k =
    let w : Lexeme → List Lexeme = λ t. said_plain s (path_t p (t ∷ k)) in
    by_mark m path_sep_mark q w (so refl)
    (by_mark m open_paren_mark q w (so refl)
    (by_mark m open_brace_mark q w (so refl)
    (by_mark m dot_dot_mark q w (ranged_says s q (read_from (place p) q) k (λ x. said_plain x (path_t p (mark dot_dot_mark q ∷ k))) (λ l. so refl))
    (by_mark m dot_dot_eq_mark q w
    (ranged_says s q (read_to (from_head (place p) (inclusive q))) k (λ x. said_plain x (path_t p (mark dot_dot_eq_mark q ∷ k))) (λ l. so refl))
    fails))))

pub field_says :
    (f : RecordField) (h : RecordHead) (fs : RecordFields) (s : ForPlain) (m : ℕ) (q : Spot) (k : List Lexeme)
    → Says (behind_field f h fs s m q) k (said_record h fs s (field_t f (mark m q ∷ k)))
unfolding behind_field said said_record plain_t
field_says f h fs s m q k =
    let w : Lexeme → List Lexeme = λ t. said_record h fs s (field_t f (t ∷ k)) in
    by_mark m comma_mark q w (so refl)
    (by_mark m close_brace_mark q w (so (close_plain_lem s (record_to h fs f q) k))
    fails)

pub ends_says : (o : ForPattern) (m : ℕ) (q : Spot) (k : List Lexeme) → Says (ends o m q) k (said_open o (mark m q ∷ k))
unfolding ends said said_plain plain_t
ends_says whole_text m q k = fails
ends_says (for_item h is s) m q k =
    by_mark m (closer h) q (λ t. said_open (for_item h is s) (t ∷ k)) (so (close_plain_lem s (list h is q) k)) fails
ends_says (for_field h fs key c s) m q k = fails
