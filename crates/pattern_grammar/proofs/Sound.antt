-- What is read is written as the tokens read; what has failed stays so. Assumes nothing.
use Prim.Native.Nat.{ℕ}
use mathlib.Core.Path.{◌≡◌, refl, sym, ap, ◌∙◌}
use mathlib.Core.Bool.{true, false, true≢false, false≢true}
use mathlib.Core.Logic.{◌⊎◌, inl, inr}
use mathlib.Core.Option.{none}
use mathlib.Core.List.{List, [], ◌∷◌, ◌++◌}
use Rattle.pattern_grammar.specs.Lexemes.{Spot, Identifier, Lexeme, name, scalar, mark, end_mark, or_mark, close_brace_mark, ref_mark, mut_mark, integer_mark, minus_mark, bind_mark, colon_mark, path_sep_mark, dot_dot_mark, dot_dot_eq_mark, follows, Source}
use Rattle.pattern_grammar.specs.Trees.{NamePath, segment, inside, LiteralPattern, character, whole, negative, constant, place, exclusive, inclusive, BoundName, bare_name, Pattern, plain, upward, literal, ident, rest, path, record_of, record_dots, short, path_t, literal_t, bound_t, dots_t, optional_t, name_t, ampersand_t, key_t, pattern_t, alt_t, plain_t, field_t}
use Rattle.pattern_grammar.specs.Admitted.{admitted}
use Rattle.pattern_grammar.specs.Machine.{any_alt, behind_amp, first_alt, RangeHead, up_to_head, from_head, range_of, BoundPlace, at_start, at_end, NamePlace, in_pattern, in_record, Reading, begin, expect, read_amp, read_ref, read_mut, read_name, read_bound, read_path, read_sep, read_minus, read_literal, read_dots, read_from, read_to, read_to_path, read_alt, read_brace, read_label, read_index, read_field, read_etc, done, failed, named_in, path_in, negative_in, on_mark, on_name, on_char, step, feed, fresh, is_failed, rest_stands}
use Rattle.pattern_grammar.proofs.Complete.{complete}
use Rattle.pattern_grammar.proofs.Said.{said_plain, said_alt, said_open, range_t, said_record, said_bound, said_name, said, Says, so, fails, by_test, by_mark, moved, close_plain_lem, range_written, close_range, fitting_says, ranged_says, starts_says, bounds_says, behind_says, after_plain, after_alt, path_says, field_says, ends_says}

named_says : (i : NamePlace) (b : BoundName) (k : List Lexeme) → Says (named_in i b) k (said_name i (name_t b k))
unfolding named_in said said_name field_t
named_says (in_pattern s) b k = so refl
named_says (in_record h fs s) b k = so refl

negative_says : (i : BoundPlace) (v : LiteralPattern) (k : List Lexeme) → Says (negative_in i v) k (said_bound i (literal_t v k))
unfolding negative_in said said_bound bound_t
negative_says (at_start s) v k = so refl
negative_says (at_end h l) v k = so (close_range h (constant v) l k)

inside_says :
    (i : BoundPlace) (p : NamePath) (c : Spot) (n : Identifier) (k : List Lexeme)
    → Says (path_in i p c n) k (said_bound i (path_t p (mark path_sep_mark c ∷ name n ∷ k)))
unfolding path_in said said_bound path_t
inside_says (at_start s) p c n k = so refl
inside_says (at_end h l) p c n k = so refl

pub mark_says : (r : Reading) (text : Source) (m : ℕ) (q : Spot) (k : List Lexeme) → Says (on_mark text r m q) k (said r (mark m q ∷ k))
unfolding on_mark said said_plain said_name said_bound said_record range_t plain_t path_t literal_t bound_t dots_t name_t optional_t ampersand_t key_t
mark_says (begin o) text m q k =
    by_mark m or_mark q (λ t. said_open o (t ∷ k)) (so refl)
    (by_test (follows m) (ends_says o m q k) (starts_says text (any_alt (first_alt none o)) m q k))
mark_says (expect s) text m q k = starts_says text s m q k
mark_says (read_amp a s) text m q k =
    by_mark m mut_mark q (λ t. said_plain s (ampersand_t a ∷ t ∷ k)) (so refl) (starts_says text (behind_amp a none s) m q k)
mark_says (read_ref i r) text m q k = by_mark m mut_mark q (λ t. said_name i (mark ref_mark r ∷ t ∷ k)) (so refl) fails
mark_says (read_mut i r u) text m q k = fails
mark_says (read_name n s) text m q k =
    by_test (follows m) (after_plain text (ident (bare_name n)) s m q k)
    (by_mark m bind_mark q (λ t. said_plain s (name n ∷ t ∷ k)) (so refl) (path_says (segment n) s m q k))
mark_says (read_bound b s) text m q k =
    by_test (follows m) (after_plain text (ident b) s m q k) (by_mark m bind_mark q (λ t. said_plain s (name_t b (t ∷ k))) (so refl) fails)
mark_says (read_path p c n s) text m q k = by_test (follows m) (after_plain text (path p c n) s m q k) (path_says (inside p c n) s m q k)
mark_says (read_sep p c i) text m q k = fails
mark_says (read_minus c i) text m q k =
    by_mark m integer_mark q (λ t. said_bound i (mark minus_mark c ∷ t ∷ k))
    (fitting_says text true q (negative_says i (negative c q) k))
    fails
mark_says (read_literal v s) text m q k =
    let w : Lexeme → List Lexeme = λ t. said_plain s (literal_t v (t ∷ k)) in
    by_test (follows m) (after_plain text (literal v) s m q k)
    (by_mark m dot_dot_mark q w
    (ranged_says s q (read_from (constant v) q) k (λ x. said_plain x (literal_t v (mark dot_dot_mark q ∷ k))) (λ l. so refl))
    (by_mark m dot_dot_eq_mark q w
    (ranged_says s q (read_to (from_head (constant v) (inclusive q))) k (λ x. said_plain x (literal_t v (mark dot_dot_eq_mark q ∷ k))) (λ l. so refl))
    fails))
mark_says (read_dots d l) text m q k =
    bounds_says text (up_to_head (exclusive d)) l m q _ k
    (by_test (rest_stands text l m) (after_alt text (plain (rest d)) l m q k) fails)
mark_says (read_from a d l) text m q k =
    bounds_says text (from_head a (exclusive d)) l m q _ k (by_test (follows m) (after_alt text (upward a d) l m q k) fails)
mark_says (read_to h l) text m q k = bounds_says text h l m q _ k fails
mark_says (read_to_path p h l) text m q k =
    by_test (follows m) (moved (ap (said_alt l) (written h)) (after_alt text (range_of h (place p)) l m q k))
    (by_mark m path_sep_mark q (λ t. said_alt l (range_t h (path_t p (t ∷ k)))) (so refl) fails)
  where
    written : (g : RangeHead) → alt_t (range_of g (place p)) (mark m q ∷ k) ≡ range_t g (path_t p (mark m q ∷ k))
    written g = range_written g (place p) (mark m q ∷ k)
mark_says (read_alt c) text m q k = behind_says c.waiting text c.pattern m q k
mark_says (read_brace h fs s) text m q k =
    let w : Lexeme → List Lexeme = λ t. said_record h fs s (t ∷ k) in
    by_mark m close_brace_mark q w (so (close_plain_lem s (record_of h fs q) k))
    (by_mark m dot_dot_mark q w (so refl)
    (by_mark m integer_mark q w (fitting_says text false q (so refl))
    (by_mark m ref_mark q w (so refl)
    (by_mark m mut_mark q w (so refl)
    fails))))
mark_says (read_label n h fs s) text m q k =
    by_mark m colon_mark q (λ t. said_record h fs s (name n ∷ t ∷ k)) (so refl) (field_says (short (bare_name n)) h fs s m q k)
mark_says (read_index i h fs s) text m q k = by_mark m colon_mark q (λ t. said_record h fs s (mark integer_mark i ∷ t ∷ k)) (so refl) fails
mark_says (read_field f h fs s) text m q k = field_says f h fs s m q k
mark_says (read_etc d h fs s) text m q k =
    by_mark m close_brace_mark q (λ t. said_record h fs s (mark dot_dot_mark d ∷ t ∷ k)) (so (close_plain_lem s (record_dots h fs d q) k)) fails
mark_says (done p e) text m q k = fails
mark_says (failed at) text m q k = fails

pub name_says : (r : Reading) (n : Identifier) (k : List Lexeme) → Says (on_name r n) k (said r (name n ∷ k))
unfolding on_name said said_plain said_name said_record range_t path_t dots_t name_t optional_t
name_says (begin o) n k = so refl
name_says (expect s) n k = so refl
name_says (read_amp a s) n k = so refl
name_says (read_ref i r) n k = named_says i _ k
name_says (read_mut i r u) n k = named_says i _ k
name_says (read_name x s) n k = fails
name_says (read_bound b s) n k = fails
name_says (read_path p c x s) n k = fails
name_says (read_sep p c i) n k = inside_says i p c n k
name_says (read_minus c i) n k = fails
name_says (read_literal l s) n k = fails
name_says (read_dots d l) n k = so refl
name_says (read_from a d l) n k = so refl
name_says (read_to h l) n k = so refl
name_says (read_to_path p h l) n k = fails
name_says (read_alt c) n k = fails
name_says (read_brace h fs s) n k = so refl
name_says (read_label x h fs s) n k = fails
name_says (read_index i h fs s) n k = fails
name_says (read_field f h fs s) n k = fails
name_says (read_etc d h fs s) n k = fails
name_says (done p e) n k = fails
name_says (failed at) n k = fails

pub scalar_says : (r : Reading) (v : ℕ) (q : Spot) (k : List Lexeme) → Says (on_char r v q) k (said r (scalar v q ∷ k))
unfolding on_char said said_plain range_of range_t literal_t bound_t dots_t optional_t
scalar_says (begin o) v q k = so refl
scalar_says (expect s) v q k = so refl
scalar_says (read_amp a s) v q k = so refl
scalar_says (read_ref i r) v q k = fails
scalar_says (read_mut i r u) v q k = fails
scalar_says (read_name x s) v q k = fails
scalar_says (read_bound b s) v q k = fails
scalar_says (read_path p c x s) v q k = fails
scalar_says (read_sep p c i) v q k = fails
scalar_says (read_minus c i) v q k = fails
scalar_says (read_literal l s) v q k = fails
scalar_says (read_dots d l) v q k = so (close_range (up_to_head (exclusive d)) (constant (character v q)) l k)
scalar_says (read_from a d l) v q k = so (close_range (from_head a (exclusive d)) (constant (character v q)) l k)
scalar_says (read_to h l) v q k = so (close_range h (constant (character v q)) l k)
scalar_says (read_to_path p h l) v q k = fails
scalar_says (read_alt c) v q k = fails
scalar_says (read_brace h fs s) v q k = fails
scalar_says (read_label x h fs s) v q k = fails
scalar_says (read_index i h fs s) v q k = fails
scalar_says (read_field f h fs s) v q k = fails
scalar_says (read_etc d h fs s) v q k = fails
scalar_says (done p e) v q k = fails
scalar_says (failed at) v q k = fails

-- a step that goes on adds its token
pub step_says : (t : Lexeme) (text : Source) (r : Reading) (k : List Lexeme) → Says (step text r t) k (said r (t ∷ k))
unfolding step
step_says (name n) text r k = name_says r n k
step_says (scalar v q) text r k = scalar_says r v q k
step_says (mark m q) text r k = mark_says r text m q k

step_failed : (t : Lexeme) (text : Source) (at : ℕ) → step text (failed at) t ≡ failed at
unfolding step on_mark on_name on_char
step_failed (name n) text at = refl
step_failed (scalar v q) text at = refl
step_failed (mark m q) text at = refl

-- what has failed stays so
pub feed_failed : (ts : List Lexeme) (text : Source) (at : ℕ) → feed text ts (failed at) ≡ failed at
unfolding feed
feed_failed [] text at = refl
feed_failed (t ∷ ts) text at = ap (feed text ts) (step_failed t text at) ∙ feed_failed ts text at

pub feed_join : (ts us : List Lexeme) (text : Source) (r : Reading) → feed text (ts ++ us) r ≡ feed text us (feed text ts r)
unfolding feed
feed_join [] us text r = refl
feed_join (t ∷ ts) us text r = feed_join ts us text (step text r t)

pub goes_or_not : (r : Reading) → (is_failed r ≡ false) ⊎ ((at : ℕ) × (r ≡ failed at))
unfolding is_failed
goes_or_not (begin o) = inl refl
goes_or_not (expect s) = inl refl
goes_or_not (read_amp a s) = inl refl
goes_or_not (read_ref i r) = inl refl
goes_or_not (read_mut i r u) = inl refl
goes_or_not (read_name x s) = inl refl
goes_or_not (read_bound b s) = inl refl
goes_or_not (read_path p c x s) = inl refl
goes_or_not (read_sep p c i) = inl refl
goes_or_not (read_minus c i) = inl refl
goes_or_not (read_literal l s) = inl refl
goes_or_not (read_dots d l) = inl refl
goes_or_not (read_from a d l) = inl refl
goes_or_not (read_to h l) = inl refl
goes_or_not (read_to_path p h l) = inl refl
goes_or_not (read_alt c) = inl refl
goes_or_not (read_brace h fs s) = inl refl
goes_or_not (read_label x h fs s) = inl refl
goes_or_not (read_index i h fs s) = inl refl
goes_or_not (read_field f h fs s) = inl refl
goes_or_not (read_etc d h fs s) = inl refl
goes_or_not (done p e) = inl refl
goes_or_not (failed at) = inr (at, refl)

-- what goes on in the end has not failed before
pub feed_going : (ts : List Lexeme) (text : Source) (r : Reading) → is_failed (feed text ts r) ≡ false → is_failed r ≡ false
unfolding is_failed
feed_going ts text r e = go (goes_or_not r)
  where
    go : ((is_failed r ≡ false) ⊎ ((at : ℕ) × (r ≡ failed at))) → is_failed r ≡ false
    go (inl g) = g
    go (inr f) = absurd (true≢false (sym (ap is_failed (ap (feed text ts) f.1 ∙ feed_failed ts text f.0)) ∙ e))

pub feed_says : (ts : List Lexeme) (text : Source) (r : Reading) → is_failed (feed text ts r) ≡ false → said (feed text ts r) [] ≡ said r ts
unfolding feed
feed_says [] text r e = refl
feed_says (t ∷ ts) text r e =
    feed_says ts text (step text r t) e ∙ (step_says t text r ts).written (feed_going ts text (step text r t) e)

-- what is read is written as the tokens read
pub sound : (text : Source) (ts : List Lexeme) (p : Pattern) (e : Spot) → feed text ts fresh ≡ done p e → pattern_t p (mark end_mark e ∷ []) ≡ ts
unfolding said said_plain is_failed
sound text ts p e h = sym (ap (λ r. said r []) h) ∙ feed_says ts text fresh (ap is_failed h)

-- with a token that fails no admitted text begins as the text does so far
pub none_begins :
    (text : Source) (ts us : List Lexeme) (at : ℕ) (p : Pattern) (e : Spot)
    → feed text ts fresh ≡ failed at → admitted text p ≡ true → ¬ (pattern_t p (mark end_mark e ∷ []) ≡ ts ++ us)
unfolding is_failed
none_begins text ts us at p e f a w =
    let whole : feed text (ts ++ us) fresh ≡ done p e = sym (ap (λ x. feed text x fresh) w) ∙ complete text p e a in
    let stays : feed text (ts ++ us) fresh ≡ failed at = feed_join ts us text fresh ∙ (ap (feed text us) f ∙ feed_failed us text at) in
    false≢true (sym (ap is_failed whole) ∙ ap is_failed stays)
