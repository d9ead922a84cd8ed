-- The token with which a tree begins is one that begins a pattern: readings that go on alike with those read it alike. Assumes nothing.
use Prim.Native.Nat.{ℕ}
use mathlib.Core.Path.{◌≡◌, refl, sym, ap, ◌∙◌}
use mathlib.Core.Bool.{Bool, true, false, not, cond, ◌||◌, true≢false, false≢true}
use mathlib.Core.Option.{Option, none, some}
use mathlib.Core.List.{List, ◌∷◌}
use lib.Dec.{eqb, ltb}
use borrow.Author.Tests.{ne_eqb}
use Rattle.pattern_grammar.specs.Lexemes.{Spot, Identifier, Lexeme, name, mark, or_mark, ref_mark, mut_mark, true_mark, false_mark, integer_mark, minus_mark, path_sep_mark, open_paren_mark, open_bracket_mark, and_mark, and_and_mark, dot_dot_mark, dot_dot_eq_mark, underscore_mark, bind_mark, follows, Source}
use Rattle.pattern_grammar.specs.Trees.{NamePath, segment, inside, LiteralPattern, true_at, false_at, character, whole, negative, RangeBound, constant, place, RangeDots, exclusive, inclusive, Ampersand, single, double, ListHead, tuple_at, struct_at, slice_at, NoTopAlt, plain, between, upward, up_to, WithoutRange, literal, ident, ident_at, wild, rest, reference, path, list, list_to, record_of, record_to, record_dots, path_t, literal_t, bound_t, dots_t, optional_t, name_t, ampersand_t, head_t, record_t, alt_t, plain_t}
use Rattle.pattern_grammar.specs.Admitted.{second, is_mut_first, begins_mut}
use Rattle.pattern_grammar.specs.Machine.{ForPlain, any_alt, behind_amp, first_alt, ForPattern, Reading, begin, expect, read_amp, on_mark, on_name, on_char, step, feed}

-- two readings go on alike with what begins a pattern, with `mut` or but for that
pub record Alike (text : Source) (muts : Bool) (r u : Reading) : Type 0 where
  pub names : (n : Identifier) → on_name r n ≡ on_name u n
  pub scalars : (v : ℕ) (q : Spot) → on_char r v q ≡ on_char u v q
  pub marks : (m : ℕ) (q : Spot) → follows m ≡ false → (not (eqb m mut_mark) || muts) ≡ true → on_mark text r m q ≡ on_mark text u m q

pub cond_false : {A : Type 0} (b : Bool) (x y : A) → b ≡ false → cond b x y ≡ y
cond_false true x y e = absurd (true≢false e)
cond_false false x y e = refl

pub cond_true : {A : Type 0} (b : Bool) (x y : A) → b ≡ true → cond b x y ≡ x
cond_true true x y e = refl
cond_true false x y e = absurd (false≢true e)

or_right : (b : Bool) → (b || true) ≡ true
or_right true = refl
or_right false = refl

not_or : (m : ℕ) → follows m ≡ false → eqb m or_mark ≡ false
not_or m f = ne_eqb m 2 (λ e. false≢true (sym f ∙ ap (λ x. ltb x 6) e))

-- where a pattern begins, and where its first alternative does
pub begin_alike : (text : Source) (o : ForPattern) → Alike text true (begin o) (expect (any_alt (first_alt none o)))
unfolding on_mark on_name on_char
begin_alike text o = record {
  names = λ n. refl;
  scalars = λ v q. refl;
  marks = λ m q f g. rw (not_or m f) (rw f refl);
}

not_mut : (b : Bool) → (not b || false) ≡ true → b ≡ false
not_mut true e = absurd (false≢true e)
not_mut false e = refl

-- behind `&`, with no `mut`
pub amp_alike : (text : Source) (a : Ampersand) (s : ForPlain) → Alike text false (read_amp a s) (expect (behind_amp a none s))
unfolding on_mark on_name on_char
amp_alike text a s = record {
  names = λ n. refl;
  scalars = λ v q. refl;
  marks = λ m q f g. rw (not_mut (eqb m mut_mark) g) refl;
}

path_alike :
    (p : NamePath) (text : Source) (muts : Bool) (r u : Reading) (k : List Lexeme) → Alike text muts r u → feed text (path_t p k) r ≡ feed text (path_t p k) u
unfolding path_t feed step
path_alike (segment n) text muts r u k a = ap (feed text k) (a.names n)
path_alike (inside p c n) text muts r u k a = path_alike p text muts r u (mark path_sep_mark c ∷ name n ∷ k) a

literal_alike :
    (v : LiteralPattern) (text : Source) (muts : Bool) (r u : Reading) (k : List Lexeme)
    → Alike text muts r u → feed text (literal_t v k) r ≡ feed text (literal_t v k) u
unfolding literal_t feed step
literal_alike (true_at q) text muts r u k a = ap (feed text k) (a.marks true_mark q refl refl)
literal_alike (false_at q) text muts r u k a = ap (feed text k) (a.marks false_mark q refl refl)
literal_alike (character v q) text muts r u k a = ap (feed text k) (a.scalars v q)
literal_alike (whole q) text muts r u k a = ap (feed text k) (a.marks integer_mark q refl refl)
literal_alike (negative c q) text muts r u k a = ap (feed text (mark integer_mark q ∷ k)) (a.marks minus_mark c refl refl)

bound_alike :
    (b : RangeBound) (text : Source) (muts : Bool) (r u : Reading) (k : List Lexeme)
    → Alike text muts r u → feed text (bound_t b k) r ≡ feed text (bound_t b k) u
unfolding bound_t
bound_alike (constant v) text muts r u k a = literal_alike v text muts r u k a
bound_alike (place p) text muts r u k a = path_alike p text muts r u k a

dots_alike :
    (d : RangeDots) (text : Source) (muts : Bool) (r u : Reading) (k : List Lexeme)
    → Alike text muts r u → feed text (dots_t d ∷ k) r ≡ feed text (dots_t d ∷ k) u
unfolding dots_t feed step
dots_alike (exclusive q) text muts r u k a = ap (feed text k) (a.marks dot_dot_mark q refl refl)
dots_alike (inclusive q) text muts r u k a = ap (feed text k) (a.marks dot_dot_eq_mark q refl refl)

name_alike :
    (by_ref mutable : Option Spot) (n : Identifier) (text : Source) (muts : Bool) (r u : Reading) (k : List Lexeme)
    → Alike text muts r u → (not (second by_ref mutable) || muts) ≡ true
    → feed text (optional_t by_ref ref_mark (optional_t mutable mut_mark (name n ∷ k))) r
    ≡ feed text (optional_t by_ref ref_mark (optional_t mutable mut_mark (name n ∷ k))) u
unfolding optional_t feed step second
name_alike none none n text muts r u k a e = ap (feed text k) (a.names n)
name_alike none (some q) n text muts r u k a e = ap (feed text (name n ∷ k)) (a.marks mut_mark q refl e)
name_alike (some c) m n text muts r u k a e = ap (feed text (optional_t m mut_mark (name n ∷ k))) (a.marks ref_mark c refl refl)

amp_first :
    (x : Ampersand) (text : Source) (muts : Bool) (r u : Reading) (k : List Lexeme)
    → Alike text muts r u → feed text (ampersand_t x ∷ k) r ≡ feed text (ampersand_t x ∷ k) u
unfolding ampersand_t feed step
amp_first (single q) text muts r u k a = ap (feed text k) (a.marks and_mark q refl refl)
amp_first (double q) text muts r u k a = ap (feed text k) (a.marks and_and_mark q refl refl)

head_alike :
    (h : ListHead) (text : Source) (muts : Bool) (r u : Reading) (k : List Lexeme)
    → Alike text muts r u → feed text (head_t h k) r ≡ feed text (head_t h k) u
unfolding head_t feed step
head_alike (tuple_at q) text muts r u k a = ap (feed text k) (a.marks open_paren_mark q refl refl)
head_alike (struct_at p q) text muts r u k a = path_alike p text muts r u (mark open_paren_mark q ∷ k) a
head_alike (slice_at q) text muts r u k a = ap (feed text k) (a.marks open_bracket_mark q refl refl)

pub plain_alike :
    (w : WithoutRange) (text : Source) (muts : Bool) (r u : Reading) (k : List Lexeme)
    → Alike text muts r u → (not (begins_mut w) || muts) ≡ true → feed text (plain_t w k) r ≡ feed text (plain_t w k) u
unfolding plain_t name_t record_t begins_mut is_mut_first feed step
plain_alike (literal v) text muts r u k a e = literal_alike v text muts r u k a
plain_alike (ident b) text muts r u k a e = name_alike b.by_ref b.mutable b.called text muts r u k a e
plain_alike (ident_at b c x) text muts r u k a e =
    name_alike b.by_ref b.mutable b.called text muts r u (mark bind_mark c ∷ alt_t x k) a e
plain_alike (wild q) text muts r u k a e = ap (feed text k) (a.marks underscore_mark q refl refl)
plain_alike (rest q) text muts r u k a e = ap (feed text k) (a.marks dot_dot_mark q refl refl)
plain_alike (reference x m w) text muts r u k a e = amp_first x text muts r u (optional_t m mut_mark (plain_t w k)) a
plain_alike (path p c n) text muts r u k a e = path_alike p text muts r u (mark path_sep_mark c ∷ name n ∷ k) a
plain_alike (list h is q) text muts r u k a e = head_alike h text muts r u _ a
plain_alike (list_to h is p q) text muts r u k a e = head_alike h text muts r u _ a
plain_alike (record_of h fs q) text muts r u k a e = path_alike h.path text muts r u _ a
plain_alike (record_to h fs f q) text muts r u k a e = path_alike h.path text muts r u _ a
plain_alike (record_dots h fs d q) text muts r u k a e = path_alike h.path text muts r u _ a

pub alt_alike :
    (x : NoTopAlt) (text : Source) (r u : Reading) (k : List Lexeme) → Alike text true r u → feed text (alt_t x k) r ≡ feed text (alt_t x k) u
unfolding alt_t plain_t
alt_alike (plain w) text r u k a = plain_alike w text true r u k a (or_right (not (begins_mut w)))
alt_alike (between x d b) text r u k a = bound_alike x text true r u _ a
alt_alike (upward x q) text r u k a = bound_alike x text true r u _ a
alt_alike (up_to d b) text r u k a = dots_alike d text true r u _ a
