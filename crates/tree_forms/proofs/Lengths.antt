-- A tree is written as tokens before others, and a list's items as at least as many tokens as there are. Assumes nothing.
use Prim.Native.Nat.{ℕ, zero, suc, ◌+◌, ◌≤◌}
use mathlib.Core.Option.{Option, none, some}
use mathlib.Core.Bool.{Bool, true, false, cond}
use mathlib.Core.List.{List, [], ◌∷◌}
use native.Mathlib.Omega.{arith}
use lib.ListN.{length}
use Rattle.pattern_tokens.specs.Tokens.{token_at}
use Rattle.pattern_grammar.specs.Lexemes.{Spot, Lexeme, name, mark, comma_mark, or_mark, close_brace_mark, ref_mark, mut_mark, bind_mark, path_sep_mark, dot_dot_mark, lexeme}
use Rattle.pattern_grammar.specs.Trees.{NamePath, segment, inside, LiteralPattern, true_at, false_at, character, whole, negative, RangeBound, constant, place, BoundName, ListHead, tuple_at, struct_at, slice_at, RecordHead, Pattern, alone, or, NoTopAlt, plain, between, upward, up_to, WithoutRange, literal, ident, ident_at, wild, rest, reference, path, list, list_to, record_of, record_to, record_dots, ListItems, no_item, item, RecordFields, no_field, field, RecordField, keyed, short, path_t, literal_t, bound_t, optional_t, name_t, dots_t, closer, head_t, record_t, pattern_t, alt_t, plain_t, items_t, fields_t, field_t}
use Rattle.pattern_grammar.specs.Parsed.{is_last, lexemes_from, lexemes}
use Rattle.pattern_syntax.specs.Reduced.{item_count}

-- one list is as long as another, or longer, by so many
pub record Longer (n : ℕ) (k l : List Lexeme) : Type 0 where
  pub by : n + length k ≤ length l

-- longer than what is shorter
pub behind : {m n : ℕ} {j k l : List Lexeme} → Longer m j k → Longer n k l → Longer 0 j l
behind f g = record { by = let a = f.by in let b = g.by in omega (arith, a, b) }

pub longer_same : {k : List Lexeme} → Longer 0 k k
longer_same = record { by = omega arith }

pub one_more_lem : {t : Lexeme} {k : List Lexeme} → Longer 0 k (t ∷ k)
one_more_lem = record { by = omega arith }

path_longer : (p : NamePath) (k : List Lexeme) → Longer 0 k (path_t p k)
unfolding path_t
path_longer (segment n) k = one_more_lem
path_longer (inside p c n) k = behind (behind one_more_lem one_more_lem) (path_longer p _)

literal_longer : (l : LiteralPattern) (k : List Lexeme) → Longer 0 k (literal_t l k)
unfolding literal_t
literal_longer (true_at q) k = one_more_lem
literal_longer (false_at q) k = one_more_lem
literal_longer (character v q) k = one_more_lem
literal_longer (whole q) k = one_more_lem
literal_longer (negative c q) k = behind one_more_lem one_more_lem

pub bound_longer : (b : RangeBound) (k : List Lexeme) → Longer 0 k (bound_t b k)
unfolding bound_t
bound_longer (constant l) k = literal_longer l k
bound_longer (place p) k = path_longer p k

pub optional_longer : (q : Option Spot) (m : ℕ) (k : List Lexeme) → Longer 0 k (optional_t q m k)
unfolding optional_t
optional_longer none m k = longer_same
optional_longer (some q) m k = one_more_lem

pub name_longer : (b : BoundName) (k : List Lexeme) → Longer 0 k (name_t b k)
unfolding name_t
name_longer b k =
    behind (behind one_more_lem (optional_longer b.mutable mut_mark (name b.called ∷ k)))
    (optional_longer b.by_ref ref_mark (optional_t b.mutable mut_mark (name b.called ∷ k)))

pub head_longer : (h : ListHead) (k : List Lexeme) → Longer 0 k (head_t h k)
unfolding head_t
head_longer (tuple_at q) k = one_more_lem
head_longer (struct_at p q) k = behind one_more_lem (path_longer p _)
head_longer (slice_at q) k = one_more_lem

pub record_longer : (r : RecordHead) (k : List Lexeme) → Longer 0 k (record_t r k)
unfolding record_t
record_longer r k = behind one_more_lem (path_longer r.path _)

mutual
  unfolding pattern_t alt_t plain_t items_t fields_t field_t item_count

  pub pattern_longer : (p : Pattern) (k : List Lexeme) → Longer 0 k (pattern_t p k)
  pattern_longer (alone lead a) k = behind (alt_longer a k) (optional_longer lead or_mark (alt_t a k))
  pattern_longer (or p c a) k = behind (behind (alt_longer a k) one_more_lem) (pattern_longer p (mark or_mark c ∷ alt_t a k))

  pub alt_longer : (a : NoTopAlt) (k : List Lexeme) → Longer 0 k (alt_t a k)
  alt_longer (plain w) k = plain_longer w k
  alt_longer (between a d b) k = behind (behind (bound_longer b k) one_more_lem) (bound_longer a (dots_t d ∷ bound_t b k))
  alt_longer (upward a q) k = behind one_more_lem (bound_longer a (mark dot_dot_mark q ∷ k))
  alt_longer (up_to d b) k = behind (bound_longer b k) one_more_lem

  pub plain_longer : (w : WithoutRange) (k : List Lexeme) → Longer 0 k (plain_t w k)
  plain_longer (literal l) k = literal_longer l k
  plain_longer (ident b) k = name_longer b k
  plain_longer (ident_at b c a) k = behind (behind (alt_longer a k) one_more_lem) (name_longer b (mark bind_mark c ∷ alt_t a k))
  plain_longer (wild q) k = one_more_lem
  plain_longer (rest q) k = one_more_lem
  plain_longer (reference a m w) k = behind (behind (plain_longer w k) (optional_longer m mut_mark (plain_t w k))) one_more_lem
  plain_longer (path p c n) k = behind (behind one_more_lem one_more_lem) (path_longer p (mark path_sep_mark c ∷ name n ∷ k))
  plain_longer (list h is q) k =
      behind (behind one_more_lem (items_longer is (mark (closer h) q ∷ k))) (head_longer h (items_t is (mark (closer h) q ∷ k)))
  plain_longer (list_to h is p q) k =
      behind (behind (behind one_more_lem (pattern_longer p (mark (closer h) q ∷ k))) (items_longer is (pattern_t p (mark (closer h) q ∷ k))))
      (head_longer h (items_t is (pattern_t p (mark (closer h) q ∷ k))))
  plain_longer (record_of h fs q) k =
      behind (behind one_more_lem (fields_longer fs (mark close_brace_mark q ∷ k))) (record_longer h (fields_t fs (mark close_brace_mark q ∷ k)))
  plain_longer (record_to h fs f q) k =
      behind (behind (behind one_more_lem (field_longer f (mark close_brace_mark q ∷ k))) (fields_longer fs (field_t f (mark close_brace_mark q ∷ k))))
      (record_longer h (fields_t fs (field_t f (mark close_brace_mark q ∷ k))))
  plain_longer (record_dots h fs d q) k =
      behind (behind (behind one_more_lem one_more_lem) (fields_longer fs (mark dot_dot_mark d ∷ mark close_brace_mark q ∷ k)))
      (record_longer h (fields_t fs (mark dot_dot_mark d ∷ mark close_brace_mark q ∷ k)))

  -- an item has a `,` at least
  pub items_longer : (is : ListItems) (k : List Lexeme) → Longer (item_count is) k (items_t is k)
  items_longer no_item k = longer_same
  items_longer (item is p c) k =
      let own = (pattern_longer p (mark comma_mark c ∷ k)).by in
      let items = (items_longer is (pattern_t p (mark comma_mark c ∷ k))).by in
      record { by = omega (arith, own, items) }

  pub fields_longer : (fs : RecordFields) (k : List Lexeme) → Longer 0 k (fields_t fs k)
  fields_longer no_field k = longer_same
  fields_longer (field fs f c) k = behind (behind one_more_lem (field_longer f (mark comma_mark c ∷ k))) (fields_longer fs (field_t f (mark comma_mark c ∷ k)))

  pub field_longer : (f : RecordField) (k : List Lexeme) → Longer 0 k (field_t f k)
  field_longer (keyed key c p) k = behind (behind (pattern_longer p k) one_more_lem) one_more_lem
  field_longer (short b) k = name_longer b k

-- a text has at most as many tokens as bytes, and its end
from_long : (n : ℕ) (text : List ℕ) (at : ℕ) → length (lexemes_from n text at) ≤ n
unfolding lexemes_from
from_long zero text at = omega arith
from_long (suc n) text at = by (is_last (lexeme (token_at text at))) (from_long n text (token_at text at).to)
  where
    by : (b : Bool) → length (lexemes_from n text (token_at text at).to) ≤ n → suc (length (cond b [] (lexemes_from n text (token_at text at).to))) ≤ suc n
    by true h = omega arith
    by false h = omega (arith, h)

pub lexemes_long : (text : List ℕ) → length (lexemes text) ≤ suc (length text)
unfolding lexemes
lexemes_long text = from_long (suc (length text)) text 0
