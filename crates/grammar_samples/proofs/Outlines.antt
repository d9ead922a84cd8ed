-- A tree in numbers: what is inside it in the text's order, then the tree itself, so that rows are short. Assumes nothing.
use Prim.Native.Nat.{ℕ, suc, ◌+◌}
use mathlib.Core.Bool.{Bool, true, false, cond}
use mathlib.Core.Option.{Option, none, some}
use mathlib.Core.List.{List, [], ◌∷◌}
use Rattle.pattern_grammar.specs.Lexemes.{Spot}
use Rattle.pattern_grammar.specs.Trees.{LiteralPattern, true_at, false_at, character, whole, negative, RangeDots, exclusive, inclusive, BoundName, Ampersand, single, double, ListHead, tuple_at, struct_at, slice_at, FieldKey, index, label, Pattern, alone, or, NoTopAlt, plain, between, upward, up_to, WithoutRange, literal, ident, ident_at, wild, rest, reference, path, list, list_to, record_of, record_to, record_dots, ListItems, no_item, item, RecordFields, no_field, field, RecordField, keyed, short}
use Rattle.pattern_grammar.specs.Admitted.{path_at, literal_at, bound_at, is_rest}
use Rattle.pattern_grammar.specs.Machine.{Reading, begin, expect, read_amp, read_ref, read_mut, read_name, read_bound, read_path, read_sep, read_minus, read_literal, read_dots, read_from, read_to, read_to_path, read_alt, read_brace, read_label, read_index, read_field, read_etc, done, failed}
use Rattle.pattern_grammar.specs.Parsed.{parsed}

unfoldable pub given01 : Option Spot → ℕ
given01 none = 0
given01 (some q) = 1

unfoldable pub flags : BoundName → ℕ
flags b = given01 b.by_ref + (given01 b.mutable + given01 b.mutable)

unfoldable pub literal_to : LiteralPattern → ℕ
literal_to (true_at q) = q.to
literal_to (false_at q) = q.to
literal_to (character v q) = q.to
literal_to (whole q) = q.to
literal_to (negative c q) = q.to

unfoldable pub is_inclusive : RangeDots → ℕ
is_inclusive (exclusive q) = 0
is_inclusive (inclusive q) = 1

unfoldable pub key_at : FieldKey → ℕ
key_at (index q) = q.from
key_at (label n) = n.spot.from

unfoldable pub count_items : ListItems → ℕ
count_items no_item = 0
count_items (item is p c) = suc (count_items is)

unfoldable pub count_fields : RecordFields → ℕ
count_fields no_field = 0
count_fields (field fs f c) = suc (count_fields fs)

unfoldable pub ampersand_o : Ampersand → Option Spot → List ℕ → List ℕ
ampersand_o (single q) m k = 6 ∷ q.from ∷ given01 m ∷ k
ampersand_o (double q) m k = 7 ∷ q.from ∷ given01 m ∷ k

-- with so many items; one alone between parentheses, with no `,`, is a group
unfoldable pub head_o : ListHead → Bool → ℕ → List ℕ → List ℕ
head_o (tuple_at q) lone n k = cond lone 10 9 ∷ q.from ∷ n ∷ k
head_o (struct_at p q) lone n k = 11 ∷ path_at p ∷ n ∷ k
head_o (slice_at q) lone n k = 12 ∷ q.from ∷ n ∷ k

unfoldable pub is_lone : ListItems → Bool → Bool
is_lone no_item is_rest_item = cond is_rest_item false true
is_lone (item is p c) is_rest_item = false

unfoldable mutual
  pub pattern_o : Pattern → List ℕ → List ℕ
  pattern_o (alone none a) k = alt_o a k
  pattern_o (alone (some q) a) k = alt_o a (20 ∷ q.from ∷ k)
  pattern_o (or p c a) k = pattern_o p (alt_o a (19 ∷ k))

  pub alt_o : NoTopAlt → List ℕ → List ℕ
  alt_o (plain w) k = plain_o w k
  alt_o (between a d b) k = 16 ∷ bound_at a ∷ is_inclusive d ∷ bound_at b ∷ k
  alt_o (upward a q) k = 17 ∷ bound_at a ∷ k
  alt_o (up_to d b) k = 18 ∷ is_inclusive d ∷ bound_at b ∷ k

  pub plain_o : WithoutRange → List ℕ → List ℕ
  plain_o (literal l) k = 2 ∷ literal_at l ∷ literal_to l ∷ k
  plain_o (ident b) k = 3 ∷ b.called.own ∷ flags b ∷ k
  plain_o (ident_at b c a) k = alt_o a (4 ∷ b.called.own ∷ flags b ∷ k)
  plain_o (wild q) k = 1 ∷ q.from ∷ k
  plain_o (rest q) k = 5 ∷ q.from ∷ k
  plain_o (reference a m w) k = plain_o w (ampersand_o a m k)
  plain_o (path p c n) k = 8 ∷ path_at p ∷ n.spot.to ∷ k
  plain_o (list h is q) k = items_o is (head_o h false (count_items is) k)
  plain_o (list_to h is p q) k = items_o is (pattern_o p (head_o h (is_lone is (is_rest p)) (suc (count_items is)) k))
  plain_o (record_of h fs q) k = fields_o fs (15 ∷ path_at h.path ∷ count_fields fs ∷ 0 ∷ k)
  plain_o (record_to h fs f q) k = fields_o fs (field_o f (15 ∷ path_at h.path ∷ suc (count_fields fs) ∷ 0 ∷ k))
  plain_o (record_dots h fs d q) k = fields_o fs (15 ∷ path_at h.path ∷ count_fields fs ∷ 1 ∷ k)

  pub items_o : ListItems → List ℕ → List ℕ
  items_o no_item k = k
  items_o (item is p c) k = items_o is (pattern_o p k)

  pub fields_o : RecordFields → List ℕ → List ℕ
  fields_o no_field k = k
  fields_o (field fs f c) k = fields_o fs (field_o f k)

  pub field_o : RecordField → List ℕ → List ℕ
  field_o (keyed key c p) k = pattern_o p (13 ∷ key_at key ∷ k)
  field_o (short b) k = 14 ∷ b.called.own ∷ flags b ∷ k

-- 0 and the position, 1 and the tree; no text leaves the machine in between
unfoldable pub answer_of : Reading → List ℕ
answer_of (done p e) = 1 ∷ pattern_o p []
answer_of (failed at) = 0 ∷ at ∷ []
answer_of (begin o) = 2 ∷ []
answer_of (expect s) = 2 ∷ []
answer_of (read_amp a s) = 2 ∷ []
answer_of (read_ref i r) = 2 ∷ []
answer_of (read_mut i r u) = 2 ∷ []
answer_of (read_name n s) = 2 ∷ []
answer_of (read_bound b s) = 2 ∷ []
answer_of (read_path p c n s) = 2 ∷ []
answer_of (read_sep p c i) = 2 ∷ []
answer_of (read_minus c i) = 2 ∷ []
answer_of (read_literal v s) = 2 ∷ []
answer_of (read_dots d l) = 2 ∷ []
answer_of (read_from a d l) = 2 ∷ []
answer_of (read_to h l) = 2 ∷ []
answer_of (read_to_path p h l) = 2 ∷ []
answer_of (read_alt c) = 2 ∷ []
answer_of (read_brace h fs s) = 2 ∷ []
answer_of (read_label n h fs s) = 2 ∷ []
answer_of (read_index i h fs s) = 2 ∷ []
answer_of (read_field f h fs s) = 2 ∷ []
answer_of (read_etc d h fs s) = 2 ∷ []

-- a text and its answer
pub record Row : Type 0 where
  pub text : List ℕ
  pub wanted : List ℕ

abbrev pub row : List ℕ → List ℕ → Row
row t w = record { text = t; wanted = w }

abbrev pub given : Row → List ℕ
given r = answer_of (parsed r.text)

abbrev pub wants : Row → List ℕ
wants r = r.wanted
