-- Every tree that a text has is formed. Assumes nothing.
use Prim.Native.Nat.{ℕ}
use mathlib.Core.Path.{◌≡◌, refl, ap}
use mathlib.Core.Bool.{Bool, true, false, cond}
use mathlib.Core.Option.{Option, none, some}
use mathlib.Core.List.{List, [], ◌∷◌}
use native.Mathlib.Omega.{arith}
use lib.Dec.{ltb}
use lib.ListN.{length}
use Rattle.image.proofs.Bools.{and_true}
use Rattle.image.specs.Operands.{is_scalar_value}
use Rattle.pattern_grammar.specs.Lexemes.{Spot, Lexeme, name, mark, end_mark, strictly}
use Rattle.pattern_grammar.specs.Trees.{NamePath, segment, inside, LiteralPattern, true_at, false_at, character, whole, negative, RangeBound, constant, place, BoundName, Ampersand, single, double, ListHead, tuple_at, struct_at, slice_at, RecordHead, Pattern, alone, or, NoTopAlt, plain, between, upward, up_to, WithoutRange, literal, ident, ident_at, wild, rest, reference, path, list, list_to, record_of, record_to, record_dots, ListItems, no_item, item, RecordFields, no_field, field, RecordField, keyed, short, path_t, literal_t, bound_t, optional_t, name_t, head_t, record_t, pattern_t, alt_t, plain_t, items_t, fields_t, field_t}
use Rattle.pattern_grammar.specs.Admitted.{path_at, literal_at, bound_at}
use Rattle.pattern_grammar.specs.Machine.{Reading, done, failed, feed, fresh}
use Rattle.pattern_grammar.specs.Parsed.{lexemes, parsed}
use Rattle.pattern_grammar.proofs.Sound.{sound}
use Rattle.pattern_grammar.proofs.Endings.{Over, text_over}
use Rattle.pattern_syntax.specs.Written.{Name, Node, Written, written, Parts, no_parts, more, begun_at, only, part_count}
use Rattle.pattern_syntax.specs.Reduced.{ident_name, key_name, literal_value, bound_in, written_bound, written_ident, written_reference, dots_at, head_at, list_node, before_rest, is_part, is_group, one_of, written_record, written_field, alternatives, written_alt, written_plain, written_items, written_fields, written_field_of, reduced}
use Rattle.pattern_syntax.specs.Formed.{literal_formed, node_formed, Stand, in_pattern, in_range, in_record, stands_in, may_stand, rest_place, rest_part_formed, formed, parts_formed}
use Rattle.pattern_reading.specs.Reads.{tree_is, outcome}
use Rattle.tree_forms.specs.Forms.{AllOk, TreeIsFormed}
use Rattle.tree_forms.proofs.Chars.{lexemes_ok}
use Rattle.tree_forms.proofs.Rests.{RestHolds, item_more, items_hold}

-- the tokens behind what is no literal
path_behind : (p : NamePath) (k : List Lexeme) → AllOk (path_t p k) → AllOk k
unfolding path_t
path_behind (segment n) k h = h.1
path_behind (inside p c n) k h = (path_behind p (mark _ c ∷ name n ∷ k) h).1.1

optional_behind : (q : Option Spot) (m : ℕ) (k : List Lexeme) → AllOk (optional_t q m k) → AllOk k
unfolding optional_t
optional_behind none m k h = h
optional_behind (some q) m k h = h.1

name_behind : (b : BoundName) (k : List Lexeme) → AllOk (name_t b k) → AllOk k
unfolding name_t
name_behind b k h = (optional_behind b.mutable _ _ (optional_behind b.by_ref _ _ h)).1

head_behind : (h : ListHead) (k : List Lexeme) → AllOk (head_t h k) → AllOk k
unfolding head_t
head_behind (tuple_at q) k h = h.1
head_behind (struct_at p q) k h = (path_behind p _ h).1
head_behind (slice_at q) k h = h.1

record_behind : (r : RecordHead) (k : List Lexeme) → AllOk (record_t r k) → AllOk k
unfolding record_t
record_behind r k h = (path_behind r.path _ h).1

-- a test holds, and so do the tokens behind
abbrev Both : Bool → List Lexeme → Type 0
Both b k = (b ≡ true) × AllOk k

module _ (text : List ℕ) where
  literal_formed_lem : (l : LiteralPattern) (k : List Lexeme) → AllOk (literal_t l k) → Both (literal_formed (literal_value text l)) k
  unfolding literal_t literal_value literal_formed is_scalar_value
  literal_formed_lem (true_at q) k h = (refl, h.1)
  literal_formed_lem (false_at q) k h = (refl, h.1)
  literal_formed_lem (character v q) k h = (h.0, h.1)
  literal_formed_lem (whole q) k h = (refl, h.1)
  literal_formed_lem (negative c q) k h = (refl, h.1.1)

  bound_formed : (b : RangeBound) (k : List Lexeme) → AllOk (bound_t b k) → Both (formed (written_bound text b) in_range) k
  unfolding bound_t bound_in formed parts_formed may_stand node_formed rest_place rest_part_formed stands_in part_count
  bound_formed (constant l) k h = let own = literal_formed_lem l k h in (rw own.0, own.1)
  bound_formed (place p) k h = (refl, path_behind p k h)

  begun_formed : (at : ℕ) (w : Written) (s : Stand) → formed w s ≡ true → formed (begun_at at w) s ≡ true
  unfolding begun_at formed
  begun_formed at (written old n ps) s h = h

  -- one alternative, or an Or of several
  one_formed : (ps : Parts) → parts_formed ps in_pattern ≡ true → formed (one_of ps) in_pattern ≡ true
  unfolding one_of formed parts_formed may_stand node_formed rest_place rest_part_formed stands_in
  one_formed no_parts h = refl
  one_formed (more no_parts w) h = h
  one_formed (more (more ps v) w) h = h

  more_formed : (ps : Parts) (w : Written) (s : Stand) → parts_formed ps s ≡ true → formed w s ≡ true → parts_formed (more ps w) s ≡ true
  unfolding parts_formed
  more_formed ps w s h g = and_true (parts_formed ps s) (formed w s) h g

  ident_formed : (b : BoundName) → formed (written_ident text b no_parts) in_pattern ≡ true
  unfolding written_ident formed parts_formed may_stand node_formed rest_place rest_part_formed stands_in part_count
  ident_formed b = refl

  ident_at_formed : (b : BoundName) (w : Written) → formed w in_pattern ≡ true → formed (written_ident text b (only w)) in_pattern ≡ true
  unfolding written_ident formed parts_formed may_stand node_formed rest_place rest_part_formed stands_in part_count
  ident_at_formed b w h = h

  reference_formed : (a : Ampersand) (m : Option Spot) (w : Written) → formed w in_pattern ≡ true → formed (written_reference a m w) in_pattern ≡ true
  unfolding written_reference formed parts_formed may_stand node_formed rest_place rest_part_formed stands_in part_count
  reference_formed (single q) m w h = h
  reference_formed (double q) m w h = h

  -- in a slice the rest holds
  abbrev RestIn : ListHead → Option ℕ → Parts → Type 0
  RestIn (tuple_at q) before ps = Unit
  RestIn (struct_at p q) before ps = Unit
  RestIn (slice_at q) before ps = RestHolds before ps

  list_formed_lem : (h : ListHead) (at : ℕ) (before : Option ℕ) (ps : Parts) → RestIn h before ps → parts_formed ps in_pattern ≡ true →
      formed (written at (list_node text h before) ps) in_pattern ≡ true
  unfolding list_node formed may_stand node_formed rest_place rest_part_formed stands_in
  list_formed_lem (tuple_at q) at before ps r h = h
  list_formed_lem (struct_at p q) at before ps r h = h
  list_formed_lem (slice_at q) at before ps r h = rw (r.within, r.part) h

  items_rest : (h : ListHead) (is : ListItems) → RestIn h (before_rest is) (written_items text h is)
  items_rest (tuple_at q) is = tt
  items_rest (struct_at p q) is = tt
  items_rest (slice_at q) is = items_hold text q is

  last_rest : (h : ListHead) (is : ListItems) (p : Pattern) (c : Spot) →
      RestIn h (before_rest (item is p c)) (cond (is_part h p) (more (written_items text h is) (one_of (alternatives text p))) (written_items text h is))
  unfolding is_part
  last_rest (tuple_at q) is p c = tt
  last_rest (struct_at n q) is p c = tt
  last_rest (slice_at q) is p c = item_more text q is p c (items_hold text q is)

  record_formed : (h : RecordHead) (fs : Parts) → parts_formed fs in_record ≡ true → formed (written_record text h fs) in_pattern ≡ true
  unfolding formed may_stand node_formed rest_place rest_part_formed stands_in
  record_formed h fs e = e

  field_node_formed : (key : Name) (w : Written) → formed w in_pattern ≡ true → formed (written_field key w) in_record ≡ true
  unfolding formed parts_formed may_stand node_formed rest_place rest_part_formed stands_in part_count
  field_node_formed key w h = h

  formed_if : (b : Bool) (x y : Written) → formed x in_pattern ≡ true → formed y in_pattern ≡ true → formed (cond b x y) in_pattern ≡ true
  formed_if true x y h g = h
  formed_if false x y h g = g

  parts_if : (b : Bool) (x y : Parts) → parts_formed x in_pattern ≡ true → parts_formed y in_pattern ≡ true → parts_formed (cond b x y) in_pattern ≡ true
  parts_if true x y h g = h
  parts_if false x y h g = g

  range_formed_two : (at : ℕ) (dots : Bool) (a b : Written) → formed a in_range ≡ true → formed b in_range ≡ true →
      formed (written at (Node.range_node true true dots) (more (only a) b)) in_pattern ≡ true
  unfolding formed parts_formed may_stand node_formed rest_place rest_part_formed stands_in part_count
  range_formed_two at dots a b h g = and_true (formed a in_range) (formed b in_range) h g

  range_formed_lower : (at : ℕ) (dots : Bool) (a : Written) → formed a in_range ≡ true → formed (written at (Node.range_node true false dots) (only a)) in_pattern ≡ true
  unfolding formed parts_formed may_stand node_formed rest_place rest_part_formed stands_in part_count
  range_formed_lower at dots a h = h

  range_formed_upper : (at : ℕ) (dots : Bool) (a : Written) → formed a in_range ≡ true → formed (written at (Node.range_node false true dots) (only a)) in_pattern ≡ true
  unfolding formed parts_formed may_stand node_formed rest_place rest_part_formed stands_in part_count
  range_formed_upper at dots a h = h

  literal_node_formed : (l : LiteralPattern) (at : ℕ) → literal_formed (literal_value text l) ≡ true →
      formed (written at (Node.literal_node (literal_value text l)) no_parts) in_pattern ≡ true
  unfolding formed parts_formed may_stand node_formed rest_place rest_part_formed stands_in part_count
  literal_node_formed l at h = rw h

  wild_formed : (at : ℕ) → formed (written at Node.wildcard_node no_parts) in_pattern ≡ true
  unfolding formed parts_formed may_stand node_formed rest_place rest_part_formed stands_in part_count
  wild_formed at = refl

  rest_formed : (at : ℕ) → formed (written at Node.rest_node no_parts) in_pattern ≡ true
  unfolding formed parts_formed may_stand node_formed rest_place rest_part_formed stands_in part_count
  rest_formed at = refl

  path_formed : (at : ℕ) (n : Name) → formed (written at (Node.path_node n) no_parts) in_pattern ≡ true
  unfolding formed parts_formed may_stand node_formed rest_place rest_part_formed stands_in part_count
  path_formed at n = refl

  mutual
    unfolding optional_t pattern_t alt_t plain_t items_t fields_t field_t alternatives written_alt written_plain written_items written_fields written_field_of parts_formed

    pattern_formed : (p : Pattern) (k : List Lexeme) → AllOk (pattern_t p k) → Both (parts_formed (alternatives text p) in_pattern) k
    pattern_formed (alone none a) k h = alt_formed a k h
    pattern_formed (alone (some q) a) k h = let own = alt_formed a k h.1 in (begun_formed _ (written_alt text a) in_pattern own.0, own.1)
    pattern_formed (or p c a) k h =
        let first = pattern_formed p _ h in
        let own = alt_formed a k first.1.1 in
        (more_formed (alternatives text p) (written_alt text a) in_pattern first.0 own.0, own.1)

    alt_formed : (a : NoTopAlt) (k : List Lexeme) → AllOk (alt_t a k) → Both (formed (written_alt text a) in_pattern) k
    alt_formed (plain w) k h = plain_formed w k h
    alt_formed (between a d b) k h =
        let first = bound_formed a _ h in
        let own = bound_formed b k first.1.1 in
        (range_formed_two (bound_at a) _ (written_bound text a) (written_bound text b) first.0 own.0, own.1)
    alt_formed (upward a q) k h = let own = bound_formed a _ h in (range_formed_lower (bound_at a) _ (written_bound text a) own.0, own.1.1)
    alt_formed (up_to d b) k h = let own = bound_formed b k h.1 in (range_formed_upper (dots_at d) _ (written_bound text b) own.0, own.1)

    plain_formed : (w : WithoutRange) (k : List Lexeme) → AllOk (plain_t w k) → Both (formed (written_plain text w) in_pattern) k
    plain_formed (literal l) k h = let own = literal_formed_lem l k h in (literal_node_formed l (literal_at l) own.0, own.1)
    plain_formed (ident b) k h = (ident_formed b, name_behind b k h)
    plain_formed (ident_at b c a) k h = let own = alt_formed a k (name_behind b _ h).1 in (ident_at_formed b (written_alt text a) own.0, own.1)
    plain_formed (wild q) k h = (wild_formed q.from, h.1)
    plain_formed (rest q) k h = (rest_formed q.from, h.1)
    plain_formed (reference a m w) k h = let own = plain_formed w k (optional_behind m _ _ h.1) in (reference_formed a m (written_plain text w) own.0, own.1)
    plain_formed (path p c n) k h = (path_formed (path_at p) _, (path_behind p _ h).1.1)
    plain_formed (list h is q) k t =
        let items = items_formed is h _ (head_behind h _ t) in
        (list_formed_lem h (head_at h) (before_rest is) (written_items text h is) (items_rest h is) items.0, items.1.1)
    plain_formed (list_to h is p q) k t =
        let items = items_formed is h _ (head_behind h _ t) in
        let own = pattern_formed p _ items.1 in
        let one = one_formed (alternatives text p) own.0 in (
          formed_if (is_group h is p) _ _ (begun_formed _ (one_of (alternatives text p)) in_pattern one)
              (list_formed_lem h (head_at h) (before_rest (item is p q)) _ (last_rest h is p q)
              (parts_if (is_part h p) _ _ (more_formed (written_items text h is) (one_of (alternatives text p)) in_pattern items.0 one) items.0)),
          own.1.1,
        )
    plain_formed (record_of h fs q) k t = let fields = fields_formed fs _ (record_behind h _ t) in (record_formed h (written_fields text fs) fields.0, fields.1.1)
    plain_formed (record_to h fs f q) k t =
        let fields = fields_formed fs _ (record_behind h _ t) in
        let own = field_formed f _ fields.1 in
        (record_formed h _ (more_formed (written_fields text fs) (written_field_of text f) in_record fields.0 own.0), own.1.1)
    plain_formed (record_dots h fs d q) k t = let fields = fields_formed fs _ (record_behind h _ t) in (record_formed h (written_fields text fs) fields.0, fields.1.1.1)

    items_formed : (is : ListItems) (h : ListHead) (k : List Lexeme) → AllOk (items_t is k) → Both (parts_formed (written_items text h is) in_pattern) k
    items_formed no_item h k t = (refl, t)
    items_formed (item is p c) h k t =
        let items = items_formed is h _ t in
        let own = pattern_formed p _ items.1 in (
          parts_if (is_part h p) _ _ (more_formed (written_items text h is) (one_of (alternatives text p)) in_pattern items.0 (one_formed (alternatives text p) own.0))
              items.0,
          own.1.1,
        )

    fields_formed : (fs : RecordFields) (k : List Lexeme) → AllOk (fields_t fs k) → Both (parts_formed (written_fields text fs) in_record) k
    fields_formed no_field k t = (refl, t)
    fields_formed (field fs f c) k t =
        let fields = fields_formed fs _ t in
        let own = field_formed f _ fields.1 in
        (more_formed (written_fields text fs) (written_field_of text f) in_record fields.0 own.0, own.1.1)

    field_formed : (f : RecordField) (k : List Lexeme) → AllOk (field_t f k) → Both (formed (written_field_of text f) in_record) k
    field_formed (keyed key c p) k t =
        let own = pattern_formed p k t.1.1 in
        (field_node_formed (key_name text key) (one_of (alternatives text p)) (one_formed (alternatives text p) own.0), own.1)
    field_formed (short b) k t = (field_node_formed (ident_name text b.called) (written_ident text b no_parts) (ident_formed b), name_behind b k t)

-- a tree of tokens whose chars are scalar values is formed
pub reduced_formed : (text : List ℕ) (p : Pattern) (k : List Lexeme) → AllOk (pattern_t p k) → formed (reduced text p) in_pattern ≡ true
unfolding reduced
reduced_formed text p k h = one_formed text (alternatives text p) (pattern_formed text p k h).0

-- a reading with a tree is over with it
pub tree_read : (r : Reading) (p : Pattern) → Over r → outcome r ≡ tree_is p → (e : Spot) × (r ≡ done p e)
unfolding outcome
tree_read _ p (Over.whole q e) h = (e, ap (λ (x : Pattern). done x e) (same q p h))
  where
    same : (a b : Pattern) → tree_is a ≡ tree_is b → a ≡ b
    same a b t = cc
tree_read _ p (Over.broken at) h =
    let z : ◌≡◌ {A = ℕ} 0 1 = cc in
    absurd (omega arith)

-- The theorem.
pub tree_formed : (text : List ℕ) (p : Pattern) → TreeIsFormed text p
unfolding parsed
tree_formed text p h =
    let read = tree_read (parsed text) p (text_over text) h in
    by (ltb 16384 (length text)) read.0 read.1
  where
    by : (b : Bool) (e : Spot) → cond b (failed 16384) (feed (strictly text) (lexemes text) fresh) ≡ done p e → formed (reduced text p) in_pattern ≡ true
    by true e q =
        let z : ◌≡◌ {A = ℕ} 0 1 = cc in
        absurd (omega arith)
    by false e q = reduced_formed text p (mark end_mark e ∷ []) (rw (sound (strictly text) (lexemes text) p e q) (lexemes_ok text))
