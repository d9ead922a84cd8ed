-- Every admitted tree is read back from what it is written as, so that tokens have at most one tree. Assumes nothing.
use Prim.Native.Nat.{ℕ}
use mathlib.Core.Path.{◌≡◌, refl, sym, ap, ◌∙◌}
use mathlib.Core.Bool.{Bool, true, false, not, ◌&&◌, ◌||◌, false≢true}
use mathlib.Core.Logic.{◌⊎◌, inl, inr}
use mathlib.Core.Option.{Option, none, some}
use mathlib.Core.List.{List, [], ◌∷◌}
use lib.Dec.{eqb}
use Rattle.image.proofs.Bools.{and_left, and_right, and_true}
use Rattle.pattern_grammar.specs.Lexemes.{Spot, Identifier, Lexeme, mark, end_mark, comma_mark, or_mark, close_brace_mark, true_mark, false_mark, mut_mark, integer_mark, minus_mark, colon_mark, bind_mark, dot_dot_mark, follows, Source}
use Rattle.pattern_grammar.specs.Trees.{inside, path_t, exclusive, inclusive, Ampersand, single, double, ListHead, tuple_at, struct_at, slice_at, closer, RecordHead, FieldKey, index, label, Pattern, alone, or, NoTopAlt, plain, between, upward, up_to, WithoutRange, literal, ident, ident_at, wild, rest, reference, path, list, list_to, record_of, record_to, record_dots, ListItems, no_item, item, RecordFields, no_field, field, RecordField, keyed, short, bound_t, dots_t, optional_t, name_t, ampersand_t, key_t, pattern_t, alt_t, plain_t, items_t, fields_t, field_t}
use Rattle.pattern_grammar.specs.Admitted.{open_item_at, RestRoom, no_rest, fits_rest, behind_name, behind_bar, item_room, mut_is_own, bound_fits, key_fits, is_none, pattern_ok, alt_ok, plain_ok, items_ok, fields_ok, field_ok, admitted}
use Rattle.pattern_grammar.specs.Machine.{ForPlain, any_alt, behind_amp, ForAlt, first_alt, next_alt, behind_at, ForPattern, whole_text, for_item, for_field, closed_in, RangeHead, up_to_head, from_head, range_of, Reading, begin, expect, read_alt, read_brace, read_index, done, failed, close_alt, close_plain, after, room_in, room_behind, room_of, ranged, unless_open, starts, bounds, behind, ends, named_in, behind_field, on_mark, on_name, step, feed, fresh, dots_in, rest_stands}
use Rattle.pattern_grammar.proofs.Beginnings.{cond_false, cond_true, begin_alike, amp_alike, plain_alike, alt_alike}
use Rattle.pattern_grammar.proofs.Pieces.{apart, fits_goes, at_path, path_read, literal_read, at_bound, bound_read, from_dots, from_equals, dots_await, from_awaits, to_awaits, upper_read, at_name, name_read, head_read, record_read}

-- no rest may stand here, or the one for which there is room, before a mark that is no `|`
abbrev Has : RestRoom → RestRoom → ℕ → Type 0
Has room real m = (room ≡ no_rest) ⊎ ((room ≡ real) × (eqb m or_mark ≡ false))

has_named : (room real : RestRoom) (m : ℕ) → Has room real m → Has (behind_name room) (behind_name real) m
unfolding behind_name
has_named room real m (inl e) = inl (ap behind_name e)
has_named room real m (inr h) = inr (ap behind_name h.0, h.1)

has_barred : (lead : Option Spot) (room real : RestRoom) (m : ℕ) → Has room real m → Has (behind_bar lead room) (behind_bar lead real) m
unfolding behind_bar
has_barred none room real m h = h
has_barred (some q) room real m h = inl refl

-- a mark behind what is whole
name_follow :
    (by_ref mutable : Option Spot) (n : Identifier) (text : Source) (s : ForPlain) (m : ℕ) (q : Spot)
    → follows m ≡ true
    → on_mark text (at_name by_ref mutable n s) m q ≡ after text (close_plain (ident (record { by_ref = by_ref; mutable = mutable; called = n })) s) m q
unfolding on_mark at_name
name_follow none none n text s m q f = cond_true (follows m) _ _ f
name_follow none (some c) n text s m q f = cond_true (follows m) _ _ f
name_follow (some r) mutable n text s m q f = cond_true (follows m) _ _ f

name_bind :
    (by_ref mutable : Option Spot) (n : Identifier) (text : Source) (s : ForPlain) (c : Spot)
    → on_mark text (at_name by_ref mutable n s) bind_mark c ≡ expect (any_alt (behind_at (record { by_ref = by_ref; mutable = mutable; called = n }) c s))
unfolding on_mark at_name
name_bind none none n text s c = refl
name_bind none (some u) n text s c = refl
name_bind (some r) mutable n text s c = refl

or_step : (text : Source) (p : Pattern) (o : ForPattern) (c : Spot) → behind text p o or_mark c ≡ expect (any_alt (next_alt p c o))
unfolding behind
or_step text p whole_text c = refl
or_step text p (for_item h is s) c = refl
or_step text p (for_field h fs key d s) c = refl

unless_none : (o : Option ℕ) (go : Reading) → is_none o ≡ true → unless_open o go ≡ go
unfolding is_none unless_open
unless_none none go e = refl
unless_none (some at) go e = absurd (false≢true e)

shut_empty :
    (h : ListHead) (is : ListItems) (s : ForPlain) (text : Source) (q : Spot)
    → on_mark text (begin (for_item h is s)) (closer h) q ≡ read_alt (close_plain (list h is q) s)
unfolding on_mark closer ends
shut_empty (tuple_at c) is s text q = refl
shut_empty (struct_at p c) is s text q = refl
shut_empty (slice_at c) is s text q = refl

shut_behind :
    (h : ListHead) (is : ListItems) (p : Pattern) (s : ForPlain) (text : Source) (q : Spot)
    → behind text p (for_item h is s) (closer h) q ≡ unless_open (open_item_at text h p) (read_alt (close_plain (list_to h is p q) s))
unfolding behind closer
shut_behind (tuple_at c) is p s text q = refl
shut_behind (struct_at n c) is p s text q = refl
shut_behind (slice_at c) is p s text q = refl

closer_follows : (h : ListHead) → follows (closer h) ≡ true
unfolding closer
closer_follows (tuple_at c) = refl
closer_follows (struct_at p c) = refl
closer_follows (slice_at c) = refl

closer_other : (h : ListHead) → eqb (closer h) or_mark ≡ false
unfolding closer
closer_other (tuple_at c) = refl
closer_other (struct_at p c) = refl
closer_other (slice_at c) = refl

key_read :
    (key : FieldKey) (c : Spot) (h : RecordHead) (fs : RecordFields) (s : ForPlain) (text : Source) (k : List Lexeme)
    → key_fits text key ≡ true
    → feed text (key_t key ∷ mark colon_mark c ∷ k) (read_brace h fs s) ≡ feed text k (begin (for_field h fs key c s))
unfolding key_t key_fits feed step on_mark on_name
key_read (index q) c h fs s text k e =
    ap (λ r. feed text k (on_mark text r colon_mark c)) (fits_goes text false q (read_index q h fs s) e)
key_read (label n) c h fs s text k e = refl

short_read :
    (by_ref mutable : Option Spot) (n : Identifier) (h : RecordHead) (fs : RecordFields) (s : ForPlain) (text : Source) (m : ℕ) (q : Spot) (k : List Lexeme)
    → follows m ≡ true
    → feed text (name_t (record { by_ref = by_ref; mutable = mutable; called = n }) (mark m q ∷ k)) (read_brace h fs s)
    ≡ feed text k (behind_field (short (record { by_ref = by_ref; mutable = mutable; called = n })) h fs s m q)
unfolding name_t optional_t feed step on_mark on_name named_in
short_read none none n h fs s text m q k f = ap (feed text k) (cond_false (eqb m colon_mark) _ _ (apart m colon_mark f refl))
short_read none (some u) n h fs s text m q k f = refl
short_read (some r) none n h fs s text m q k f = refl
short_read (some r) (some u) n h fs s text m q k f = refl

keyed_behind :
    (key : FieldKey) (c : Spot) (p : Pattern) (h : RecordHead) (fs : RecordFields) (s : ForPlain) (text : Source) (m : ℕ) (q : Spot)
    → eqb m or_mark ≡ false → behind text p (for_field h fs key c s) m q ≡ behind_field (keyed key c p) h fs s m q
unfolding behind behind_field
keyed_behind key c p h fs s text m q e = rw e refl

amp_read :
    (a : Ampersand) (m : Option Spot) (w : WithoutRange) (s : ForPlain) (text : Source) (k : List Lexeme)
    → mut_is_own m w ≡ true
    → feed text (ampersand_t a ∷ optional_t m mut_mark (plain_t w k)) (expect s) ≡ feed text (plain_t w k) (expect (behind_amp a m s))
unfolding ampersand_t optional_t mut_is_own feed step on_mark starts
amp_read (single c) none w s text k e = plain_alike w text false _ _ k (amp_alike text (single c) s) (rw e refl)
amp_read (double c) none w s text k e = plain_alike w text false _ _ k (amp_alike text (double c) s) (rw e refl)
amp_read (single c) (some u) w s text k e = refl
amp_read (double c) (some u) w s text k e = refl

-- no upper bound begins with a mark that can stand behind a pattern
bounds_pass :
    (text : Source) (h : RangeHead) (l : ForAlt) (m : ℕ) (q : Spot) (other : Reading)
    → follows m ≡ true → bounds text h l m q other ≡ other
unfolding bounds
bounds_pass text h l m q other f =
    rw (apart m true_mark f refl) (rw (apart m false_mark f refl) (rw (apart m integer_mark f refl) (rw (apart m minus_mark f refl) refl)))

or_right : (b : Bool) → (b || true) ≡ true
or_right true = refl
or_right false = refl

or_left : (a b : Bool) → a ≡ true → (a || b) ≡ true
or_left true b e = refl
or_left false b e = absurd (false≢true e)

or_none : (a : Bool) → (a || false) ≡ true → a ≡ true
or_none true e = refl
or_none false e = e

-- where there is room for a rest, or by the grammar alone, one may stand
stands :
    (text : Source) (l : ForAlt) (room : RestRoom) (m : ℕ)
    → (fits_rest room || not text.strict) ≡ true → Has room (room_in l) m → rest_stands text l m ≡ true
unfolding rest_stands fits_rest
stands text l room m e h = by text.strict refl e h
  where
    by : (b : Bool) → text.strict ≡ b → (fits_rest room || not b) ≡ true → Has room (room_in l) m → (fits_rest (room_in l) && not (eqb m or_mark) || not b) ≡ true
    by false s f g = or_right (fits_rest (room_in l) && not (eqb m or_mark))
    by true s f (inl n) = absurd (false≢true (sym (ap fits_rest n) ∙ or_none (fits_rest room) f))
    by true s f (inr g) = or_left (fits_rest (room_in l) && not (eqb m or_mark)) false (and_true (fits_rest (room_in l)) (not (eqb m or_mark)) (sym (ap fits_rest g.0) ∙ or_none (fits_rest room) f) (rw g.1 refl))

-- behind `&` one may stand by the grammar alone
loose_alone :
    (text : Source) (room : RestRoom) (m : ℕ) → (fits_rest room || not text.strict) ≡ true → Has room no_rest m → text.strict ≡ false
unfolding fits_rest
loose_alone text room m e h = by text.strict e h
  where
    by : (b : Bool) → (fits_rest room || not b) ≡ true → Has room no_rest m → b ≡ false
    by false f g = refl
    by true f (inl n) = absurd (false≢true (sym (ap fits_rest n) ∙ or_none (fits_rest room) f))
    by true f (inr g) = absurd (false≢true (sym (ap fits_rest g.0) ∙ or_none (fits_rest room) f))

-- a rest, where there is room for it
rest_read_lem :
    (d : Spot) (s : ForPlain) (room : RestRoom) (text : Source) (m : ℕ) (q : Spot) (k : List Lexeme)
    → (fits_rest room || not text.strict) ≡ true → follows m ≡ true → Has room (room_behind s) m
    → feed text (mark dot_dot_mark d ∷ mark m q ∷ k) (expect s) ≡ feed text (mark m q ∷ k) (read_alt (close_plain (rest d) s))
unfolding feed step on_mark starts dots_in room_in close_alt
rest_read_lem d (any_alt l) room text m q k e f h =
    ap (feed text k) (bounds_pass text _ l m q _ f ∙ cond_true (rest_stands text l m) _ _ (stands text l room m e h))
rest_read_lem d (behind_amp a u s) room text m q k e f h =
    ap (feed text (mark m q ∷ k)) (cond_false text.strict _ _ (loose_alone text room m e h))

mutual
  unfolding pattern_t path_t name_t dots_t optional_t pattern_ok behind_bar feed step on_mark starts dots_in ranged at_path at_bound behind behind_field close_alt room_in range_of

  pub pattern_read :
      (p : Pattern) (text : Source) (room : RestRoom) (o : ForPattern) (m : ℕ) (q : Spot) (k : List Lexeme)
      → pattern_ok text room p ≡ true → follows m ≡ true → Has room (room_of o) m
      → feed text (pattern_t p (mark m q ∷ k)) (begin o) ≡ feed text (mark m q ∷ k) (read_alt (closed_in p o))
  pattern_read (alone none a) text room o m q k e f h =
      alt_alike a text _ _ (mark m q ∷ k) (begin_alike text o)
      ∙ alt_read_lem a text room (first_alt none o) m q k e f (has_barred none room (room_of o) m h)
  pattern_read (alone (some c) a) text room o m q k e f h = alt_read_lem a text no_rest (first_alt (some c) o) m q k e f (inl refl)
  pattern_read (or p c a) text room o m q k e f h =
      pattern_read p text no_rest o or_mark c (alt_t a (mark m q ∷ k)) (and_left _ (alt_ok text no_rest a) e) refl (inl refl)
      ∙ ap (feed text (alt_t a (mark m q ∷ k))) (or_step text p o c)
      ∙ alt_read_lem a text no_rest (next_alt p c o) m q k (and_right (pattern_ok text no_rest p) _ e) f (inl refl)

  pub alt_read_lem :
      (a : NoTopAlt) (text : Source) (room : RestRoom) (l : ForAlt) (m : ℕ) (q : Spot) (k : List Lexeme)
      → alt_ok text room a ≡ true → follows m ≡ true → Has room (room_in l) m
      → feed text (alt_t a (mark m q ∷ k)) (expect (any_alt l)) ≡ feed text (mark m q ∷ k) (read_alt (close_alt a l))
  alt_read_lem (plain w) text room l m q k e f h = plain_read w text room (any_alt l) m q k e f h
  alt_read_lem (between a (exclusive c) b) text room l m q k e f h =
      bound_read a text (any_alt l) _ (and_left _ (bound_fits text b) e)
      ∙ ap (feed text (bound_t b (mark m q ∷ k))) (from_dots a text l c)
      ∙ upper_read b text _ l _ m q k (from_awaits text a c l) (and_right (bound_fits text a) _ e) f
  alt_read_lem (between a (inclusive c) b) text room l m q k e f h =
      bound_read a text (any_alt l) _ (and_left _ (bound_fits text b) e)
      ∙ ap (feed text (bound_t b (mark m q ∷ k))) (from_equals a text l c)
      ∙ upper_read b text _ l _ m q k (to_awaits text (from_head a (inclusive c)) l) (and_right (bound_fits text a) _ e) f
  alt_read_lem (upward a c) text room l m q k e f h =
      bound_read a text (any_alt l) _ e
      ∙ ap (feed text (mark m q ∷ k)) (from_dots a text l c)
      ∙ ap (feed text k) (bounds_pass text (from_head a (exclusive c)) l m q _ f ∙ cond_true (follows m) _ (failed q.from) f)
  alt_read_lem (up_to (exclusive c) b) text room l m q k e f h = upper_read b text _ l _ m q k (dots_await text c l) e f
  alt_read_lem (up_to (inclusive c) b) text room l m q k e f h = upper_read b text _ l _ m q k (to_awaits text (up_to_head (inclusive c)) l) e f

  pub plain_read :
      (w : WithoutRange) (text : Source) (room : RestRoom) (s : ForPlain) (m : ℕ) (q : Spot) (k : List Lexeme)
      → plain_ok text room w ≡ true → follows m ≡ true → Has room (room_behind s) m
      → feed text (plain_t w (mark m q ∷ k)) (expect s) ≡ feed text (mark m q ∷ k) (read_alt (close_plain w s))
  plain_read (literal v) text room s m q k e f h =
      literal_read v text s (mark m q ∷ k) e ∙ ap (feed text k) (cond_true (follows m) _ _ f)
  plain_read (ident b) text room s m q k e f h =
      name_read b.by_ref b.mutable b.called text s (mark m q ∷ k)
      ∙ ap (feed text k) (name_follow b.by_ref b.mutable b.called text s m q f)
  plain_read (ident_at b c a) text room s m q k e f h =
      name_read b.by_ref b.mutable b.called text s _
      ∙ ap (feed text (alt_t a (mark m q ∷ k))) (name_bind b.by_ref b.mutable b.called text s c)
      ∙ alt_read_lem a text (behind_name room) (behind_at b c s) m q k e f (has_named room (room_behind s) m h)
  plain_read (wild c) text room s m q k e f h = refl
  plain_read (rest d) text room s m q k e f h = rest_read_lem d s room text m q k e f h
  plain_read (reference a u w) text room s m q k e f h =
      amp_read a u w s text (mark m q ∷ k) (and_left _ (plain_ok text no_rest w) e)
      ∙ plain_read w text no_rest (behind_amp a u s) m q k (and_right (mut_is_own u w) _ e) f (inl refl)
  plain_read (path p c n) text room s m q k e f h =
      path_read (inside p c n) text s (mark m q ∷ k) ∙ ap (feed text k) (cond_true (follows m) _ _ f)
  plain_read (list g is c) text room s m q k e f h =
      head_read g text s _
      ∙ items_read is text g s _ e
      ∙ ap (feed text (mark m q ∷ k)) (shut_empty g is s text c)
  plain_read (list_to g is p c) text room s m q k e f h =
      let own = and_right (items_ok text g is) _ e in
      head_read g text s _
      ∙ items_read is text g s _ (and_left _ (pattern_ok text (item_room g is) p && is_none (open_item_at text g p)) e)
      ∙ pattern_read p text (item_room g is) (for_item g is s) (closer g) c (mark m q ∷ k) (and_left _ (is_none (open_item_at text g p)) own) (closer_follows g)
      (inr (refl, closer_other g))
      ∙ ap (feed text (mark m q ∷ k))
      (shut_behind g is p s text c ∙ unless_none (open_item_at text g p) _ (and_right (pattern_ok text (item_room g is) p) _ own))
  plain_read (record_of g fs c) text room s m q k e f h = record_read g text s _ ∙ fields_read fs text g s _ e
  plain_read (record_to g fs x c) text room s m q k e f h =
      record_read g text s _
      ∙ fields_read fs text g s _ (and_left _ (field_ok text x) e)
      ∙ field_read x text g fs s close_brace_mark c (mark m q ∷ k) (and_right (fields_ok text fs) _ e) refl refl
      ∙ refl
  plain_read (record_dots g fs d c) text room s m q k e f h = record_read g text s _ ∙ fields_read fs text g s _ e

  pub items_read :
      (is : ListItems) (text : Source) (g : ListHead) (s : ForPlain) (k : List Lexeme)
      → items_ok text g is ≡ true → feed text (items_t is k) (begin (for_item g no_item s)) ≡ feed text k (begin (for_item g is s))
  items_read no_item text g s k e = refl
  items_read (item is p c) text g s k e =
      let own = and_right (items_ok text g is) _ e in
      items_read is text g s _ (and_left _ (pattern_ok text (item_room g is) p && is_none (open_item_at text g p)) e)
      ∙ pattern_read p text (item_room g is) (for_item g is s) comma_mark c k (and_left _ (is_none (open_item_at text g p)) own) refl (inr (refl, refl))
      ∙ ap (feed text k) (unless_none (open_item_at text g p) _ (and_right (pattern_ok text (item_room g is) p) _ own))

  pub fields_read :
      (fs : RecordFields) (text : Source) (g : RecordHead) (s : ForPlain) (k : List Lexeme)
      → fields_ok text fs ≡ true → feed text (fields_t fs k) (read_brace g no_field s) ≡ feed text k (read_brace g fs s)
  fields_read no_field text g s k e = refl
  fields_read (field fs x c) text g s k e =
      fields_read fs text g s _ (and_left _ (field_ok text x) e)
      ∙ field_read x text g fs s comma_mark c k (and_right (fields_ok text fs) _ e) refl refl

  pub field_read :
      (x : RecordField) (text : Source) (g : RecordHead) (fs : RecordFields) (s : ForPlain) (m : ℕ) (q : Spot) (k : List Lexeme)
      → field_ok text x ≡ true → follows m ≡ true → eqb m or_mark ≡ false
      → feed text (field_t x (mark m q ∷ k)) (read_brace g fs s) ≡ feed text k (behind_field x g fs s m q)
  field_read (keyed key c p) text g fs s m q k e f h =
      key_read key c g fs s text (pattern_t p (mark m q ∷ k)) (and_left _ (pattern_ok text no_rest p) e)
      ∙ pattern_read p text no_rest (for_field g fs key c s) m q k (and_right (key_fits text key) _ e) f (inl refl)
      ∙ ap (feed text k) (keyed_behind key c p g fs s text m q h)
  field_read (short b) text g fs s m q k e f h = short_read b.by_ref b.mutable b.called g fs s text m q k f

-- an admitted tree is read back from what it is written as, before the text's end
pub complete : (text : Source) (p : Pattern) (e : Spot) → admitted text p ≡ true → feed text (pattern_t p (mark end_mark e ∷ [])) fresh ≡ done p e
unfolding admitted feed step on_mark behind
complete text p e a = pattern_read p text no_rest whole_text end_mark e [] a refl (inl refl)

-- one tree: what is written alike is alike
pub one_tree :
    (text : Source) (p q : Pattern) (e f : Spot) → admitted text p ≡ true → admitted text q ≡ true
    → pattern_t p (mark end_mark e ∷ []) ≡ pattern_t q (mark end_mark f ∷ []) → p ≡ q
one_tree text p q e f a b w =
    let alike : done p e ≡ done q f = sym (complete text p e a) ∙ (ap (λ ts. feed text ts fresh) w ∙ complete text q f b) in
    cc
