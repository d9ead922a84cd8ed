-- What is added for a node whose making is sound and brings words is of words and bytes. Assumes nothing.
use Prim.Native.Nat.{ℕ, ◌+◌, ◌-◌, ◌^◌, ◌≤◌, ◌<◌}
use mathlib.Core.Path.{◌≡◌, refl}
use mathlib.Core.Bool.{Bool, true, false, cond}
use mathlib.Core.Option.{Option, none, some}
use mathlib.Core.List.{List, [], ◌∷◌}
use native.Mathlib.Omega.{arith}
use lib.Dec.{eqb}
use lib.ListN.{length, get_or}
use Rattle.image.specs.declared.rows.TypeRow.{TypeRow}
use Rattle.image.specs.declared.rows.PatRow.{PatRow}
use Rattle.image.specs.Tables.{type_count, list_count}
use Rattle.image.specs.Operands.{operand_holds}
use Rattle.image.specs.Rules.{absent}
use Rattle.pattern_syntax.specs.Written.{LiteralValue, bool_value, char_value, whole_value, minus_value}
use Rattle.pattern_syntax.specs.Formed.{rest_within, Stand}
use Rattle.pattern_typing.specs.Crossing.{by_value, by_ref}
use Rattle.pattern_typing.specs.Making.{BoundAt, bound_at_type, bound_at_array, Making, pattern_row}
use Rattle.pattern_images.specs.Drafts.{Draft, Made, next_pattern, next_word, next_byte, add_pattern, add_words, add_operand, like_in, add_unless, with_type, literal_bytes, binding_for}
use Rattle.pattern_images.specs.Emitting.{list_from, with_list, array_row, with_bound_at, bound_type, reference_row, with_mode, mode_type, new_binding, with_binding, item_words, prefix_count, suffix_count, rest_word, emit_node}
use Rattle.image_growth.specs.Growing.{AreWords, type_words, Grown}
use Rattle.image_growth.proofs.Limits.{Few}
use Rattle.image_validity.specs.Standing.{Step}
use Rattle.image_validity.proofs.Keeping.{operand_inside}
use Rattle.image_validity.proofs.Extending.{Extends, extends_on, extends_pattern, extends_binding, extends_mode, begins_long}
use Rattle.image_validity.proofs.Added.{length_little_endian, list_room_lem}
use Rattle.image_validity.proofs.Bindings.{BoundHolds, bound_below, mode_below, binding_below}
use Rattle.image_validity.proofs.Emits.{Sound, sound_row, sound_literal, sound_operand, sound_named, sound_range, sound_bind, sound_reference, sound_items, sound_fields, sound_slice, sound_field, items_count}
use Rattle.image_validity.proofs.Makes.{words_begin}
use Rattle.image_words.specs.Bounds.{IsWord, own_words, DraftWords, MadeWords, BringsWords}
use Rattle.image_words.proofs.Lists.{words_at, item_words_lem, literal_bytes_lem, literal_kind, draft_type, draft_pattern, draft_binding, draft_words, draft_bytes}

literal_long : (v : LiteralValue) → length (literal_bytes v) ≤ 16
unfolding literal_bytes
literal_long (bool_value b) = omega arith
literal_long (char_value v) = omega (arith, length_little_endian 4 v)
literal_long (whole_value v) = omega (arith, length_little_endian 16 v)
literal_long (minus_value v) = omega (arith, length_little_endian 16 (2 ^ 128 - v))

module _ (sheet : List ℕ) (whole : Draft) (image : List ℕ) (g : Grown sheet whole image) (few : Few sheet whole) where
  type_word_lem : (t : ℕ) → t < type_count image → IsWord t
  type_word_lem t h = omega (arith, h, g.types_are, few.types)

  old_type_word : (t : ℕ) → t < type_count sheet → IsWord t
  old_type_word t h = omega (arith, h, few.types)

  place_word : (e : Draft) → Extends e whole → IsWord (next_word sheet e)
  place_word e x = omega (arith, begins_long x.words, few.words)

  byte_word : (e : Draft) → Extends e whole → IsWord (next_byte sheet e)
  byte_word e x = omega (arith, begins_long x.bytes, few.bytes)

  pattern_word : (e : Draft) → Extends e whole → IsWord (next_pattern sheet e)
  pattern_word e x = omega (arith, begins_long x.patterns, few.patterns)

  list_word : (n : ℕ) → n ≤ list_count image → IsWord n
  list_word n h = omega (arith, h, g.words_are, few.words)

  -- a pattern is added
  with_pattern_lem : (row : PatRow) (d : Draft) → DraftWords d → AreWords (own_words row) → Extends (add_pattern row d) whole →
      MadeWords (record { draft = add_pattern row d; stands = next_pattern sheet d ∷ [] })
  with_pattern_lem row d h own x = record { draft = draft_pattern row d h own; stands = (pattern_word d (extends_on (extends_pattern row d) x), tt) }

  -- types and bindings
  unless_words : (o : Option ℕ) (row : TypeRow) (d : Draft) → DraftWords d → AreWords (type_words row) → DraftWords (add_unless o row d)
  unfolding add_unless
  unless_words none row d h own = draft_type row d h own
  unless_words (some t) row d h own = h

  flag_word : (b : Bool) → IsWord (cond b 1 0)
  flag_word true = omega arith
  flag_word false = omega arith

  bound_words : (at : BoundAt) (d : Draft) → BoundHolds sheet at → DraftWords d → DraftWords (with_bound_at sheet at d)
  unfolding with_bound_at
  bound_words (bound_at_type t) d b h = h
  bound_words (bound_at_array element many copy) d b h =
      let less = b.1.0 in
      let flag = b.1.1 in
      unless_words (like_in sheet d (array_row element many copy)) (array_row element many copy) d h
      (omega arith, (old_type_word element b.0, (omega (arith, less), (omega arith, (omega (arith, flag), tt)))))

  mode_words : (mode t : ℕ) (d : Draft) → t < type_count image → DraftWords d → DraftWords (with_mode sheet mode t d)
  unfolding with_mode
  mode_words mode t d lt h = by (eqb mode by_value)
    where
      by : (b : Bool) → DraftWords (cond b d (with_type sheet (reference_row t mode) d))
      by true = h
      by false =
          unless_words (like_in sheet d (reference_row t mode)) (reference_row t mode) d h
          (omega arith, (type_word_lem t lt, (omega arith, (omega arith, (flag_word (eqb mode by_ref), tt)))))

  binding_words_lem : (o : Option ℕ) (mode : ℕ) (name : List ℕ) (at : BoundAt) (e : Draft) → BoundHolds sheet at → DraftWords e → Extends e whole →
      Extends (with_binding sheet o mode name at e) whole →
      DraftWords (with_binding sheet o mode name at e)
  unfolding with_binding new_binding
  binding_words_lem none mode name at e b h x y =
      let bound = with_bound_at sheet at e in
      let t = bound_type sheet at e in
      let moded = extends_on (extends_binding (record { ty = mode_type sheet mode t bound; picked = 1 }) name (with_mode sheet mode t bound)) y in
      let bounded = extends_on (extends_mode sheet mode t bound) moded in
      let known = bound_below sheet whole image g at e b x bounded in
      draft_binding _ name (with_mode sheet mode t bound) (mode_words mode t bound known (bound_words at e b h))
      (type_word_lem _ (mode_below sheet whole image g mode t bound known bounded moded), (omega arith, tt))
  binding_words_lem (some i) mode name at e b h x y = h

  -- operands
  operand_words : (v : LiteralValue) (e : Draft) → DraftWords e → Extends e whole → DraftWords (add_operand sheet v e)
  unfolding add_operand
  operand_words v e h x =
      let long = literal_long v in
      draft_bytes (literal_bytes v) _ (draft_words _ e h (literal_kind v, (byte_word e x, (omega (arith, long), tt)))) (literal_bytes_lem v)

  named_word : (o : ℕ) → operand_holds image o ≡ true → IsWord o
  named_word o h = list_word o (let l = operand_inside image o h in omega (arith, l))

  bound_word : (b : Bool) (stands : List ℕ) (i : ℕ) → AreWords stands → IsWord (cond b (get_or stands i absent) absent)
  bound_word true stands i h = words_at stands i absent h (omega arith)
  bound_word false stands i h = omega arith

  -- counts of a list's parts
  part_counts : (before : Option ℕ) (many n : ℕ) → rest_within before many ≡ true → n ≡ prefix_count before many + suffix_count before many → n ≤ list_count image →
      IsWord (prefix_count before many) × IsWord (suffix_count before many)
  part_counts before many n rest e h = (list_word (prefix_count before many) (omega (arith, e, h)), list_word (suffix_count before many) (omega (arith, e, h)))

  rest_word_lem : (before : Option ℕ) (stands : List ℕ) → AreWords stands → IsWord (rest_word before stands)
  unfolding rest_word
  rest_word_lem none stands h = omega arith
  rest_word_lem (some before) stands h = words_at stands before absent h (omega arith)

  emits_list_words : (row : PatRow) (many : ℕ) (m : Made) → IsWord row.kind × (IsWord row.c × IsWord row.d) → IsWord row.ty → many ≤ length m.stands → MadeWords m →
      Extends (emit_node sheet (Making.list_made row) many m.stands m.draft).draft whole → MadeWords (emit_node sheet (Making.list_made row) many m.stands m.draft)
  unfolding emit_node
  emits_list_words row many m brings t fewer h x =
      let e = m.draft in
      let ws = m.stands in
      let from = list_from sheet ws e in
      let room = list_room_lem sheet whole image g e ws (words_begin sheet whole image g (with_list row from many) ws e x) in
      with_pattern_lem (with_list row from many) (add_words ws e) (draft_words ws e h.draft h.stands)
      (brings.0, (t, (list_word from (omega (arith, room)), (list_word many (omega (arith, room, fewer)), (brings.1.0, (brings.1.1, tt)))))) x

  -- any node
  pub emits_words : (making : Making) (many : ℕ) (s p : Stand) (d : Draft) (m : Made) → Sound sheet image making many s p → BringsWords making → Step sheet image p many d m →
      MadeWords m →
      Extends m.draft whole → Extends (emit_node sheet making many m.stands m.draft).draft whole → MadeWords (emit_node sheet making many m.stands m.draft)
  unfolding emit_node
  emits_words _ _ _ _ d m (sound_row row many p t shape bare) b step h early x =
      with_pattern_lem row m.draft h.draft (b.0, (old_type_word row.ty t, (b.1.0, (b.1.1.0, (b.1.1.1.0, (b.1.1.1.1, tt)))))) x
  emits_words _ _ _ _ d m (sound_literal t derefs v many p lt formed) b step h early x =
      with_pattern_lem (pattern_row 10 t derefs (next_word sheet m.draft) 0 0 0) (add_operand sheet v m.draft) (operand_words v m.draft h.draft early)
      (omega arith, (old_type_word t lt, (place_word m.draft early, (omega arith, (omega arith, (omega arith, tt)))))) x
  emits_words _ _ _ _ d m (sound_operand v many p formed) b step h early x =
      record { draft = operand_words v m.draft h.draft early; stands = (place_word m.draft early, tt) }
  emits_words _ _ _ _ d m (sound_named o many p holds) b step h early x = record { draft = h.draft; stands = (named_word o holds, tt) }
  emits_words _ _ _ _ d m (sound_range t derefs lower upper dots many lt count) b step h early x =
      with_pattern_lem _ m.draft h.draft
      (omega arith, (old_type_word t lt, (bound_word lower m.stands 0 h.stands, (bound_word upper m.stands (cond lower 1 0) h.stands, (flag_word dots, (omega arith, tt)))))) x
  emits_words _ _ _ _ d m (sound_bind t mode annotation name at many lt modes notes bound one) b step h early x =
      let e = m.draft in
      let o = binding_for e name in
      let bounded = extends_on (extends_pattern _ (with_binding sheet o mode name at e)) x in
      let less = binding_below sheet whole image g o mode name at e refl step.good early bounded in
      with_pattern_lem _ (with_binding sheet o mode name at e) (binding_words_lem o mode name at e bound h.draft early bounded)
      (omega arith, (old_type_word t lt, (omega (arith, less, g.bindings_are, few.bindings), (words_at m.stands 0 absent h.stands (omega arith), (omega (arith, modes), (omega (arith, notes), tt)))))) x
  emits_words _ _ _ _ d m (sound_reference t many lt count) b step h early x =
      with_pattern_lem _ m.draft h.draft
      (omega arith, (old_type_word t lt, (words_at m.stands 0 absent h.stands (omega arith), (omega arith, (omega arith, (omega arith, tt)))))) x
  emits_words _ _ _ _ d m (sound_items row many t shape subs) b step h early x =
      emits_list_words row many m b (old_type_word row.ty t) (let l = step.stood.0 in omega (arith, l)) h x
  emits_words _ _ _ _ d m (sound_fields row many t shape subs) b step h early x =
      emits_list_words row many m b (old_type_word row.ty t) (let l = step.stood.0 in omega (arith, l)) h x
  emits_words _ _ _ _ d m (sound_slice t derefs before many lt rest) b step h early x =
      let e = m.draft in
      let ws = item_words before m.stands in
      let from = list_from sheet ws e in
      let row = pattern_row 8 t derefs from (prefix_count before many) (suffix_count before many) (rest_word before m.stands) in
      let room = list_room_lem sheet whole image g e ws (words_begin sheet whole image g row ws e x) in
      let counts = part_counts before many (length ws) rest (items_count before many m.stands step.stood.0 rest) (omega (arith, room)) in
      with_pattern_lem row (add_words ws e) (draft_words ws e h.draft (item_words_lem before m.stands h.stands))
      (omega arith, (old_type_word t lt, (list_word from (omega (arith, room)), (counts.0, (counts.1, (rest_word_lem before m.stands h.stands, tt)))))) x
  emits_words _ _ _ _ d m (sound_field number many count) b step h early x = record { draft = h.draft; stands = (b, h.stands) }
