-- What is added for a list, a slice or a field, and for any node whose making is sound. Assumes nothing.
use Prim.Native.Nat.{ℕ, ◌+◌, ◌*◌, ◌≤◌, ◌<◌}
use mathlib.Core.Path.{◌≡◌, refl, sym, ap, ◌∙◌}
use mathlib.Core.Bool.{true}
use mathlib.Core.Option.{Option}
use mathlib.Core.List.{List, [], ◌∷◌, ◌++◌}
use native.Mathlib.Omega.{arith}
use borrow.Author.Tests.{le-leb}
use lib.Dec.{ltb}
use lib.ListN.{length}
use Rattle.image.specs.declared.rows.PatRow.{PatRow}
use Rattle.image.specs.Kinds.{pat_kind}
use Rattle.image.specs.Tables.{type_count, list_count}
use Rattle.image.specs.Lists.{all_in}
use Rattle.image.specs.Rules.{listed}
use Rattle.image.specs.Subpatterns.{if_present, subpatterns_by}
use Rattle.image.specs.Patterns.{pattern_shape_holds}
use Rattle.pattern_syntax.specs.Formed.{rest_within, Stand, in_pattern, in_record}
use Rattle.pattern_typing.specs.Making.{Making, list_made, slice_made, pattern_row}
use Rattle.pattern_images.specs.Drafts.{Draft, Made, next_pattern, add_pattern, add_words}
use Rattle.pattern_images.specs.Emitting.{made, with_pattern, list_from, with_list, item_words, prefix_count, suffix_count, rest_word, emit_node}
use Rattle.image_growth.specs.Growing.{Grown}
use Rattle.image_validity.specs.Standing.{Step, open_in, seconds, times}
use Rattle.image_validity.proofs.Tests.{times_join, in_both}
use Rattle.image_validity.proofs.Extending.{Extends, Begins}
use Rattle.image_validity.proofs.Added.{listed_words, listed_seconds, listed_join, list_there, list_room_lem}
use Rattle.image_validity.proofs.Steps.{step_pattern, good_words}
use Rattle.image_validity.proofs.Emits.{Sound, sound_row, sound_literal, sound_operand, sound_named, sound_range, sound_bind, sound_reference, sound_items, sound_fields, sound_slice, sound_field, items_times, items_in, items_count, type_named, emits_row, emits_literal, emits_operand, emits_named, emits_range, emits_bind, emits_reference}

module _ (sheet : List ℕ) (whole : Draft) (image : List ℕ) (g : Grown sheet whole image) where
  pub words_begin : (row : PatRow) (ws : List ℕ) (e : Draft) → Extends (add_pattern row (add_words ws e)) whole → Begins (e.words ++ ws) whole.words
  unfolding add_pattern add_words
  words_begin row ws e x = x.words

  words_patterns : (ws : List ℕ) (e : Draft) → (add_words ws e).patterns ≡ e.patterns
  unfolding add_words
  words_patterns ws e = refl

  -- a row over a list of words: its subpatterns are among what stood open
  emits_list : (row : PatRow) (ws : List ℕ) (p : Stand) (many : ℕ) (d : Draft) (m : Made) → row.ty < type_count sheet → pattern_shape_holds (pat_kind row.kind) image row ≡ true →
      ((q : ℕ) → times q (subpatterns_by (pat_kind row.kind) image row) ≤ times q (open_in p m.stands)) →
      all_in (λ q. ltb q (next_pattern sheet m.draft)) (subpatterns_by (pat_kind row.kind) image row) ≡ true →
      Step sheet image p many d m → Step sheet image in_pattern 1 d (with_pattern sheet row (add_words ws m.draft))
  emits_list row ws p many d m t shape fewer inside step =
      let e = m.draft in
      let same = words_patterns ws e in
      step_pattern sheet image row d (add_words ws e) (good_words sheet image ws e step.good)
      (record { named = type_named sheet whole image g row.ty t; shape = shape; subs = rw same inside })
      (λ q. rw same (omega (arith, step.once q, fewer q)))

  emits_items : (row : PatRow) (many : ℕ) (d : Draft) (m : Made) → row.ty < type_count sheet →
      ((from n : ℕ) → from + n ≤ list_count image → pattern_shape_holds (pat_kind row.kind) image (with_list row from n) ≡ true) →
      ((from n : ℕ) → subpatterns_by (pat_kind row.kind) image (with_list row from n) ≡ listed image 1 from n) →
      Step sheet image in_pattern many d m → Extends (emit_node sheet (list_made row) many m.stands m.draft).draft whole →
      Step sheet image in_pattern 1 d (emit_node sheet (list_made row) many m.stands m.draft)
  unfolding emit_node
  emits_items row many d m t shape subs step x =
      let e = m.draft in
      let ws = m.stands in
      let from = list_from sheet ws e in
      let begin = words_begin (with_list row from many) ws e x in
      let long = step.stood.0 in
      let all : subpatterns_by (pat_kind row.kind) image (with_list row from many) ≡ ws =
      subs from many ∙ (ap (listed image 1 from) (sym long) ∙ listed_words image ws from (list_there sheet whole image g e ws begin))
      in
      emits_list (with_list row from many) ws in_pattern many d m t (shape from many (let r = list_room_lem sheet whole image g e ws begin in omega (arith, r, long)))
      (λ q. let l = ap (times q) all in omega (arith, l))
      (rw all step.stood.1)
      step

  emits_fields : (row : PatRow) (many : ℕ) (d : Draft) (m : Made) → row.ty < type_count sheet →
      ((from n : ℕ) → from + 2 * n ≤ list_count image → pattern_shape_holds (pat_kind row.kind) image (with_list row from n) ≡ true) →
      ((from n : ℕ) → subpatterns_by (pat_kind row.kind) image (with_list row from n) ≡ listed image 2 (from + 1) n) →
      Step sheet image in_record many d m → Extends (emit_node sheet (list_made row) many m.stands m.draft).draft whole →
      Step sheet image in_pattern 1 d (emit_node sheet (list_made row) many m.stands m.draft)
  unfolding emit_node
  emits_fields row many d m t shape subs step x =
      let e = m.draft in
      let ws = m.stands in
      let from = list_from sheet ws e in
      let begin = words_begin (with_list row from many) ws e x in
      let long = step.stood.0 in
      let all : subpatterns_by (pat_kind row.kind) image (with_list row from many) ≡ seconds ws =
      subs from many ∙ listed_seconds image many ws from long (list_there sheet whole image g e ws begin)
      in
      emits_list (with_list row from many) ws in_record many d m t (shape from many (let r = list_room_lem sheet whole image g e ws begin in omega (arith, r, long)))
      (λ q. let l = ap (times q) all in omega (arith, l))
      (rw all step.stood.1)
      step

  emits_slice : (t derefs : ℕ) (before : Option ℕ) (many : ℕ) (d : Draft) (m : Made) → t < type_count sheet → rest_within before many ≡ true →
      Step sheet image in_pattern many d m → Extends (emit_node sheet (slice_made t derefs before) many m.stands m.draft).draft whole →
      Step sheet image in_pattern 1 d (emit_node sheet (slice_made t derefs before) many m.stands m.draft)
  unfolding emit_node pattern_shape_holds subpatterns_by
  emits_slice t derefs before many d m h rest step x =
      let e = m.draft in
      let stands = m.stands in
      let ws = item_words before stands in
      let from = list_from sheet ws e in
      let b = prefix_count before many in
      let c = suffix_count before many in
      let w = rest_word before stands in
      let row = pattern_row 8 t derefs from b c w in
      let begin = words_begin row ws e x in
      let long = step.stood.0 in
      let count = items_count before many stands long rest in
      let listing : listed image 1 from b ++ listed image 1 (from + b) c ≡ ws =
      sym (listed_join image from b c) ∙ (ap (listed image 1 from) (sym count) ∙ listed_words image ws from (list_there sheet whole image g e ws begin))
      in
      let all : listed image 1 from b ++ (listed image 1 (from + b) c ++ if_present w) ≡ ws ++ if_present w =
      sym (mathlib.Core.List.append_assoc (listed image 1 from b) (listed image 1 (from + b) c) (if_present w)) ∙ ap (λ (l : List ℕ). l ++ if_present w) listing
      in
      let inside = items_in _ before many stands long rest step.stood.1 in
      emits_list row ws in_pattern many d m h (le-leb (from + (b + c)) (list_count image) (let r = list_room_lem sheet whole image g e ws begin in omega (arith, r, count)))
      (λ q. let l = ap (times q) all in omega (arith, l, times_join q ws (if_present w), items_times q before many stands long rest))
      (rw all (in_both _ ws (if_present w) inside.0 inside.1))
      step

  emits_field : (number many : ℕ) (d : Draft) (m : Made) → many ≡ 1 → Step sheet image in_pattern many d m → Step sheet image in_record 1 d (made m.draft (number ∷ m.stands))
  unfolding seconds
  emits_field number many d m count step =
      let same = seconds_one number m.stands (step.stood.0 ∙ count) in
      record {
        good = step.good;
        once = λ q. let l = ap (times q) same in omega (arith, step.once q, l);
        stood = (omega (arith, step.stood.0, count), rw same step.stood.1);
      }
    where
      seconds_one : (n : ℕ) (xs : List ℕ) → length xs ≡ 1 → seconds (n ∷ xs) ≡ xs
      seconds_one n [] e = refl
      seconds_one n (x ∷ []) e = refl
      seconds_one n (x ∷ y ∷ xs) e = absurd (omega (arith, e))

  -- any node
  pub emits : (making : Making) (many : ℕ) (s p : Stand) (d : Draft) (m : Made) → Sound sheet image making many s p → Step sheet image p many d m →
      Extends (emit_node sheet making many m.stands m.draft).draft whole → Step sheet image s 1 d (emit_node sheet making many m.stands m.draft)
  unfolding emit_node
  emits _ _ _ _ d m (sound_row row many p t shape bare) step x = emits_row sheet whole image g row many p d m t shape bare step
  emits _ _ _ _ d m (sound_literal t derefs v many p h formed) step x = emits_literal sheet whole image g t derefs v many p d m h formed step x
  emits _ _ _ _ d m (sound_operand v many p formed) step x = emits_operand sheet whole image g v many p d m formed step x
  emits _ _ _ _ d m (sound_named o many p h) step x = emits_named sheet whole image g o many p d m h step
  emits _ _ _ _ d m (sound_range t derefs lower upper dots many h count) step x = emits_range sheet whole image g t derefs lower upper dots many d m h count step
  emits _ _ _ _ d m (sound_bind t mode annotation name at many h modes notes bound few) step x = emits_bind sheet whole image g t mode annotation name at many d m h modes notes bound step x
  emits _ _ _ _ d m (sound_reference t many h count) step x = emits_reference sheet whole image g t many d m h count step
  emits _ _ _ _ d m (sound_items row many t shape subs) step x = emits_items row many d m t shape subs step x
  emits _ _ _ _ d m (sound_fields row many t shape subs) step x = emits_fields row many d m t shape subs step x
  emits _ _ _ _ d m (sound_slice t derefs before many h rest) step x = emits_slice t derefs before many d m h rest step x
  emits _ _ _ _ d m (sound_field number many count) step x = emits_field number many d m count step
