-- The image of a sheet and a draft is the head, the upper tables and the lower ones, and it is written when they are. Assumes nothing.
use Prim.Native.Nat.{ℕ, ◌+◌, ◌*◌, ◌-◌, ◌≤◌}
use mathlib.Core.Path.{◌≡◌, refl, sym, ap, ◌∙◌}
use mathlib.Core.List.{List, [], ◌∷◌, ◌++◌, append_assoc}
use native.Mathlib.Omega.{arith}
use lib.ListN.{length, take, drop, length-append, length-drop, length-map}
use Rattle.image.specs.declared.Tables.{Tables}
use Rattle.image.specs.Tables.{Whole}
use Rattle.row_tables.specs.Rows.{rows_of, stored}
use Rattle.row_tables.proofs.Tables.{length_rows}
use Rattle.pattern_images.specs.Drafts.{Draft}
use Rattle.pattern_images.specs.Imaging.{word_bytes, words_bytes, long_bytes, type_bytes, pattern_bytes, binding_bytes, tables_with, behind_length, image_with}
use Rattle.draft_tables.specs.declared.DraftCounts.{DraftCounts}
use Rattle.draft_tables.specs.Layout.{type_of_words, pattern_of_words, binding_of_words, draft_in}
use Rattle.draft_tables.specs.Room.{DraftRoom}
use Rattle.image_pieces.specs.Pieces.{part_bytes}
use Rattle.image_pieces.proofs.Storing.{stored_before, length_chosen}
use Rattle.image_pieces.proofs.Joining.{then}
use Rattle.image_head.specs.Heads.{WithinLimits, head_bytes}
use Rattle.image_writing.specs.Writing.{upper_tables, upper_end, lower_tables, image_end}
use Rattle.image_writing.proofs.Composing.{length_upper, length_lower}
use Rattle.image_writing.proofs.RowBytes.{types_bytes, patterns_bytes, bindings_bytes}

-- eleven pieces, in groups and in a row
regrouped : (x₁ x₂ x₃ x₄ x₅ y₁ y₂ y₃ y₄ y₅ y₆ : List ℕ) →
    ((x₁ ++ x₂) ++ (x₃ ++ (x₄ ++ x₅))) ++ ((y₁ ++ y₂) ++ ((y₃ ++ y₄) ++ (y₅ ++ y₆))) ≡ x₁ ++ (x₂ ++ (x₃ ++ (x₄ ++ (x₅ ++ (y₁ ++ (y₂ ++ (y₃ ++ (y₄ ++ (y₅ ++ y₆)))))))))
regrouped x₁ x₂ x₃ x₄ x₅ y₁ y₂ y₃ y₄ y₅ y₆ = simp append_assoc

module _ (sheet : List ℕ) (tables : Tables) (draft : List ℕ) (c : DraftCounts) (whole : Whole sheet tables) (within : WithinLimits tables c) (size : length draft ≡ 40704) (names : List ℕ) where
  abbrev added : Draft
  added = draft_in names draft c

  types_added : words_bytes (take (5 * c.types) (drop 0 draft)) ≡ type_bytes added.types
  unfolding draft_in
  types_added = let b = within in sym (types_bytes (drop 0 draft) c.types (omega (arith, length-drop 0 draft)))

  patterns_added : words_bytes (take (7 * c.patterns) (drop 1280 draft)) ≡ pattern_bytes added.patterns
  unfolding draft_in
  patterns_added = let b = within in sym (patterns_bytes (drop 1280 draft) c.patterns (omega (arith, length-drop 1280 draft)))

  bindings_added : words_bytes (take (2 * c.bindings) (drop 4864 draft)) ≡ binding_bytes added.bindings
  unfolding draft_in
  bindings_added = let b = within in sym (bindings_bytes (drop 4864 draft) c.bindings (omega (arith, length-drop 4864 draft)))

  tables_are : upper_tables sheet tables draft c ++ lower_tables sheet tables draft c ≡ tables_with sheet added
  unfolding upper_tables lower_tables part_bytes tables_with draft_in
  tables_are =
      regrouped
      (take (10 * tables.types.count) (drop tables.types.at sheet))
      (words_bytes (take (5 * c.types) (drop 0 draft)))
      (take (6 * tables.variants.count) (drop tables.variants.at sheet))
      (take (14 * tables.patterns.count) (drop tables.patterns.at sheet))
      (words_bytes (take (7 * c.patterns) (drop 1280 draft)))
      (take (4 * tables.bindings.count) (drop tables.bindings.at sheet))
      (words_bytes (take (2 * c.bindings) (drop 4864 draft)))
      (take (2 * tables.list.count) (drop tables.list.at sheet))
      (words_bytes (take c.words (drop 5888 draft)))
      (take tables.bytes.count (drop tables.bytes.at sheet))
      (take c.bytes (drop 7936 draft))
      ∙ (λ i.
      take (10 * whole.type_count_lem i) (drop (whole.types i) sheet)
      ++ (types_added i
      ++ (take (6 * whole.variant_count_lem i) (drop (whole.variants i) sheet)
      ++ (take (14 * whole.pattern_count_lem i) (drop (whole.patterns i) sheet)
      ++ (patterns_added i
      ++ (take (4 * whole.binding_count_lem i) (drop (whole.bindings i) sheet)
      ++ (bindings_added i
      ++ (take (2 * whole.list_count_lem i) (drop (whole.list i) sheet)
      ++ (words_bytes (take c.words (drop 5888 draft))
      ++ (take (whole.data_count_lem i) (drop (whole.bytes i) sheet) ++ take c.bytes (drop 7936 draft)))))))))))

  -- how many the draft adds
  types_many : c.types ≡ length added.types
  unfolding draft_in
  types_many = sym (length-map (rows_of 5 (drop 0 draft) c.types) type_of_words ∙ length_rows 5 (drop 0 draft) c.types)

  patterns_many : c.patterns ≡ length added.patterns
  unfolding draft_in
  patterns_many = sym (length-map (rows_of 7 (drop 1280 draft) c.patterns) pattern_of_words ∙ length_rows 7 (drop 1280 draft) c.patterns)

  bindings_many : c.bindings ≡ length added.bindings
  unfolding draft_in
  bindings_many = sym (length-map (rows_of 2 (drop 4864 draft) c.bindings) binding_of_words ∙ length_rows 2 (drop 4864 draft) c.bindings)

  words_many : c.words ≡ length added.words
  unfolding draft_in
  words_many = let b = within in sym (length_chosen draft 5888 c.words (omega arith))

  bytes_many : c.bytes ≡ length added.bytes
  unfolding draft_in
  bytes_many = let b = within in sym (length_chosen draft 7936 c.bytes (omega arith))

  behind_long : length (behind_length sheet added) ≡ length (tables_with sheet added) + 13
  unfolding behind_length words_bytes word_bytes
  behind_long = omega arith

  follows : image_end tables c - 4 ≡ length (behind_length sheet added)
  follows =
      let upper = upper_tables sheet tables draft c in
      let lower = lower_tables sheet tables draft c in
      omega (arith, behind_long, ap length tables_are, length-append upper lower, length_upper sheet tables draft c whole within size, length_lower sheet tables draft c whole within size)

  image_is : head_bytes (image_end tables c - 4) tables c ++ (upper_tables sheet tables draft c ++ lower_tables sheet tables draft c) ≡ image_with sheet added
  unfolding head_bytes long_bytes words_bytes word_bytes image_with behind_length
  image_is =
      λ i. long_bytes (follows i)
      ++ (1
      ∷ (words_bytes
      ((whole.type_count_lem i + types_many i)
      ∷ whole.variant_count_lem i
      ∷ (whole.pattern_count_lem i + patterns_many i)
      ∷ (whole.binding_count_lem i + bindings_many i)
      ∷ (whole.list_count_lem i + words_many i)
      ∷ (whole.data_count_lem i + bytes_many i)
      ∷ [])
      ++ tables_are i))

  pub length_image : image_end tables c ≡ length (image_with sheet added)
  unfolding image_with long_bytes word_bytes
  length_image =
      let e : length (image_with sheet added) ≡ length (behind_length sheet added) + 4 = omega arith in
      omega (arith, follows)

  length_head : (follow : ℕ) → length (head_bytes follow tables c) ≡ 17
  unfolding head_bytes long_bytes words_bytes word_bytes
  length_head follow = refl

  -- `write_image`
  pub image_written : (t : List ℕ) (middle end : ℕ) (t₁ t₂ t₃ : List ℕ) → length t ≡ 34321 → middle ≡ upper_end tables c → end ≡ image_end tables c →
      t₁ ≡ stored t 17 (upper_tables sheet tables draft c) → t₂ ≡ stored t₁ middle (lower_tables sheet tables draft c) → t₃ ≡ stored t₂ 0 (head_bytes (end - 4) tables c) →
      (end ≡ length (image_with sheet added)) × (t₃ ≡ stored t 0 (image_with sheet added))
  image_written t middle end t₁ t₂ t₃ long em ee e₁ e₂ e₃ =
      let upper = upper_tables sheet tables draft c in
      let lower = lower_tables sheet tables draft c in
      let head = head_bytes (image_end tables c - 4) tables c in
      let b = within in
      let lu = length_upper sheet tables draft c whole within size in
      let ll = length_lower sheet tables draft c whole within size in
      let lh = length_head (image_end tables c - 4) in
      let both = then t 17 upper lower middle t₁ t₂ e₁ e₂ (omega arith) (omega arith) in (
        ee ∙ length_image,
        e₃ ∙ ap (λ (n : ℕ). stored t₂ 0 (head_bytes (n - 4) tables c)) ee
            ∙ ap (λ (l : List ℕ). stored l 0 head) both
            ∙ stored_before t 0 head (upper ++ lower) 17 (omega arith) (omega (arith, length-append upper lower))
            ∙ ap (stored t 0) image_is,
      )

-- counts with room beside those of a sheet that keeps its own limits are within the image's
pub limits_of_room : (tables : Tables) (c : DraftCounts) → DraftRoom tables c → tables.variants.count ≤ 512 → WithinLimits tables c
limits_of_room tables c room variants =
    record { types = room.types; variants = variants; patterns = room.patterns; bindings = room.bindings; words = room.words; bytes = room.bytes }
