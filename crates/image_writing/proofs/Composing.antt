-- The image's tables, written one behind the other: how long each is, and what was written. Assumes nothing.
use Prim.Native.Nat.{ℕ, ◌+◌, ◌*◌}
use mathlib.Core.Path.{◌≡◌}
use mathlib.Core.List.{List, ◌++◌}
use native.Mathlib.Omega.{arith}
use lib.ListN.{length, take, drop, length-append}
use Rattle.image.specs.declared.Tables.{Tables}
use Rattle.image.specs.Tables.{Whole}
use Rattle.row_tables.specs.Rows.{stored}
use Rattle.pattern_images.specs.Imaging.{table_of}
use Rattle.draft_tables.specs.declared.DraftCounts.{DraftCounts}
use Rattle.image_pieces.specs.Pieces.{part_bytes}
use Rattle.image_pieces.proofs.Storing.{length_chosen}
use Rattle.image_pieces.proofs.Joining.{length_part, three, four}
use Rattle.image_head.specs.Heads.{WithinLimits}
use Rattle.image_writing.specs.Writing.{upper_tables, upper_end, lower_tables, image_end}

module _ (sheet : List ℕ) (tables : Tables) (draft : List ℕ) (c : DraftCounts) (whole : Whole sheet tables) (within : WithinLimits tables c) (size : length draft ≡ 40704) where
  types_long : length (part_bytes sheet tables.types.at (10 * tables.types.count) draft 0 (5 * c.types)) ≡ 10 * (tables.types.count + c.types)
  types_long =
      let w = whole in
      let b = within in
      omega (arith, length_part sheet tables.types.at (10 * tables.types.count) draft 0 (5 * c.types) (omega arith) (omega arith))

  variants_long : length (table_of sheet tables.variants.at (6 * tables.variants.count)) ≡ 6 * tables.variants.count
  variants_long =
      let w = whole in
      length_chosen sheet tables.variants.at (6 * tables.variants.count) (omega arith)

  patterns_long : length (part_bytes sheet tables.patterns.at (14 * tables.patterns.count) draft 1280 (7 * c.patterns)) ≡ 14 * (tables.patterns.count + c.patterns)
  patterns_long =
      let w = whole in
      let b = within in
      omega (arith, length_part sheet tables.patterns.at (14 * tables.patterns.count) draft 1280 (7 * c.patterns) (omega arith) (omega arith))

  bindings_long : length (part_bytes sheet tables.bindings.at (4 * tables.bindings.count) draft 4864 (2 * c.bindings)) ≡ 4 * (tables.bindings.count + c.bindings)
  bindings_long =
      let w = whole in
      let b = within in
      omega (arith, length_part sheet tables.bindings.at (4 * tables.bindings.count) draft 4864 (2 * c.bindings) (omega arith) (omega arith))

  list_long : length (part_bytes sheet tables.list.at (2 * tables.list.count) draft 5888 c.words) ≡ 2 * (tables.list.count + c.words)
  list_long =
      let w = whole in
      let b = within in
      omega (arith, length_part sheet tables.list.at (2 * tables.list.count) draft 5888 c.words (omega arith) (omega arith))

  data_long : length (table_of sheet tables.bytes.at tables.bytes.count) ≡ tables.bytes.count
  data_long =
      let w = whole in
      length_chosen sheet tables.bytes.at tables.bytes.count (omega arith)

  added_data_long : length (take c.bytes (drop 7936 draft)) ≡ c.bytes
  added_data_long =
      let b = within in
      length_chosen draft 7936 c.bytes (omega arith)

  -- `write_upper`
  pub upper_written : (t : List ℕ) (p q : ℕ) (t₁ t₂ t₃ : List ℕ) → length t ≡ 34321 →
      p ≡ 17 + 10 * tables.types.count + 2 * (5 * c.types) → q ≡ p + 6 * tables.variants.count →
      t₁ ≡ stored t 17 (part_bytes sheet tables.types.at (10 * tables.types.count) draft 0 (5 * c.types)) →
      t₂ ≡ stored t₁ p (table_of sheet tables.variants.at (6 * tables.variants.count)) →
      t₃ ≡ stored t₂ q (part_bytes sheet tables.patterns.at (14 * tables.patterns.count) draft 1280 (7 * c.patterns)) →
      t₃ ≡ stored t 17 (upper_tables sheet tables draft c)
  unfolding upper_tables
  upper_written t p q t₁ t₂ t₃ long ep eq e₁ e₂ e₃ =
      let b = within in
      three t 17
      (part_bytes sheet tables.types.at (10 * tables.types.count) draft 0 (5 * c.types))
      (table_of sheet tables.variants.at (6 * tables.variants.count))
      (part_bytes sheet tables.patterns.at (14 * tables.patterns.count) draft 1280 (7 * c.patterns))
      p q t₁ t₂ t₃ e₁ e₂ e₃
      (omega (arith, types_long))
      (omega (arith, variants_long))
      (omega (arith, types_long, variants_long, patterns_long))

  -- `write_lower`
  pub lower_written : (t : List ℕ) (at p q r : ℕ) (t₁ t₂ t₃ t₄ : List ℕ) → length t ≡ 34321 → at ≡ upper_end tables c →
      p ≡ at + 4 * tables.bindings.count + 2 * (2 * c.bindings) → q ≡ p + 2 * tables.list.count + 2 * c.words → r ≡ q + tables.bytes.count →
      t₁ ≡ stored t at (part_bytes sheet tables.bindings.at (4 * tables.bindings.count) draft 4864 (2 * c.bindings)) →
      t₂ ≡ stored t₁ p (part_bytes sheet tables.list.at (2 * tables.list.count) draft 5888 c.words) →
      t₃ ≡ stored t₂ q (table_of sheet tables.bytes.at tables.bytes.count) →
      t₄ ≡ stored t₃ r (take c.bytes (drop 7936 draft)) →
      t₄ ≡ stored t at (lower_tables sheet tables draft c)
  unfolding lower_tables
  lower_written t at p q r t₁ t₂ t₃ t₄ long e ep eq er e₁ e₂ e₃ e₄ =
      let b = within in
      four t at
      (part_bytes sheet tables.bindings.at (4 * tables.bindings.count) draft 4864 (2 * c.bindings))
      (part_bytes sheet tables.list.at (2 * tables.list.count) draft 5888 c.words)
      (table_of sheet tables.bytes.at tables.bytes.count)
      (take c.bytes (drop 7936 draft))
      p q r t₁ t₂ t₃ t₄ e₁ e₂ e₃ e₄
      (omega (arith, bindings_long))
      (omega (arith, list_long))
      (omega (arith, data_long))
      (omega (arith, bindings_long, list_long, data_long, added_data_long))

  pub length_upper : 17 + length (upper_tables sheet tables draft c) ≡ upper_end tables c
  unfolding upper_tables
  length_upper =
      let x = part_bytes sheet tables.types.at (10 * tables.types.count) draft 0 (5 * c.types) in
      let y = table_of sheet tables.variants.at (6 * tables.variants.count) in
      let z = part_bytes sheet tables.patterns.at (14 * tables.patterns.count) draft 1280 (7 * c.patterns) in
      omega (arith, length-append x (y ++ z), length-append y z, types_long, variants_long, patterns_long)

  pub length_lower : upper_end tables c + length (lower_tables sheet tables draft c) ≡ image_end tables c
  unfolding lower_tables
  length_lower =
      let x = part_bytes sheet tables.bindings.at (4 * tables.bindings.count) draft 4864 (2 * c.bindings) in
      let y = part_bytes sheet tables.list.at (2 * tables.list.count) draft 5888 c.words in
      let z = table_of sheet tables.bytes.at tables.bytes.count in
      let v = take c.bytes (drop 7936 draft) in
      omega (arith, length-append x (y ++ (z ++ v)), length-append y (z ++ v), length-append z v, bindings_long, list_long, data_long, added_data_long)
