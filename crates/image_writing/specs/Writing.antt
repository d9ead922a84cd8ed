-- The image of a sheet and a draft by the sheet's tables and the draft's words, piece by piece, and that it was written. Assumes nothing: these are
-- definitions.
use Rattle.std.specs.Prelude.{ℕ, ◌+◌, ◌*◌, ◌≡◌, List, ◌++◌, length, take, drop}
use Rattle.image.specs.declared.Tables.{Tables}
use Rattle.row_tables.specs.Rows.{stored}
use Rattle.pattern_images.specs.Imaging.{table_of, image_with}
use Rattle.draft_tables.specs.declared.DraftCounts.{DraftCounts}
use Rattle.draft_tables.specs.Layout.{draft_in}
use Rattle.image_pieces.specs.Pieces.{part_bytes}

-- types, variants and patterns
unfoldable pub upper_tables : List ℕ → Tables → List ℕ → DraftCounts → List ℕ
upper_tables sheet tables draft c =
    part_bytes sheet tables.types.at (10 * tables.types.count) draft 0 (5 * c.types)
    ++ (table_of sheet tables.variants.at (6 * tables.variants.count)
    ++ part_bytes sheet tables.patterns.at (14 * tables.patterns.count) draft 1280 (7 * c.patterns))

-- where they end
abbrev pub upper_end : Tables → DraftCounts → ℕ
upper_end tables c = 17 + 10 * (tables.types.count + c.types) + 6 * tables.variants.count + 14 * (tables.patterns.count + c.patterns)

-- bindings, the list and the data
unfoldable pub lower_tables : List ℕ → Tables → List ℕ → DraftCounts → List ℕ
lower_tables sheet tables draft c =
    part_bytes sheet tables.bindings.at (4 * tables.bindings.count) draft 4864 (2 * c.bindings)
    ++ (part_bytes sheet tables.list.at (2 * tables.list.count) draft 5888 c.words
    ++ (table_of sheet tables.bytes.at tables.bytes.count ++ take c.bytes (drop 7936 draft)))

-- where they end, and with them the image
abbrev pub image_end : Tables → DraftCounts → ℕ
image_end tables c =
    upper_end tables c + 4 * (tables.bindings.count + c.bindings) + 2 * (tables.list.count + c.words) + (tables.bytes.count + c.bytes)

-- the image was written from byte 0 on, and this is its length, whatever the names are
abbrev pub ImageWritten : List ℕ → List ℕ → DraftCounts → List ℕ → ℕ → List ℕ → Type 0
ImageWritten sheet draft c before r after =
    (names : List ℕ) → (r ≡ length (image_with sheet (draft_in names draft c))) × (after ≡ stored before 0 (image_with sheet (draft_in names draft c)))
