-- The image's first 17 bytes, and the limits within which its counts are. Assumes nothing: these are definitions.
use Rattle.std.specs.Prelude.{ℕ, ◌+◌, ◌≤◌, List, [], ◌∷◌, ◌++◌}
use Rattle.image.specs.declared.Tables.{Tables}
use Rattle.pattern_images.specs.Imaging.{words_bytes, long_bytes}
use Rattle.draft_tables.specs.declared.DraftCounts.{DraftCounts}

-- the counts of the sheet and of the draft, together, are within the image's limits
pub record WithinLimits (tables : Tables) (c : DraftCounts) : Type 0 where
  pub types : tables.types.count + c.types ≤ 256
  pub variants : tables.variants.count ≤ 512
  pub patterns : tables.patterns.count + c.patterns ≤ 512
  pub bindings : tables.bindings.count + c.bindings ≤ 256
  pub words : tables.list.count + c.words ≤ 2048
  pub bytes : tables.bytes.count + c.bytes ≤ 16384

-- how many bytes follow, the version, the six counts
unfoldable pub head_bytes : ℕ → Tables → DraftCounts → List ℕ
head_bytes follow tables c =
    long_bytes follow
    ++ (1
    ∷ words_bytes
    ((tables.types.count + c.types)
    ∷ tables.variants.count
    ∷ (tables.patterns.count + c.patterns)
    ∷ (tables.bindings.count + c.bindings)
    ∷ (tables.list.count + c.words)
    ∷ (tables.bytes.count + c.bytes)
    ∷ []))
