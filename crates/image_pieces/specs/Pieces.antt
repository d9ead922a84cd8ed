-- A piece of an image: bytes of a sheet, and words of a draft behind them. Assumes nothing: these are definitions.
use Rattle.std.specs.Prelude.{ℕ, List, ◌++◌, take, drop}
use Rattle.pattern_images.specs.Imaging.{words_bytes, table_of}

-- so many bytes of a sheet, and behind them so many words of a draft
unfoldable pub part_bytes : List ℕ → ℕ → ℕ → List ℕ → ℕ → ℕ → List ℕ
part_bytes sheet from many draft first words = table_of sheet from many ++ words_bytes (take words (drop first draft))
