-- How many words of the list, from each of its places on, name types: kept for all places at once, so that no range is walked twice.
-- Assumes nothing: these are definitions.
use Rattle.std.specs.Prelude.{ℕ, zero, suc, ◌+◌, ◌-◌, ◌≤◌, ◌≡◌, cond, List, length, get_or}
use Rattle.image.specs.Tables.{list_count}
use Rattle.image.specs.Rows.{list_at}
use Rattle.image.specs.Rules.{names_type}

-- of the n words from k on, how many name types before one does not
unfoldable pub run : List ℕ → ℕ → ℕ → ℕ
run image k zero = 0
run image k (suc n) = cond (names_type image (list_at image k)) (suc (run image (k + 1) n)) 0

-- the table of the runs, one for each place of the list and one for its end
pub record Runs (image runs : List ℕ) : Type 0 where
  pub size : length runs ≡ 2049
  pub list : list_count image ≤ 2048
  pub each : (k : ℕ) → k ≤ list_count image → get_or runs k 0 ≡ run image k (list_count image - k)
