-- What is found in records that are filled from the table of blocks is what the table has. Assumes nothing.
use Rattle.std.specs.Prelude.{Some, None}
use Prim.Native.Nat.{ℕ, ◌≤◌, ◌<◌}
use mathlib.Core.Path.{◌≡◌, ap, ◌∙◌}
use mathlib.Core.Bool.{Bool, true, cond, ◌&&◌}
use mathlib.Core.List.{List, map}
use native.Mathlib.Omega.{arith}
use borrow.Author.Tests.{eq-eqb, le-leb, lt-ltb}
use lib.Dec.{eqb, leb}
use lib.ListN.{length, get_or, take}
use Rattle.image.proofs.Bools.{and_true}
use Rattle.row_tables.specs.Rows.{row_at}
use Rattle.mir.specs.Blocks.{block_words, block_width}
use Rattle.views.specs.Views.{terminator_of}
use Rattle.block_records.specs.declared.Block.{Block}
use Rattle.block_records.specs.Records.{blank, terminator_in, terminators_of}
use Rattle.block_record_tables.specs.Looks.{look_at}
use Rattle.block_record_filling.specs.Fillings.{filled, fits, filled_where}
use Rattle.block_records.proofs.Reading.{row_back}
use Rattle.block_record_filling.proofs.Filling.{same_length, filled_at, filled_shown, Says}

-- the test holds
pub fits_true : (words count room : ℕ) → words ≡ block_words → count ≤ 512 → count ≤ room → fits words count room ≡ true
unfolding fits
fits_true words count room e h k =
    and_true (eqb words block_words && leb count 512) (leb count room) (and_true (eqb words block_words) (leb count 512) (eq-eqb words block_words e) (le-leb count 512 h)) (le-leb count room k)

-- the record i of those that are filled
pub filled_look : (rs : List Block) (t : List ℕ) (count i : ℕ) → count ≤ length rs → i < count → look_at (filled rs t count) i ≡ Some (terminator_of (row_at block_width t i))
unfolding look_at
filled_look rs t count i h k =
    ap (λ (z : Bool). cond z (Some (terminator_in (get_or (filled rs t count) i blank))) None) (lt-ltb i (length (filled rs t count)) (omega (arith, same_length rs t count)))
    ∙ ap (λ (r : Block). Some (terminator_in r)) (filled_at rs t count i k h)
    ∙ ap Some (row_back t i)

-- 512 records that `blocks_as_records` was asked to fill are the table's blocks
pub through : (rs : List Block) (t : List ℕ) (count : ℕ) (r : Bool) (zs : List Block) → length rs ≡ 512 → (length t ≡ block_words) × (count ≤ 512) → Says r rs t count zs → (length zs ≡ 512) × (map terminator_in (take count zs) ≡ terminators_of t count)
unfolding filled_where
through rs t count r zs long asked says =
    let room : count ≤ length rs = omega (arith, long, asked.1) in
    let yes : r ≡ true = says.0 ∙ fits_true (length t) count (length rs) asked.0 asked.1 room in
    let is : zs ≡ filled rs t count = says.1 ∙ ap (λ (z : Bool). cond z (filled rs t count) rs) yes in
    (ap length is ∙ same_length rs t count ∙ long, ap (λ (l : List Block). map terminator_in (take count l)) is ∙ filled_shown rs t count room)
