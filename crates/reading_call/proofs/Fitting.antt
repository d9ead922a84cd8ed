-- An image that was read is within its room, which is as long as it was. Assumes nothing.
use Rattle.std.specs.Prelude.{Ok, Err}
use Prim.Native.Nat.{ℕ, ◌≤◌}
use mathlib.Core.Path.{◌≡◌, sym, ap, ◌∙◌}
use mathlib.Core.List.{List}
use native.Mathlib.Omega.{arith}
use lib.ListN.{length}
use Rattle.row_tables.specs.Rows.{stored}
use Rattle.row_tables.proofs.Tables.{length_stored}
use Rattle.pattern_reading.specs.Reads.{Answer, image_of, refused_with, read_pattern}
use Rattle.reading_typed.specs.Results.{PatternRead}
use Rattle.reading_typed.specs.Answers.{ReadsAs}
use Rattle.reading_call.specs.Calls.{PatternReads}

-- how many bytes an answer has, and whether it has any
unfoldable bytes_read : PatternRead → ℕ
bytes_read (Ok count) = count
bytes_read (Err refusal) = 0

unfoldable is_image : PatternRead → ℕ
is_image (Ok count) = 1
is_image (Err refusal) = 0

module _ {text sheet names : List ℕ} {expected : ℕ} {before : List ℕ} {r : PatternRead} {after : List ℕ} (P : PatternReads text sheet names expected before r after) where
  pub image_fits : {count : ℕ} → r ≡ Ok count → count ≤ 34321
  unfolding bytes_read is_image
  image_fits {count} is = by (read_pattern text sheet names expected) P.shows
    where
      by : (a : Answer) → ReadsAs a before r after → count ≤ 34321
      by (image_of bytes) reads = let s = sym (ap bytes_read is) ∙ ap bytes_read reads.0 in omega (arith, s, reads.1)
      by (refused_with number at) reads = absurd (let s = sym (ap is_image is) ∙ ap is_image reads.0 in omega (arith, s))

  pub room_kept : length before ≡ 34321 → length after ≡ 34321
  room_kept long = by (read_pattern text sheet names expected) P.shows
    where
      by : (a : Answer) → ReadsAs a before r after → length after ≡ 34321
      by (image_of bytes) reads = ap length reads.2 ∙ (length_stored before 0 bytes (omega (arith, long, reads.1)) ∙ long)
      by (refused_with number at) reads = ap length reads.1 ∙ long
