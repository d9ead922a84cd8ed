-- What the contract of the call on a text says, by its answer. Assumes nothing.
use Rattle.std.specs.Prelude.{Ok, Err}
use Prim.Native.Nat.{ℕ}
use mathlib.Core.Path.{◌≡◌, refl, sym, ap, ◌∙◌}
use mathlib.Core.List.{List}
use native.Mathlib.Omega.{arith}
use lib.ListN.{length}
use Rattle.pattern_reading.specs.Reads.{Answer, image_of, refused_with, read_pattern}
use Rattle.reading_typed.specs.Results.{PatternRead}
use Rattle.reading_typed.specs.Answers.{ReadsAs}
use Rattle.reading_call.specs.Calls.{PatternReads}
use Rattle.reading_audit.specs.Calls.{ImageStands, NothingWritten}

-- the numbers of an answer, and which it is
unfoldable count_of : PatternRead → ℕ
count_of (Ok count) = count
count_of (Err refusal) = 0

unfoldable number_of : PatternRead → ℕ
number_of (Ok count) = 0
number_of (Err refusal) = refusal.number

unfoldable place_of : PatternRead → ℕ
place_of (Ok count) = 0
place_of (Err refusal) = refusal.position

unfoldable is_refused : PatternRead → ℕ
is_refused (Ok count) = 0
is_refused (Err refusal) = 1

module _ (text sheet names : List ℕ) (expected : ℕ) (before : List ℕ) (r : PatternRead) (after : List ℕ) (called : PatternReads text sheet names expected before r after) where
  pub image_stands : (count : ℕ) → r ≡ Ok count → ImageStands text sheet names expected before count after
  unfolding count_of is_refused
  image_stands count is = by (read_pattern text sheet names expected) refl called.shows
    where
      by : (a : Answer) → read_pattern text sheet names expected ≡ a → ReadsAs a before r after → ImageStands text sheet names expected before count after
      by (image_of bytes) e reads = record { bytes = bytes; read = e; long = sym (ap count_of is) ∙ ap count_of reads.0; written = reads.2 }
      by (refused_with number at) e reads = absurd (let s = sym (ap is_refused is) ∙ ap is_refused reads.0 in omega (arith, s))

  pub nothing_written : (number at : ℕ) → r ≡ Err (record { number = number; position = at }) → NothingWritten text sheet names expected before number at after
  unfolding number_of place_of is_refused
  nothing_written number at is = by (read_pattern text sheet names expected) refl called.shows
    where
      by : (a : Answer) → read_pattern text sheet names expected ≡ a → ReadsAs a before r after → NothingWritten text sheet names expected before number at after
      by (image_of bytes) e reads = absurd (let s = sym (ap is_refused is) ∙ ap is_refused reads.0 in omega (arith, s))
      by (refused_with n place) e reads =
          let same : n ≡ number = sym (ap number_of reads.0) ∙ ap number_of is in
          let there : place ≡ at = sym (ap place_of reads.0) ∙ ap place_of is in
          record { told = e ∙ rw same (rw there refl); kept = reads.1 }
