-- The auditor's page on patterns as text, request S-14: each theorem is a sentence of the request, proved by one citation. The first speak of the definition
-- `read_pattern`, the last of the call `read_pattern`, by its contract. Assumes nothing.
use Rattle.std.specs.Prelude.{Ok, Err}
use Prim.Native.Nat.{ℕ, ◌<◌}
use mathlib.Core.Path.{◌≡◌}
use mathlib.Core.Bool.{true}
use mathlib.Core.Logic.{◌⊎◌}
use mathlib.Core.List.{List}
use lib.ListN.{length}
use Rattle.image.specs.Valid.{valid}
use Rattle.pattern_grammar.specs.Machine.{failed}
use Rattle.pattern_grammar.specs.Parsed.{lexemes, parsed}
use Rattle.pattern_grammar.proofs.Verdicts.{Refused}
use Rattle.pattern_reading.specs.Reads.{image_of, refused_with, read_pattern}
use Rattle.image_growth.specs.Growing.{IsBytes}
use Rattle.reading_typed.specs.Results.{PatternRead}
use Rattle.reading_call.specs.Calls.{PatternReads}
use Rattle.reading_audit.specs.Texts.{IsRead, FirstPlace}
use Rattle.reading_audit.specs.Calls.{ImageStands, NothingWritten}
use Rattle.reading_audit.proofs.Told as told
use Rattle.reading_audit.proofs.Called.{image_stands, nothing_written}

-- A text, a sheet, a name table and an expected type.
module _ (text sheet names : List ℕ) (expected : ℕ) where
  -- "Every text not refused has one tree, and the image made is that tree's"
  pub a_text_that_is_not_refused_has_one_tree_and_its_image : (bytes : List ℕ) → read_pattern text sheet names expected ≡ image_of bytes → IsRead text sheet names expected bytes
  a_text_that_is_not_refused_has_one_tree_and_its_image = told.read_one text sheet names expected

  -- "and accepted": of a sheet of bytes, it is a string of bytes that keeps every rule of an image
  pub the_image_made_is_accepted : (bytes : List ℕ) → IsBytes sheet → read_pattern text sheet names expected ≡ image_of bytes → (valid bytes ≡ true) × IsBytes bytes
  the_image_made_is_accepted = told.read_valid text sheet names expected

  -- "19, text outside the grammar .., with the byte position of the first token or end that fails": a text over 16,384 bytes at 16,384, any other at the first token with which
  -- no admitted text begins, or where what that token shows to be wrong stands (`Cause`)
  pub a_refusal_by_19_is_at_the_first_token_with_which_no_pattern_begins :
      (at : ℕ) → read_pattern text sheet names expected ≡ refused_with 19 at → ((16384 < length text) × (at ≡ 16384)) ⊎ Refused text (lexemes text) at
  a_refusal_by_19_is_at_the_first_token_with_which_no_pattern_begins = told.refused_19 text sheet names expected

  -- "19 is tried first": by the text alone, whatever the sheet, the names and the type are
  pub a_text_without_a_tree_is_refused_by_19 : (at : ℕ) → parsed text ≡ failed at → read_pattern text sheet names expected ≡ refused_with 19 at
  a_text_without_a_tree_is_refused_by_19 = told.no_tree_19 text sheet names expected

  -- "20, the first path or record field .., variant or constant .., or subpattern .., with its position"
  pub a_refusal_by_20_is_at_the_first_place_that_is_refused : (at : ℕ) → read_pattern text sheet names expected ≡ refused_with 20 at → FirstPlace text sheet names expected at
  a_refusal_by_20_is_at_the_first_place_that_is_refused = told.refused_20 text sheet names expected

-- A call on them: the image's bytes before it, its answer, and the bytes behind it.
module _ (text sheet names : List ℕ) (expected : ℕ) (before : List ℕ) (answer : PatternRead) (after : List ℕ) (called : PatternReads text sheet names expected before answer after) where
  -- an answer with an image's length: the image that the definition reads stands there
  pub the_image_read_is_written : (count : ℕ) → answer ≡ Ok count → ImageStands text sheet names expected before count after
  the_image_read_is_written = image_stands text sheet names expected before answer after called

  -- "Refused, writing nothing"
  pub what_is_refused_writes_nothing : (number at : ℕ) → answer ≡ Err (record { number = number; position = at }) → NothingWritten text sheet names expected before number at after
  what_is_refused_writes_nothing = nothing_written text sheet names expected before answer after called
