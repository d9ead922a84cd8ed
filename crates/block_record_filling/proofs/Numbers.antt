-- Document 01's numbers of what is answered: number 2 exactly where there is no such record, and where a table does not fit. Assumes nothing.
use Rattle.std.specs.Prelude.{Some, None}
use Prim.Native.Nat.{ℕ, ◌≤◌, ◌<◌}
use mathlib.Core.Path.{◌≡◌, refl, sym, ap, ◌∙◌}
use mathlib.Core.Bool.{Bool, true, false, cond}
use mathlib.Core.Option.{none, some}
use mathlib.Core.List.{List}
use borrow.Author.Tests.{lt-ltb, le-ltb}
use lib.Dec.{ltb}
use lib.ListN.{length, get_or}
use Rattle.refusals.specs.Refusals.{names_nothing}
use Rattle.mir.specs.Blocks.{block_words}
use Rattle.block_records.specs.declared.Block.{Block}
use Rattle.block_records.specs.Records.{blank, terminator_in}
use Rattle.block_record_tables.specs.Looks.{look_at, look_refusal, fill_refusal}
use Rattle.block_record_filling.specs.Fillings.{fits}
use Rattle.block_record_filling.proofs.Filling.{fits_told}
use Rattle.block_record_filling.proofs.Through.{fits_true}

module _ (rs : List Block) (b : ℕ) where
  -- a look has the number that a store has
  pub look_number : look_refusal (look_at rs b) ≡ fill_refusal (ltb b (length rs))
  unfolding look_at look_refusal fill_refusal
  look_number = by_test (ltb b (length rs))
    where
      by_test : (z : Bool) → look_refusal (cond z (Some (terminator_in (get_or rs b blank))) None) ≡ fill_refusal z
      by_test true = refl
      by_test false = refl

  -- it has none where there is such a record
  pub look_found : b < length rs → look_refusal (look_at rs b) ≡ none
  unfolding fill_refusal
  look_found h = look_number ∙ ap fill_refusal (lt-ltb b (length rs) h)

  -- and it has number 2 where there is none
  pub look_missing : length rs ≤ b → look_refusal (look_at rs b) ≡ some names_nothing
  unfolding fill_refusal
  look_missing h = look_number ∙ ap fill_refusal (le-ltb b (length rs) h)

module _ (words count room : ℕ) where
  -- a table that fits has no number
  pub fill_fits : (words ≡ block_words) × (count ≤ 512) × (count ≤ room) → fill_refusal (fits words count room) ≡ none
  unfolding fill_refusal
  fill_fits h = ap fill_refusal (fits_true words count room h.0 h.1 h.2)

  -- and one that does not fit has number 2
  pub fill_refused : ((words ≡ block_words) × (count ≤ 512) × (count ≤ room) → ⊥) → fill_refusal (fits words count room) ≡ some names_nothing
  unfolding fill_refusal
  fill_refused n = by_test (fits words count room) refl
    where
      by_test : (z : Bool) → fits words count room ≡ z → fill_refusal z ≡ some names_nothing
      by_test true e = absurd (n (fits_told words count room true tt (sym e)))
      by_test false e = refl
