-- The test of a block, by its terminator's kind. Assumes nothing.
use Prim.Native.Nat.{ℕ, ◌*◌}
use mathlib.Core.Path.{◌≡◌, ap, ◌∙◌}
use mathlib.Core.Bool.{Bool, true, false, ◌&&◌}
use mathlib.Core.List.{List, [], ◌∷◌}
use lib.ListN.{get_or}
use Rattle.mir.specs.declared.Counts.{Counts}
use Rattle.image.proofs.Defaults.{NoneOf, default}
use Rattle.mir.specs.Blocks.{block_width}
use Rattle.body_row_rules.specs.Bodies.{word_of, is_block, is_local, block_holds}
use Rattle.body_row_rules.proofs.RowWords.{first_word}

module _ (table : List ℕ) (c : Counts) (i : ℕ) where
  -- what each kind asks
  abbrev asked : List Bool
  asked =
      true
      ∷ is_block c (word_of block_width table i 2)
      ∷ (is_local c (word_of block_width table i 1) && is_block c (word_of block_width table i 2) && is_block c (word_of block_width table i 3))
      ∷ true
      ∷ (is_local c (word_of block_width table i 1) && is_block c (word_of block_width table i 2))
      ∷ []

  -- a terminator of the kind k asks what stands at k
  pub of_kind_lem : (k : ℕ) → get_or table (block_width * i) 0 ≡ k → block_holds table c i ≡ get_or asked k false
  unfolding block_holds
  of_kind_lem k e = ap (λ n. get_or asked n false) (first_word 12 table i ∙ e)

  -- one of no kind is refused
  pub of_no_kind : NoneOf (get_or table (block_width * i) 0) 0 5 → block_holds table c i ≡ false
  unfolding block_holds
  of_no_kind w = ap (λ n. get_or asked n false) (first_word 12 table i) ∙ default asked false _ w
