-- The blocks that are written by their records: the block b of the first records, so many, and those behind it. Assumes nothing.
use Prim.Native.Nat.{ℕ, ◌+◌, ◌≤◌, ◌<◌}
use mathlib.Core.Path.{◌≡◌, sym, ap, ◌∙◌}
use mathlib.Core.List.{List, [], ◌++◌, map}
use native.Mathlib.Omega.{arith}
use lib.ListN.{length, get_or, take, length-map, get_or-map}
use lib.Seq.{length-take-le, get_or-take}
use Rattle.mir.specs.declared.blocks.Terminator.{Terminator}
use Rattle.views.specs.Views.{Line}
use Rattle.block_records.specs.declared.Block.{Block}
use Rattle.block_records.specs.Records.{blank, terminator_in}
use Rattle.listing_text.specs.Listing.{block_text}
use Rattle.listing_places.proofs.Texts.{blocks_from, blocks_more, blocks_end}

-- the terminators of the first n records
abbrev pub firsts : List Block → ℕ → List Terminator
firsts records n = map terminator_in (take n records)

-- the text of the blocks from the block b on, by the first n records
abbrev pub records_from : List Line → List Block → ℕ → ℕ → List ℕ
records_from lines records n b = blocks_from lines (firsts records n) b

module _ (records : List Block) (n : ℕ) (fits : n ≤ length records) where
  -- they are so many
  firsts_length : length (firsts records n) ≡ n
  firsts_length = length-map (take n records) terminator_in ∙ length-take-le n records fits

  -- each is its record's
  firsts_at : (b : ℕ) → b < n → get_or (firsts records n) b Terminator.Open ≡ terminator_in (get_or records b blank)
  unfolding terminator_in
  firsts_at b h = get_or-map terminator_in (take n records) b blank ∙ ap terminator_in (get_or-take n records b blank h)

  -- the block b, with the terminator of its record, and those behind it
  pub records_more : (lines : List Line) (b : ℕ) (t : Terminator) → b < n → t ≡ terminator_in (get_or records b blank) → records_from lines records n b ≡ block_text lines b t ++ records_from lines records n (b + 1)
  records_more lines b t h e =
      blocks_more lines (firsts records n) b (omega (arith, firsts_length))
      ∙ ap (λ (u : Terminator). block_text lines b u ++ records_from lines records n (b + 1)) (firsts_at b h ∙ sym e)

  -- behind the last there is none
  pub records_end : (lines : List Line) (b : ℕ) → n ≤ b → records_from lines records n b ≡ []
  records_end lines b h = blocks_end lines (firsts records n) b (omega (arith, firsts_length))
