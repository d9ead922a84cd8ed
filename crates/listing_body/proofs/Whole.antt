-- The listing of a body, by its parts. Assumes nothing.
use Prim.Native.Nat.{ℕ}
use mathlib.Core.List.{List, ◌++◌, append_assoc}
use lib.ListN.{take}
use Rattle.lower_spec.specs.Results.{OptBlock}
use Rattle.mir.specs.declared.BasicBlockId.{BasicBlockId}
use Rattle.mir.specs.declared.Counts.{Counts}
use Rattle.state.specs.State.{Body, decode}
use Rattle.views.specs.Views.{mir_of}
use Rattle.block_records.specs.Records.{terminators_of}
use Rattle.listing_text.specs.declared.pen.Pen.{Pen}
use Rattle.listing_text.specs.Words.{then_word, else_word, newline}
use Rattle.listing_text.specs.Numbers.{decimal}
use Rattle.listing_text.specs.Listing.{else_text, locals_text, blocks_text, listing}
use Rattle.listing_text.specs.Writing.{Wrote}
use Rattle.listing_text.proofs.Pieces.{and_then_lem}
use Rattle.listing_places.specs.RowParts.{lines_of}

-- the first line, the locals, and the blocks
module _ (b : Body) (c : Counts) (then : BasicBlockId) (els : OptBlock) {o₀ o₁ o₂ o₃ : List ℕ} {p₀ p₁ p₂ p₃ : Pen} where
  pub whole : Wrote o₀ p₀ (then_word ++ (decimal then.0 ++ (else_word ++ (else_text els ++ newline)))) p₁ o₁ →
      Wrote o₁ p₁ (locals_text 0 (take c.locals b.locals)) p₂ o₂ →
      Wrote o₂ p₂ (blocks_text (lines_of b.statements c.statements) 0 (terminators_of b.blocks c.blocks)) p₃ o₃ →
      Wrote o₀ p₀ (listing then els (mir_of (decode b c))) p₃ o₃
  unfolding listing mir_of decode terminators_of
  whole head locals blocks = simp append_assoc at (and_then_lem head (and_then_lem locals blocks))
