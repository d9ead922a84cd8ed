use Rattle.std.proofs.Common.{ℕ, ◌≡◌, List, set, arith, sym, add-one}
use mathlib.Core.Path.{ap₂}
use Rattle.block_records.specs.declared.Block.{Block}
use Rattle.block_record_filling.specs.Fillings.{filled}
use Rattle.block_record_filling.proofs.Filling.{filled_none}
use Rattle.block_record_filling.proofs.fill.Goals as goal

pub loop-i-init : goal.loop-i-init
loop-i-init c = (sym (filled_none c.args.records.now c.args.blocks.now), omega arith)

pub loop-i-preserved : goal.loop-i-preserved
unfolding filled
loop-i-preserved c =
    (rw add-one (ap₂ (λ (xs : List Block) (r : Block). set xs c.loop-i.i r) c.loop-i.invariant.0 c.block_at.ensures), omega arith)
