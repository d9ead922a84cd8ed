use Rattle.std.proofs.Common.{◌≡◌, ◌≤◌, ◌-◌}
use Rattle.block_record_filling.specs.Fillings.{filled}
use Rattle.block_record_filling.proofs.fill.Given as goal

abbrev pub invariant-loop-i : goal.invariant-loop-i
invariant-loop-i l = (l.records ≡ filled l.initial.records l.blocks l.i) × (l.i ≤ l.count)
