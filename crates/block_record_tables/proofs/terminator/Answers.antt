use Rattle.std.specs.Prelude.{Some}
use Rattle.std.proofs.Common.{ap, eqb, set, ◌∙◌, refl}
use borrow.Author.Tests.{lt-ltb, le-ltb}
use Rattle.block_records.specs.declared.Block.{Block}
use Rattle.block_records.specs.Records.{terminator_in}
use Rattle.block_record_tables.specs.Looks.{look_at}
use Rattle.block_record_tables.proofs.terminator.Goals as goal

pub returns-then-at-records : goal.returns-then-at-records
unfolding look_at
returns-then-at-records c =
    let t = lt-ltb _ _ c.if-at-records.true in
    rw t (c.found.ensures ∙ ap (λ (r : Block). Some (terminator_in r)) c.record_at.ensures)

pub returns-else-at-records : goal.returns-else-at-records
unfolding look_at
returns-else-at-records c = let f = le-ltb _ _ c.if-at-records.false in rw f
