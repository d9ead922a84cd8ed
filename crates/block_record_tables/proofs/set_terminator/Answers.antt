use Rattle.std.proofs.Common.{ap, eqb, set, ◌∙◌, refl}
use borrow.Author.Tests.{lt-ltb, le-ltb}
use Rattle.block_records.specs.declared.Block.{Block}
use Rattle.block_record_tables.specs.Looks.{put_at}
use Rattle.block_record_tables.proofs.set_terminator.Goals as goal

pub returns-then-at-records : goal.returns-then-at-records
unfolding put_at
returns-then-at-records c =
    let t = lt-ltb _ _ c.if-at-records.true in
    rw t (refl, c.set_record.ensures ∙ ap (set c.args.records.now c.args.b.0) c.block_of.ensures)

pub returns-else-at-records : goal.returns-else-at-records
unfolding put_at
returns-else-at-records c = let f = le-ltb _ _ c.if-at-records.false in rw f (refl, refl)
