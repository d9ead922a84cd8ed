use lib.Dec.{T}
use mathlib.Core.Bool.{not}
use Rattle.block_record_filling.proofs.Filling.{fits_told, says_filled, says_refused}
use Rattle.block_record_filling.proofs.blocks_as_records.Goals as goal

pub fill-requires : goal.fill-requires
fill-requires c =
    let h : T c.records_fit.result = rw c.if-records_fit.true tt in
    fits_told _ _ _ c.records_fit.result h c.records_fit.ensures

pub returns-then-records_fit : goal.returns-then-records_fit
returns-then-records_fit c =
    let h : T c.records_fit.result = rw c.if-records_fit.true tt in
    says_filled c.args.records.now c.args.blocks.now c.args.count _ c.records_fit.result h c.records_fit.ensures c.fill.ensures

pub returns-else-records_fit : goal.returns-else-records_fit
returns-else-records_fit c =
    let h : T (not c.records_fit.result) = rw c.if-records_fit.false tt in
    says_refused c.args.records.now c.args.blocks.now c.args.count c.records_fit.result h c.records_fit.ensures
