use Rattle.block_record_filling.proofs.Through.{through}
use Rattle.block_record_filling.proofs.records_of.Goals as goal

pub returns : goal.returns
returns c =
    through c.blank_records-records.result c.args.blocks.now c.args.count c.blocks_as_records.result c.blocks_as_records.new.records c.blank_records-records.ensures c.requires c.blocks_as_records.ensures
