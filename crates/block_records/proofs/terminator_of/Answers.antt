use Rattle.block_records.proofs.Reading.{kind_in, open_in_lem}
use Rattle.block_records.proofs.terminator_of.Goals as goal

pub returns-in-1 : goal.returns-in-1
returns-in-1 c = kind_in c.args.block 1 c.in-1.is

pub returns-in-2 : goal.returns-in-2
returns-in-2 c = kind_in c.args.block 2 c.in-2.is

pub returns-in-3 : goal.returns-in-3
returns-in-3 c = kind_in c.args.block 3 c.in-3.is

pub returns-in-4 : goal.returns-in-4
returns-in-4 c = kind_in c.args.block 4 c.in-4.is

pub returns-in_default : goal.returns-in_default
returns-in_default c = open_in_lem c.args.block c.in_default.in_default-own.rest
