use borrow.Author.Rules.{rules}
use mathlib.Core.Path.{sym}
use borrow.Author.Tests.{lt-ltb, le-ltb}
use Rattle.body_row_rules.proofs.BlockKinds.{of_kind_lem, of_no_kind}
use Rattle.body_row_rules.proofs.rows.block_holds.Goals as goal

pub returns-then-counts-local : goal.returns-then-counts-local
returns-then-counts-local c = rw (of_kind_lem c.args.blocks.now c.args.counts c.args.i 2 c.in-2.is, le-ltb _ _ c.if-counts-local.true)

pub returns-then-counts-target : goal.returns-then-counts-target
returns-then-counts-target c = rw (of_kind_lem c.args.blocks.now c.args.counts c.args.i 2 c.in-2.is, lt-ltb _ _ c.if-counts-local.false, le-ltb _ _ c.if-counts-target.true)

pub returns-then-counts-local-2 : goal.returns-then-counts-local-2
returns-then-counts-local-2 c = rw (of_kind_lem c.args.blocks.now c.args.counts c.args.i 4 c.in-4.is, le-ltb _ _ c.if-counts-local-2.true)

pub returns-in-0 : goal.returns-in-0
returns-in-0 c = sym (of_kind_lem c.args.blocks.now c.args.counts c.args.i 0 c.in-0.is)

pub returns-in-1 : goal.returns-in-1
returns-in-1 c = sym (of_kind_lem c.args.blocks.now c.args.counts c.args.i 1 c.in-1.is)

pub returns-else-counts-target : goal.returns-else-counts-target
returns-else-counts-target c = rw (of_kind_lem c.args.blocks.now c.args.counts c.args.i 2 c.in-2.is, lt-ltb _ _ c.if-counts-local.false, lt-ltb _ _ c.if-counts-target.false)

pub returns-in-3 : goal.returns-in-3
returns-in-3 c = sym (of_kind_lem c.args.blocks.now c.args.counts c.args.i 3 c.in-3.is)

pub returns-else-counts-local-2 : goal.returns-else-counts-local-2
returns-else-counts-local-2 c = rw (of_kind_lem c.args.blocks.now c.args.counts c.args.i 4 c.in-4.is, lt-ltb _ _ c.if-counts-local-2.false)

pub returns-in_default : goal.returns-in_default
returns-in_default c = sym (of_no_kind c.args.blocks.now c.args.counts c.args.i c.in_default.in_default-own.rest)
