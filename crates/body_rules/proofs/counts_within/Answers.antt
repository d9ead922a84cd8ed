use mathlib.Core.Bool.{and-true}
use borrow.Author.Tests.{lt-leb, le-leb}
use Rattle.image.specs.Lists.{all_true}
use Rattle.body_row_rules.specs.Bodies.{counts_within}
use Rattle.body_rules.proofs.counts_within.Goals as goal

pub returns-then-counts-gt512 : goal.returns-then-counts-gt512
unfolding counts_within all_true
returns-then-counts-gt512 c = rw (lt-leb _ 512 c.if-counts-gt512.true)

pub returns-then-counts-gt1024 : goal.returns-then-counts-gt1024
unfolding counts_within all_true
returns-then-counts-gt1024 c = rw (le-leb _ 512 c.if-counts-gt512.false, lt-leb _ 1024 c.if-counts-gt1024.true)

pub returns-then-counts-gt512-2 : goal.returns-then-counts-gt512-2
unfolding counts_within all_true
returns-then-counts-gt512-2 c = rw (le-leb _ 512 c.if-counts-gt512.false, le-leb _ 1024 c.if-counts-gt1024.false, lt-leb _ 512 c.if-counts-gt512-2.true)

pub returns-then-counts-gt32 : goal.returns-then-counts-gt32
unfolding counts_within all_true
returns-then-counts-gt32 c = rw (le-leb _ 512 c.if-counts-gt512.false, le-leb _ 1024 c.if-counts-gt1024.false, le-leb _ 512 c.if-counts-gt512-2.false, lt-leb _ 32 c.if-counts-gt32.true)

pub returns : goal.returns
unfolding counts_within all_true
returns c = rw (le-leb _ 512 c.if-counts-gt512.false, le-leb _ 1024 c.if-counts-gt1024.false, le-leb _ 512 c.if-counts-gt512-2.false, le-leb _ 32 c.if-counts-gt32.false, and-true)
