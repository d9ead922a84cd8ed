use mathlib.Core.Bool.{and-true}
use borrow.Author.Tests.{lt-ltb, le-ltb}
use Rattle.image.specs.Lists.{all_true}
use Rattle.handed.specs.Handed.{self_holds}
use Rattle.handed_tests.proofs.self_holds.Goals as goal

pub returns-then-not-bindings_hold : goal.returns-then-not-bindings_hold
unfolding self_holds all_true
returns-then-not-bindings_hold c = rw (← c.bindings_hold.ensures, c.if-not-bindings_hold.true)

pub returns-then-tables-b : goal.returns-then-tables-b
unfolding self_holds all_true
returns-then-tables-b c = rw (← c.bindings_hold.ensures, c.if-not-bindings_hold.false, le-ltb _ _ c.if-tables-b.true)

pub returns-then-not-start_holds : goal.returns-then-not-start_holds
unfolding self_holds all_true
returns-then-not-start_holds c = rw (← c.bindings_hold.ensures, c.if-not-bindings_hold.false, lt-ltb _ _ c.if-tables-b.false, ← c.start_holds.ensures, c.if-not-start_holds.true)

pub returns : goal.returns
unfolding self_holds all_true
returns c = rw (← c.bindings_hold.ensures, c.if-not-bindings_hold.false, lt-ltb _ _ c.if-tables-b.false, ← c.start_holds.ensures, c.if-not-start_holds.false, and-true)
