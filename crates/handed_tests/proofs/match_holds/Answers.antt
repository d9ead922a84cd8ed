use mathlib.Core.Bool.{and-true}
use borrow.Author.Tests.{lt-ltb, le-ltb}
use Rattle.image.specs.Lists.{all_true}
use Rattle.handed.specs.Handed.{match_holds}
use Rattle.handed_tests.proofs.match_holds.Goals as goal

pub returns-then-tables-p : goal.returns-then-tables-p
unfolding match_holds all_true
returns-then-tables-p c = rw (le-ltb _ _ c.if-tables-p.true)

pub returns-then-not-bindings_hold : goal.returns-then-not-bindings_hold
unfolding match_holds all_true
returns-then-not-bindings_hold c = rw (lt-ltb _ _ c.if-tables-p.false, ← c.bindings_hold.ensures, c.if-not-bindings_hold.true)

pub returns-then-not-start_holds : goal.returns-then-not-start_holds
unfolding match_holds all_true
returns-then-not-start_holds c = rw (lt-ltb _ _ c.if-tables-p.false, ← c.bindings_hold.ensures, c.if-not-bindings_hold.false, ← c.start_holds.ensures, c.if-not-start_holds.true)

pub returns-then-not-else_holds : goal.returns-then-not-else_holds
unfolding match_holds all_true
returns-then-not-else_holds c = rw (lt-ltb _ _ c.if-tables-p.false, ← c.bindings_hold.ensures, c.if-not-bindings_hold.false, ← c.start_holds.ensures, c.if-not-start_holds.false, ← c.else_holds.ensures, c.if-not-else_holds.true)

pub returns : goal.returns
unfolding match_holds all_true
returns c = rw (lt-ltb _ _ c.if-tables-p.false, ← c.bindings_hold.ensures, c.if-not-bindings_hold.false, ← c.start_holds.ensures, c.if-not-start_holds.false, ← c.else_holds.ensures, c.if-not-else_holds.false, and-true) c.place_holds.ensures
