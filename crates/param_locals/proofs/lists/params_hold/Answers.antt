use borrow.Author.Rules.{rules}
use mathlib.Core.Bool.{and-true}
use borrow.Author.Tests.{not-true, not-false}
use Rattle.image.specs.Lists.{all_true}
use Rattle.params_spec.specs.Calls.{params_hold}
use Rattle.param_locals.proofs.lists.params_hold.Goals as goal

pub returns-then-not-self_named : goal.returns-then-not-self_named
unfolding params_hold all_true
returns-then-not-self_named c = rw (← c.self_named.ensures, c.if-not-self_named.true)

pub returns-then-not-bindings_hold : goal.returns-then-not-bindings_hold
unfolding params_hold all_true
returns-then-not-bindings_hold c = rw (← c.self_named.ensures, c.if-not-self_named.false, ← c.requires.0.binding_count_lem, ← c.bindings_hold.ensures, c.if-not-bindings_hold.true)

pub returns : goal.returns
unfolding params_hold all_true
returns c = rw (← c.self_named.ensures, c.if-not-self_named.false, ← c.requires.0.binding_count_lem, ← c.bindings_hold.ensures, c.if-not-bindings_hold.false, and-true) c.start_holds.ensures
