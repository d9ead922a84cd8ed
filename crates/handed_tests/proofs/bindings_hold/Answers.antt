use Rattle.std.proofs.Common.{rules}
use borrow.Author.Tests.{eq-eqb, ne_eqb}
use Rattle.handed.specs.Handed.{binding_local_holds, bindings_hold}
use Rattle.handed_tests.proofs.Words.{all_in_told}
use Rattle.handed_tests.proofs.bindings_hold.Goals as goal

pub returns-then-bindings-count : goal.returns-then-bindings-count
unfolding bindings_hold
returns-then-bindings-count c =
    rw (eq-eqb _ _ c.if-bindings-count.true) (all_in_told (binding_local_holds c.args.counts) c.args.bindings.now c.all.result (search rules))

pub returns-else-bindings-count : goal.returns-else-bindings-count
unfolding bindings_hold
returns-else-bindings-count c = rw (ne_eqb _ _ c.if-bindings-count.false)
