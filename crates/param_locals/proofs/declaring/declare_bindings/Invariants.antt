use Prim.Native.Nat.{◌-◌}
use borrow.Author.Rules.{rules}
use Rattle.body_tables.specs.Layout.{body_of}
use Rattle.param_locals.proofs.Picking.{BindingsGoing, bindings_begin, bindings_end, binding_there, binding_stops, bindings_again}
use Rattle.param_locals.proofs.declaring.declare_bindings.Given as goal

abbrev pub invariant-loop-b : goal.invariant-loop-b
invariant-loop-b l = BindingsGoing l.image l.initial.c l.initial.bindings (body_of l.initial.body) l.c l.bindings (body_of l.body) l.b (l.tables.bindings.count - l.b)
