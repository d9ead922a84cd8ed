use borrow.Author.Rules.{rules}
use Prim.Native.Nat.{◌-◌}
use native.Mathlib.Omega.{arith}
use Rattle.body_tables.specs.Layout.{body_of}
use Rattle.body_leaving.proofs.Departing.{Departed, departing_starts, entry_named, departs, departing_stops, departing_ends}
use Rattle.body_leaving.proofs.emit_drop_and_storage_dead_for_scope.Given as goal

abbrev pub invariant-loop-i : goal.invariant-loop-i
invariant-loop-i l = Departed l.image l.start l.end (body_of l.initial.body) l.initial.c l.initial.at (body_of l.body) l.c l.at l.i
