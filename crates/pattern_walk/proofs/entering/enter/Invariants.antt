use mathlib.Core.Path.{refl, sym, ◌∙◌}
use mathlib.Core.Bool.{true}
use mathlib.Core.Logic.{⊎_elim}
use native.Mathlib.Omega.{arith}
use borrow.Author.Rules.{rules}
use borrow.Author.Tests.{not-true, not-false}
use Rattle.pattern_nodes.proofs.Known.{limits}
use Rattle.pattern_walk_laws.proofs.Descending.{Descending, descending_begin, enter_full, enter_at, descending_again, behind_derefs_lem, behind_none}
use Rattle.pattern_walk.proofs.entering.enter.Given as goal

abbrev pub invariant-loop-behind : goal.invariant-loop-behind
invariant-loop-behind l = Descending l.image l.mode l.initial.q l.initial.here l.initial.visits l.q l.here l.visits

abbrev pub decreases-loop-behind : goal.decreases-loop-behind
decreases-loop-behind l = l.q.0
