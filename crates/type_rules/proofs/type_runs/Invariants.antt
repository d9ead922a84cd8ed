use borrow.Author.Rules.{rules}
use native.Mathlib.Omega.{arith}
use Prim.Native.Nat.{ℕ, ◌-◌, ◌≤◌}
use mathlib.Core.Path.{◌≡◌, ap, sym, ◌∙◌}
use lib.ListN.{length, length-replicate}
use Rattle.image.specs.Tables.{list_count}
use Rattle.type_rules.specs.Runs.{run}
use Rattle.type_rules.proofs.Runs.{From, runs_begin, run_short, runs_more, runs_end}
use Rattle.type_rules.proofs.type_runs.Given as goal

abbrev pub invariant-loop-i : goal.invariant-loop-i
invariant-loop-i l = From l.image l.runs l.i
