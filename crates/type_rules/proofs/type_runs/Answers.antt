use borrow.Author.Rules.{rules}
use native.Mathlib.Omega.{arith}
use Prim.Native.Nat.{ℕ, ◌-◌, ◌≤◌}
use mathlib.Core.Path.{◌≡◌, ap, sym, ◌∙◌}
use lib.ListN.{length, length-replicate}
use Rattle.image.specs.Tables.{list_count}
use Rattle.type_rules.specs.Runs.{run}
use Rattle.type_rules.proofs.Runs.{From, runs_begin, run_short, runs_more, runs_end}
use Rattle.type_rules.proofs.type_runs.Goals as goal

pub loop-i-init : goal.loop-i-init
loop-i-init c = runs_begin _ _ _ c.requires.0.list_count_lem c.requires.1 c.requires.2

pub list_at-word-requires : goal.list_at-word-requires
list_at-word-requires c = (c.requires.0, omega (arith, c.loop-i.invariant.place, c.requires.0.list_count_lem))

pub longer-requires : goal.longer-requires
longer-requires c = run_short _ _ _ c.loop-i.invariant c.loop-i-test.true c.requires.1

pub loop-i-preserved : goal.loop-i-preserved
loop-i-preserved c = rw (c.longer.ensures, c.list_at-word.ensures, c.requires.0.type_count_lem) (runs_more _ _ _ c.loop-i.invariant c.loop-i-test.true c.requires.1)

pub returns : goal.returns
returns c = runs_end _ _ _ c.loop-i.invariant (omega arith) c.requires.1
