use borrow.Author.Rules.{rules}
use native.Mathlib.Omega.{arith}
use Prim.Native.Nat.{◌+◌}
use mathlib.Core.Path.{sym, ◌∙◌}
use borrow.Author.Tests.{not-true, not-false, leb-true}
use Rattle.image.specs.Rules.{types_listed}
use Rattle.type_rules.proofs.Runs.{listed_by_run}
use Rattle.type_rules.proofs.types_listed.Goals as goal

pub returns-then-not-in_table : goal.returns-then-not-in_table
unfolding types_listed
returns-then-not-in_table c = rw (← c.requires.0.list_count_lem, ← c.in_table.ensures, c.if-not-in_table.true)

pub bounds-runs-from : goal.bounds-runs-from
bounds-runs-from c =
    let fits = leb-true (c.args.from + c.args.count) c.args.tables.list.count (sym c.in_table.ensures ∙ c.if-not-in_table.false) in
    omega (arith, fits, c.requires.0.list_count_lem, c.requires.1.size, c.requires.1.list)

pub returns : goal.returns
returns c =
    let fits = leb-true (c.args.from + c.args.count) c.args.tables.list.count (sym c.in_table.ensures ∙ c.if-not-in_table.false) in
    listed_by_run c.args.image.now c.args.runs.now c.args.from c.args.count c.requires.1 (omega (arith, fits, c.requires.0.list_count_lem))
