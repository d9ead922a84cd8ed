use borrow.Author.Rules.{rules}
use native.Mathlib.Omega.{arith}
use mathlib.Core.Path.{sym, ◌∙◌}
use borrow.Author.Tests.{not-true, not-false}
use Rattle.name_tables.specs.Names.{names_hold}
use Rattle.name_tables.proofs.Ruled.{frame_long, frame_filled}
use Rattle.name_rules.proofs.names_hold.Goals as goal

pub returns-then-not-name_frame_holds : goal.returns-then-not-name_frame_holds
unfolding names_hold
returns-then-not-name_frame_holds c = rw (sym c.name_frame_holds.ensures ∙ c.if-not-name_frame_holds.true)

pub name_rows_hold-requires : goal.name_rows_hold-requires
name_rows_hold-requires c =
    let held = sym c.name_frame_holds.ensures ∙ c.if-not-name_frame_holds.false in
    (c.requires, frame_long _ held, omega (arith, frame_filled _ held))

pub returns : goal.returns
unfolding names_hold
returns c = rw (sym c.name_frame_holds.ensures ∙ c.if-not-name_frame_holds.false) c.name_rows_hold.ensures
