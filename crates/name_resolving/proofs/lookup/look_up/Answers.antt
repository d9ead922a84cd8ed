use borrow.Author.Rules.{rules}
use native.Mathlib.Omega.{arith}
use Rattle.name_resolving.specs.Gives.{named_as}
use Rattle.name_tables.specs.Tested.{found_in}
use Rattle.name_resolving.proofs.Names.{row_below, lacking}
use Rattle.name_resolving.proofs.lookup.look_up.Goals as goal

pub returns-in_err-row : goal.returns-in_err-row
unfolding found_in
returns-in_err-row c = rw c.from_residual.ensures (lacking _ (rw (c.in_err-row.was, c.name_bytes.ensures) at c.row_for.ensures))

pub name_row_at-found-requires : goal.name_row_at-found-requires
unfolding found_in
name_row_at-found-requires c =
    let below = row_below _ _ _ _ (rw (c.in_ok-row.was, c.name_bytes.ensures) at c.row_for.ensures) in
    omega (arith, c.requires.rows)

pub returns : goal.returns
unfolding found_in named_as
returns c = rw (← (rw (c.in_ok-row.was, c.name_bytes.ensures) at c.row_for.ensures), ← c.name_row_at-found.ensures)
