use native.Mathlib.Omega.{arith}
use Prim.Native.Nat.{ℕ}
use mathlib.Core.Path.{◌≡◌, refl, sym, ap, ◌∙◌}
use mathlib.Core.Bool.{Bool}
use mathlib.Core.List.{List}
use Rattle.image.specs.Lists.{all_below}
use Rattle.image.proofs.Bools.{below_false, below_next}
use Rattle.name_tables.specs.Names.{name_row_at, name_row_holds, row_count}
use Rattle.name_rules.proofs.name_rows_hold.Goals as goal

-- the row i holds
abbrev tried : List ℕ → List ℕ → ℕ → Bool
tried sheet names i = name_row_holds sheet names (name_row_at names i)

pub loop-i-init : goal.loop-i-init
unfolding all_below
loop-i-init c = (omega arith, refl)

pub name_row_at-requires : goal.name_row_at-requires
name_row_at-requires c = omega (arith, c.loop-i-test.true, c.word_at-count.ensures, c.requires.2)

pub returns-then-not-name_row_holds : goal.returns-then-not-name_row_holds
unfolding name_row_holds
returns-then-not-name_row_holds c =
    let sheet = c.args.sheet.now in
    let names = c.args.names.now in
    let told = rw (c.word_at-bytes.ensures, c.name_row_at.ensures) at c.name_row_holds.ensures in
    sym (below_false (tried sheet names) (row_count names) c.loop-i.i (omega (arith, c.loop-i-test.true, c.word_at-count.ensures)) (sym told ∙ c.if-not-name_row_holds.true))

pub loop-i-preserved : goal.loop-i-preserved
unfolding name_row_holds
loop-i-preserved c =
    let sheet = c.args.sheet.now in
    let names = c.args.names.now in
    let told = rw (c.word_at-bytes.ensures, c.name_row_at.ensures) at c.name_row_holds.ensures in
    (omega (arith, c.loop-i-test.true), below_next (tried sheet names) c.loop-i.i c.loop-i.invariant.1 (sym told ∙ c.if-not-name_row_holds.false))

pub returns : goal.returns
returns c =
    let sheet = c.args.sheet.now in
    let names = c.args.names.now in
    let end : c.loop-i.i ≡ row_count names = omega (arith, c.loop-i.invariant.0, c.loop-i-test.false, c.word_at-count.ensures) in
    sym (ap (all_below (tried sheet names)) (sym end) ∙ c.loop-i.invariant.1)
