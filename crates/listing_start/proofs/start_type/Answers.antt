use Prim.Native.Nat.{◌-◌}
use mathlib.Core.Path.{sym, ap, ◌∙◌}
use native.Mathlib.Omega.{arith}
use Rattle.listing_start.proofs.Limits.{limits}
use Rattle.listing_start.proofs.Leading.{try_start, try_more, try_found, try_end}
use Rattle.listing_start.proofs.start_type.Goals as goal

pub overflow_sub-tables : goal.overflow_sub-tables
overflow_sub-tables c = omega (arith, c.requires.1.pattern_count_lem, (limits _ c.requires.0).patterns)

pub pat_at-row-requires : goal.pat_at-row-requires
pat_at-row-requires c = (c.requires.1, omega (arith, c.requires.1.pattern_count_lem, (limits _ c.requires.0).patterns))

pub loop-t-init : goal.loop-t-init
loop-t-init c = try_start c.pat_at-row.ensures (ap (λ (n : Prim.Native.Nat.ℕ). n - 1) c.requires.1.pattern_count_lem)

pub returns-then-leads_to : goal.returns-then-leads_to
returns-then-leads_to c = (try_found c.loop-t.invariant (omega (arith, c.loop-t-test.true, c.requires.1.type_count_lem)) (sym c.if-leads_to.true ∙ c.leads_to.ensures), omega (arith, c.loop-t-test.true, c.requires.1.type_count_lem))

pub loop-t-preserved : goal.loop-t-preserved
loop-t-preserved c = try_more c.loop-t.invariant (omega (arith, c.loop-t-test.true, c.requires.1.type_count_lem)) (sym c.if-leads_to.false ∙ c.leads_to.ensures)

pub returns : goal.returns
returns c = (try_end c.loop-t.invariant (omega (arith, c.loop-t-test.false, c.requires.1.type_count_lem)), tt)
