use mathlib.Core.Path.{refl, sym, ◌∙◌}
use mathlib.Core.Bool.{true}
use mathlib.Core.Logic.{⊎_elim}
use native.Mathlib.Omega.{arith}
use borrow.Author.Rules.{rules}
use borrow.Author.Tests.{not-true, not-false}
use Rattle.pattern_nodes.proofs.Known.{limits}
use Rattle.pattern_walk_laws.proofs.Descending.{Descending, descending_begin, enter_full, enter_at, descending_again, behind_derefs_lem, behind_none}
use Rattle.pattern_walk.proofs.entering.enter.Goals as goal
use Rattle.pattern_walk.proofs.entering.enter.Goals.{then-row-ne0+else-not-behind, else-row-ne0}

pub loop-behind-init : goal.loop-behind-init
loop-behind-init c = descending_begin _ _ _ _ _

pub visit-requires : goal.visit-requires
visit-requires c = (search rules, omega (arith, c.requires.2, (limits _ c.requires.0).patterns, c.loop-behind.invariant.below))

pub pat_at-row-requires : goal.pat_at-row-requires
pat_at-row-requires c = (c.requires.1, omega (arith, c.requires.1.pattern_count_lem, c.requires.2, c.loop-behind.invariant.below))

pub deref_place-behind-requires : goal.deref_place-behind-requires
deref_place-behind-requires c = tt

pub returns-then-not-behind : goal.returns-then-not-behind
returns-then-not-behind c = enter_full c.loop-behind.invariant c.pat_at-row.result c.deref_place-behind.result c.requires.0 c.requires.2 c.pat_at-row.ensures c.visit.ensures c.deref_place-behind.ensures ((not-true (_) c.if-not-behind.true))

pub passes_on-requires : goal.passes_on-requires
passes_on-requires c = tt

pub returns-then-not-passes_on : goal.returns-then-not-passes_on
returns-then-not-passes_on c =
    enter_at c.loop-behind.invariant c.pat_at-row.result (record { ok = true; place = c.if-row-ne0.here }) c.requires.0 c.requires.2 c.pat_at-row.ensures c.visit.ensures
    (elim c.if-row-ne0.branch [
      | then-row-ne0+else-not-behind w ↦ behind_derefs_lem c.loop-behind.here c.pat_at-row.result.derefs w.deref_place-behind.result w.deref_place-behind.ensures (not-false (w.deref_place-behind.result.ok) w.if-not-behind.false) w.here-is
      | else-row-ne0 w ↦ behind_none c.loop-behind.here c.pat_at-row.result.derefs w.if-row-ne0.false w.here-is
    ]) refl

pub loop-behind-smaller : goal.loop-behind-smaller
loop-behind-smaller c =
    (descending_again c.loop-behind.invariant c.pat_at-row.result (record { ok = true; place = c.if-row-ne0.here }) c.requires.0 c.requires.2 c.pat_at-row.ensures c.visit.ensures
    (elim c.if-row-ne0.branch [
      | then-row-ne0+else-not-behind w ↦ behind_derefs_lem c.loop-behind.here c.pat_at-row.result.derefs w.deref_place-behind.result w.deref_place-behind.ensures (not-false (w.deref_place-behind.result.ok) w.if-not-behind.false) w.here-is
      | else-row-ne0 w ↦ behind_none c.loop-behind.here c.pat_at-row.result.derefs w.if-row-ne0.false w.here-is
    ]) refl
    (sym c.passes_on.ensures ∙ c.if-not-passes_on.false)).1

pub loop-behind-preserved : goal.loop-behind-preserved
loop-behind-preserved c =
    (descending_again c.loop-behind.invariant c.pat_at-row.result (record { ok = true; place = c.if-row-ne0.here }) c.requires.0 c.requires.2 c.pat_at-row.ensures c.visit.ensures
    (elim c.if-row-ne0.branch [
      | then-row-ne0+else-not-behind w ↦ behind_derefs_lem c.loop-behind.here c.pat_at-row.result.derefs w.deref_place-behind.result w.deref_place-behind.ensures (not-false (w.deref_place-behind.result.ok) w.if-not-behind.false) w.here-is
      | else-row-ne0 w ↦ behind_none c.loop-behind.here c.pat_at-row.result.derefs w.if-row-ne0.false w.here-is
    ]) refl
    (sym c.passes_on.ensures ∙ c.if-not-passes_on.false)).0
