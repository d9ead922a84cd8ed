use Prim.Native.Nat.{◌<◌}
use mathlib.Core.Path.{refl, sym, ap, ◌∙◌}
use native.Mathlib.Omega.{arith}
use lib.ListN.{length}
use borrow.Author.Rules.{rules}
use Rattle.image.specs.Tables.{pattern_count}
use Rattle.image.specs.Lists.{all_below}
use Rattle.image.proofs.Bools.{below_next}
use Rattle.image_marks.proofs.Uses.{uses_start, uses_more, uses_refused, uses_end}
use Rattle.image_tables.proofs.Walking.{shape_fails, use_fails, patterns_end}
use Rattle.image_tables.proofs.patterns.take_patterns.Goals as goal

pub loop-p-init : goal.loop-p-init
unfolding all_below
loop-p-init c = (uses_start _ c.requires.1 c.requires.2, refl, omega arith, refl)

pub pattern_holds-requires : goal.pattern_holds-requires
pattern_holds-requires c = (c.requires.0, c.loop-p-test.true)

pub returns-then-not-pattern_holds : goal.returns-then-not-pattern_holds
returns-then-not-pattern_holds c =
    let count = c.requires.0.pattern_count_lem in
    shape_fails _ c.loop-p.p (omega (arith, c.loop-p-test.true)) (sym c.pattern_holds.ensures ∙ c.if-not-pattern_holds.true)

pub take_subpatterns-requires : goal.take_subpatterns-requires
take_subpatterns-requires c =
    let known = c.requires in
    let long = ap length known.1 in
    let lt : c.loop-p.p < pattern_count c.args.image.now = omega (arith, known.0.pattern_count_lem, c.loop-p-test.true) in
    (known.0, lt, omega (arith, c.loop-p.invariant.1), sym c.pattern_holds.ensures ∙ c.if-not-pattern_holds.false, known.3)

pub returns-then-not-take_subpatterns : goal.returns-then-not-take_subpatterns
returns-then-not-take_subpatterns c =
    let count = c.requires.0.pattern_count_lem in
    use_fails _ (uses_refused _ _ _ c.loop-p.invariant.0 (omega (arith, c.loop-p-test.true)) (c.if-not-take_subpatterns.true) c.take_subpatterns.ensures)

pub loop-p-preserved : goal.loop-p-preserved
loop-p-preserved c =
    let count = c.requires.0.pattern_count_lem in (
      uses_more _ _ _ c.loop-p.invariant.0 (omega (arith, c.loop-p-test.true)) (c.if-not-take_subpatterns.false) c.take_subpatterns.ensures,
      search rules,
      omega (arith, c.loop-p-test.true),
      below_next _ _ c.loop-p.invariant.3 (sym c.pattern_holds.ensures ∙ c.if-not-pattern_holds.false),
    )

pub returns : goal.returns
returns c =
    let count = c.requires.0.pattern_count_lem in
    patterns_end _ c.loop-p.p (omega (arith, c.loop-p.invariant.2)) c.loop-p.invariant.3 (uses_end _ _ _ c.loop-p.invariant.0 (omega arith))
