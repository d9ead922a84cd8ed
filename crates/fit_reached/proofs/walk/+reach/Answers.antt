use borrow.Enum.Refused.{opened}
use Prim.Native.Nat.{ℕ}
use mathlib.Core.Path.{sym, ap, ◌∙◌}
use native.Mathlib.Omega.{arith}
use Rattle.fit_types.proofs.Stepping.{items_first, pairs_first}
use Rattle.fit_types.proofs.Rowing.{items_left, pairs_left}
use Rattle.fit_types.proofs.Holding.{sub_below as present_below}
use Rattle.fit_own.specs.Answers.{with_test}
use Rattle.fit_own.proofs.Stepping.{row_refused, row_sure, row_fails, row_end, alts_refused, alts_sure, alts_fail, alts_end, sub_absent, sub_there}
use Prim.Native.Nat.{ℕ, ◌<◌}
use Prim.Native.Nat.{◌+◌, ◌*◌, ◌-◌}
use Rattle.std.proofs.Math.Nat.{sub-add-eq, sub-eq-zero_of_le}
use mathlib.Core.Path.{◌≡◌}
use Rattle.image.specs.declared.kinds.PatKind.{PatKind}
use Rattle.fit_types.proofs.Asking.{node_at}
use Rattle.fit_types.proofs.Holding.{node_is, tuple_items, or_items, tuple_struct_items, record_pairs, bind_below, ref_below, slice_within}
use Rattle.fit_own.specs.Rows.{below_reached}
use Rattle.fit_own.proofs.Wording.{row_of}
use Rattle.fit_own.proofs.Stepping.{slice_items_lem}
use Rattle.fit_own.proofs.Nodes.{refused_here_lem, taken_here}
use Rattle.fit_own.proofs.Defaults.{none_below}
use Rattle.fit_reached.proofs.walk.+reach.Goals as goal
use Rattle.fit_reached.proofs.walk.+reach.Goals.{each-in-Sure, each-in-CanFail, pairs-in-Sure, pairs-in-CanFail}

-- at the turns of a loop over a range some are left
some_left : {end i : ℕ} → i < end → end - i ≡ 0 → ⊥
some_left h e = omega arith

-- The walk over patterns that the list names, over alternatives, and over a subpattern that may be absent. Assumes nothing.
pub alts-reached-requires : goal.alts-reached-requires
alts-reached-requires t c =
    let first = items_first _ _ _ (some_left c.loop-i-test.true) (items_left _ c.requires.1 c.loop-i.auto.i c.loop-i-test.true) c.list_at-q.ensures in
    (omega (arith, c.decreases), (c.requires.0.sound, c.requires.0.whole, omega (arith, c.requires.0.inside), c.requires.2))

pub alts-returns-in-Refused : goal.alts-returns-in-Refused
alts-returns-in-Refused t c = alts_refused _ _ _ _ (some_left c.loop-i-test.true) c.list_at-q.ensures c.reached.ensures c.in-Refused.is ∙ sym c.loop-i.invariant

pub alts-returns-in-Sure : goal.alts-returns-in-Sure
alts-returns-in-Sure t c = alts_sure _ _ _ _ (some_left c.loop-i-test.true) c.list_at-q.ensures c.reached.ensures c.in-Sure.is ∙ sym c.loop-i.invariant

pub alts-loop-i-preserved : goal.alts-loop-i-preserved
alts-loop-i-preserved t c = rw sub-add-eq (c.loop-i.invariant ∙ alts_fail _ _ _ _ (some_left c.loop-i-test.true) c.list_at-q.ensures c.reached.ensures c.in-CanFail.is)

pub alts-returns : goal.alts-returns
alts-returns t c = alts_end _ _ _ _ (sub-eq-zero_of_le c.loop-i-test.false) ∙ sym c.loop-i.invariant

pub each-reached-requires : goal.each-reached-requires
each-reached-requires t c =
    let first = items_first _ _ _ (some_left c.loop-i-test.true) (items_left _ c.requires.1 c.loop-i.auto.i c.loop-i-test.true) c.list_at-q.ensures in
    (omega (arith, c.decreases), (c.requires.0.sound, c.requires.0.whole, omega (arith, c.requires.0.inside), c.requires.2))

pub each-returns-in-Refused : goal.each-returns-in-Refused
each-returns-in-Refused t c = row_refused _ _ _ _ _ (some_left c.loop-i-test.true) c.list_at-q.ensures c.reached.ensures c.loop-i.fails c.in-Refused.is ∙ sym c.loop-i.invariant

pub each-loop-i-preserved : goal.each-loop-i-preserved
each-loop-i-preserved t c =
    elim c.match-reached.branch [
      | each-in-Sure w ↦ rw (w.fails-is, sub-add-eq) (c.loop-i.invariant ∙ ap (with_test c.loop-i.fails) (row_sure _ _ _ _ _ (some_left c.loop-i-test.true) c.list_at-q.ensures c.reached.ensures w.in-Sure.is))
      | each-in-CanFail w ↦ rw (w.fails-is, sub-add-eq) (c.loop-i.invariant ∙ row_fails _ _ _ _ _ (some_left c.loop-i-test.true) c.list_at-q.ensures c.reached.ensures c.loop-i.fails w.in-CanFail.is)
    ]

pub each-returns : goal.each-returns
each-returns t c = c.with_test.ensures ∙ row_end _ _ _ _ _ c.loop-i.fails (sub-eq-zero_of_le c.loop-i-test.false) ∙ sym c.loop-i.invariant

pub pairs-reached-requires : goal.pairs-reached-requires
pairs-reached-requires t c =
    let first = pairs_first _ _ _ (some_left c.loop-k-test.true) (pairs_left _ c.requires.1 c.loop-k-test.true) c.list_at-q.ensures in
    (omega (arith, c.decreases), (c.requires.0.sound, c.requires.0.whole, omega (arith, c.requires.0.inside), c.requires.2))

pub pairs-returns-in-Refused : goal.pairs-returns-in-Refused
pairs-returns-in-Refused t c = row_refused _ _ _ _ _ (some_left c.loop-k-test.true) c.list_at-q.ensures c.reached.ensures c.loop-k.fails c.in-Refused.is ∙ sym c.loop-k.invariant

pub pairs-loop-k-preserved : goal.pairs-loop-k-preserved
pairs-loop-k-preserved t c =
    let on : c.args.at + 2 * (c.loop-k.k + 1) + 1 ≡ c.args.at + 2 * c.loop-k.k + 1 + 2 = omega arith in
    elim c.match-reached.branch [
      | pairs-in-Sure w ↦ rw (w.fails-is, on, sub-add-eq) (c.loop-k.invariant ∙ ap (with_test c.loop-k.fails) (row_sure _ _ _ _ _ (some_left c.loop-k-test.true) c.list_at-q.ensures c.reached.ensures w.in-Sure.is))
      | pairs-in-CanFail w ↦ rw (w.fails-is, on, sub-add-eq) (c.loop-k.invariant ∙ row_fails _ _ _ _ _ (some_left c.loop-k-test.true) c.list_at-q.ensures c.reached.ensures c.loop-k.fails w.in-CanFail.is)
    ]

pub pairs-returns : goal.pairs-returns
pairs-returns t c = c.with_test.ensures ∙ row_end _ _ _ _ _ c.loop-k.fails (sub-eq-zero_of_le c.loop-k-test.false) ∙ sym c.loop-k.invariant

-- The walk over the patterns below a pattern, and over a pattern. Assumes nothing.
pub below-each-requires : goal.below-each-requires
below-each-requires t c = (omega (arith, c.decreases), (c.requires.0.parent, tuple_items (node_is PatKind.Tuple c.in-Tuple.is c.requires.0), c.requires.1))

pub below-alts-requires : goal.below-alts-requires
below-alts-requires t c = (omega (arith, c.decreases), (c.requires.0.parent, or_items (node_is PatKind.Or c.in-Or.is c.requires.0), c.requires.1))

pub below-pairs-requires : goal.below-pairs-requires
below-pairs-requires t c = (omega (arith, c.decreases), (c.requires.0.parent, record_pairs (node_is PatKind.Record c.in-Record.is c.requires.0), c.requires.1))

pub below-overflow_add-row : goal.below-overflow_add-row
below-overflow_add-row t c = omega (arith, slice_within (node_is PatKind.Slice c.in-Slice.is c.requires.0), c.requires.0.parent.whole.list_count_lem, c.well_formed.1.0)

pub below-each-requires-in-Slice : goal.below-each-requires-in-Slice
below-each-requires-in-Slice t c = (omega (arith, c.decreases), (c.requires.0.parent, slice_items_lem (node_is PatKind.Slice c.in-Slice.is c.requires.0), c.requires.1))

pub below-sub-requires : goal.below-sub-requires
below-sub-requires t c = (omega (arith, c.decreases), (c.requires.0.parent, bind_below (node_is PatKind.Bind c.in-Bind.is c.requires.0), c.requires.1))

pub below-each-requires-in-TupleStruct : goal.below-each-requires-in-TupleStruct
below-each-requires-in-TupleStruct t c = (omega (arith, c.decreases), (c.requires.0.parent, tuple_struct_items (node_is PatKind.TupleStruct c.in-TupleStruct.is c.requires.0), c.requires.1))

pub below-reached-requires : goal.below-reached-requires
below-reached-requires t c =
    let first = ref_below (node_is PatKind.Ref c.in-Ref.is c.requires.0) in
    (omega (arith, c.decreases), (c.requires.0.parent.sound, c.requires.0.parent.whole, omega (arith, c.requires.0.parent.inside), c.requires.1))

pub below-returns-in-Tuple : goal.below-returns-in-Tuple
unfolding below_reached
below-returns-in-Tuple t c = rw c.in-Tuple.is c.each.ensures

pub below-returns-in-Or : goal.below-returns-in-Or
unfolding below_reached
below-returns-in-Or t c = rw c.in-Or.is c.alts.ensures

pub below-returns-in-Record : goal.below-returns-in-Record
unfolding below_reached
below-returns-in-Record t c = rw c.in-Record.is c.pairs.ensures

pub below-returns-in-Slice : goal.below-returns-in-Slice
unfolding below_reached
below-returns-in-Slice t c = rw c.in-Slice.is c.each-in-Slice.ensures

pub below-returns-in-Bind : goal.below-returns-in-Bind
unfolding below_reached
below-returns-in-Bind t c = rw c.in-Bind.is c.sub.ensures

pub below-returns-in-TupleStruct : goal.below-returns-in-TupleStruct
unfolding below_reached
below-returns-in-TupleStruct t c = rw c.in-TupleStruct.is c.each-in-TupleStruct.ensures

pub below-returns-in-Ref : goal.below-returns-in-Ref
unfolding below_reached
below-returns-in-Ref t c = rw c.in-Ref.is c.reached.ensures

pub below-returns-in_default : goal.below-returns-in_default
below-returns-in_default t c = none_below _ _ _ _ (opened c.in_default.in_default-own.keys8)

pub reached-own_taken-requires : goal.reached-own_taken-requires
reached-own_taken-requires t c = (row_of (node_at c.requires.0 c.requires.1 c.requires.2 c.pat_at-row.ensures c.from-kind.ensures), c.requires.3)

pub reached-returns-then-not-own_taken : goal.reached-returns-then-not-own_taken
reached-returns-then-not-own_taken t c = refused_here_lem _ (node_at c.requires.0 c.requires.1 c.requires.2 c.pat_at-row.ensures c.from-kind.ensures) c.own_taken.ensures (c.if-not-own_taken.true)

pub reached-below-found-requires : goal.reached-below-found-requires
reached-below-found-requires t c = (omega (arith, c.decreases), ((node_at c.requires.0 c.requires.1 c.requires.2 c.pat_at-row.ensures c.from-kind.ensures), c.requires.3))

pub reached-own_test-requires : goal.reached-own_test-requires
reached-own_test-requires t c = row_of (node_at c.requires.0 c.requires.1 c.requires.2 c.pat_at-row.ensures c.from-kind.ensures)

pub reached-returns : goal.reached-returns
reached-returns t c = taken_here _ (node_at c.requires.0 c.requires.1 c.requires.2 c.pat_at-row.ensures c.from-kind.ensures) c.own_taken.ensures (c.if-not-own_taken.false) c.below-found.ensures c.own_test.ensures c.with_test.ensures

pub sub-returns-then-q-eq65535 : goal.sub-returns-then-q-eq65535
sub-returns-then-q-eq65535 t c = sub_absent _ _ _ c.if-q-eq65535.true

pub sub-reached-requires : goal.sub-reached-requires
sub-reached-requires t c =
    let first = present_below _ _ c.if-q-eq65535.false c.requires.1 in
    (omega (arith, c.decreases), (c.requires.0.sound, c.requires.0.whole, omega (arith, c.requires.0.inside), c.requires.2))

pub sub-returns : goal.sub-returns
sub-returns t c = c.reached.ensures ∙ sub_there _ _ _ c.if-q-eq65535.false
