use Prim.Native.Nat.{◌+◌, ◌*◌, ◌-◌}
use mathlib.Core.Path.{◌≡◌}
use mathlib.Core.List.{map}
use Rattle.image.specs.Rules.{listed}
use Rattle.image.specs.Tree.{word?}
use Rattle.meaning.specs.Fit.{by_fields_fit, items_all_fit, each_fits}
use Rattle.fit_shapes.specs.Numbers.{type_number}
use Rattle.fit_types.specs.Parts.{fitting_at}
use Rattle.fit_types.proofs.walk.+fit.Given as goal

abbrev pub decreases-each_fits : goal.decreases-each_fits
decreases-each_fits l = 5 * l.p.0 + 0

abbrev pub decreases-fields_fit : goal.decreases-fields_fit
decreases-fields_fit l = 5 * l.p.0 + 0

abbrev pub decreases-items_all_fit : goal.decreases-items_all_fit
decreases-items_all_fit l = 5 * l.p.0 + 0

abbrev pub decreases-parts_fit : goal.decreases-parts_fit
decreases-parts_fit l = 5 * l.p.0 + 3

abbrev pub decreases-record_fits : goal.decreases-record_fits
decreases-record_fits l = 5 * l.p.0 + 2

abbrev pub decreases-row_fits : goal.decreases-row_fits
decreases-row_fits l = 5 * l.p.0 + 1

abbrev pub decreases-slice_fits : goal.decreases-slice_fits
decreases-slice_fits l = 5 * l.p.0 + 2

abbrev pub decreases-sub_fits : goal.decreases-sub_fits
decreases-sub_fits l = 5 * l.p.0 + 0

abbrev pub decreases-tuple_struct_fits : goal.decreases-tuple_struct_fits
decreases-tuple_struct_fits l = 5 * l.p.0 + 2

abbrev pub decreases-types_fit : goal.decreases-types_fit
decreases-types_fit l = 5 * l.p.0 + 4

abbrev pub invariant-each_fits-loop-k : goal.invariant-each_fits-loop-k
invariant-each_fits-loop-k l = each_fits (fitting_at l.image 1 l.at l.count) (listed l.image 1 l.types l.count) ≡ each_fits (fitting_at l.image 1 (l.at + l.k) (l.count - l.k)) (listed l.image 1 (l.types + l.k) (l.count - l.k))

abbrev pub invariant-fields_fit-loop-k : goal.invariant-fields_fit-loop-k
invariant-fields_fit-loop-k l = by_fields_fit (map word? (listed l.image 2 l.at l.count)) (fitting_at l.image 2 (l.at + 1) l.count) (listed l.image 1 l.fields.from l.fields.count) ≡ by_fields_fit (map word? (listed l.image 2 (l.at + 2 * l.k) (l.count - l.k))) (fitting_at l.image 2 (l.at + 2 * l.k + 1) (l.count - l.k)) (listed l.image 1 l.fields.from l.fields.count)

abbrev pub invariant-items_all_fit-loop-i : goal.invariant-items_all_fit-loop-i
invariant-items_all_fit-loop-i l = items_all_fit (fitting_at l.image 1 l.at l.count) (type_number l.place) ≡ items_all_fit (fitting_at l.image 1 l.i (l.at + l.count - l.i)) (type_number l.place)
