use Prim.Native.Nat.{ℕ}
use mathlib.Core.Path.{sym, ◌∙◌}
use native.Mathlib.Omega.{arith}
use borrow.Author.Rules.{rules}
use Rattle.image.specs.Tree.{tree}
use Rattle.pattern_matching.specs.Patterns.{pattern_match_inner}
use Rattle.pattern_walk_laws.proofs.Asking.{walkable_after, walkable_sure, asks_visit}
use Rattle.pattern_walk_laws.proofs.Trying.{alternative_stops, alternative_tested, alternative_again}
use Rattle.pattern_idle.proofs.Idling.{idle_walks}
use Rattle.pattern_alternatives.proofs.Again.{again_ends}
use Prim.Native.Nat.{◌-◌}
use Rattle.body_tables.specs.Layout.{body_of}
use Rattle.pattern_nodes.proofs.Each.{item_below, item_lies, items_few}
use Rattle.pattern_walk_laws.proofs.Asking.{walkable_after, walkable_sure, walkable_block, asks_word, asks_goto}
use Rattle.pattern_walk_laws.proofs.Alternatives.{alternatives_over, alternatives_stop, alternatives_sure, AlternativesGoing, alternatives_begin, alternatives_again, or_full, or_goes}
use mathlib.Core.Path.{refl, sym, ◌∙◌}
use Prim.Native.Nat.{◌-◌, ◌<◌}
use Rattle.image.specs.Tables.{pattern_count}
use Rattle.pattern_nodes.proofs.Each.{argument_lies, argument_at}
use Rattle.pattern_entering.proofs.Visiting.{project_goes}
use Rattle.pattern_walk_laws.proofs.Asking.{walkable_at, asks_visit}
use Rattle.pattern_walk_laws.proofs.Looking.{projected_reaches}
use Rattle.pattern_walk_laws.proofs.Arguments.{arguments_end, argument_full, argument_stops, no_room, some_room, room_taken, argument_fits, ArgumentsGoing, arguments_begin, arguments_again}
use Rattle.pattern_nodes.proofs.Each.{subpattern_there}
use Rattle.pattern_walk_laws.proofs.Asking.{walkable_after, asks_bind}
use Rattle.pattern_walk_laws.proofs.References.{bind_alone, bind_stops, bind_then}
use mathlib.Core.Path.{sym, ap, ap₂, ◌∙◌}
use borrow.Author.Tests.{not-true, not-false}
use Rattle.pattern_nodes.specs.Leaves.{is_leaf}
use Rattle.pattern_nodes.proofs.Known.{row_typed, row_shape}
use Rattle.pattern_walk_laws.proofs.Asking.{walkable_at, asks_row, asks_type}
use Rattle.pattern_walk_laws.proofs.Descending.{entered_there, entered_walkable, entered_leaf}
use Rattle.pattern_rows.specs.Rows.{compound_kind}
use Rattle.pattern_nodes.proofs.Branches.{tuple_kind, or_kind, slice_kind, bind_kind, ref_kind}
use Rattle.pattern_nodes.proofs.There.{tuple_there, or_there, slice_there, bind_there, ref_there, names_variant}
use Rattle.pattern_nodes.proofs.Each.{variant_there}
use Rattle.pattern_walk_laws.proofs.Entering.{kind_no_tuple, kind_tuple, kind_or, kind_slice, kind_bind, kind_ref, kind_variant}
use Rattle.pattern_walk_laws.proofs.References.{ref_refused, ref_stops, ref_goes}
use Rattle.pattern_walk_laws.proofs.Variants.{variant_none, variant_some}
use Prim.Native.Nat.{ℕ, ◌+◌, ◌*◌, ◌<◌}
use mathlib.Core.Path.{refl}
use Prim.Native.Nat.{◌+◌}
use Rattle.pattern_nodes.proofs.Each.{back_lies, back_few}
use Rattle.pattern_walk_laws.proofs.Asking.{walkable_after, walkable_behind, asks_rest}
use Rattle.pattern_walk_laws.proofs.Slices.{slice_behind_stops, slice_behind_then, slice_behind_none, slice_items_stop, slice_items_then, slice_stops, slice_then}
use Rattle.pattern_nodes.proofs.Each.{items_few, fields_there_lem, last_fields_there}
use Rattle.pattern_walk_laws.proofs.Asking.{walkable_after}
use Rattle.pattern_walk_laws.proofs.Variants.{tuple_like_stops, tuple_like_first, tuple_like_then, tuple_like_none_behind}
use mathlib.Core.Path.{ap, ◌∙◌}
use Rattle.image.specs.declared.rows.VariantRow.{VariantRow}
use Rattle.pattern_parts.proofs.Needed.{variant_count_lem}
use Rattle.pattern_walk_laws.proofs.Asking.{walkable_behind, walkable_at, asks_type, asks_variant}
use Rattle.pattern_walk_laws.proofs.Variants.{variant_refused, variant_struct, variant_enum, enum_refused, enum_full, enum_fields}
use Rattle.pattern_nodes.proofs.Each.{record_fields_lem}
use Rattle.pattern_walk_laws.proofs.Variants.{fields_unit, fields_tuple, fields_absent, fields_record}
use Rattle.pattern_walk.proofs.+walk.Given as goal

abbrev pub decreases-adt::pattern_match_adt : goal.decreases-adt::pattern_match_adt
decreases-adt::pattern_match_adt l = 16 * l.p.0 + 1

abbrev pub decreases-adt::pattern_match_tuple_like : goal.decreases-adt::pattern_match_tuple_like
decreases-adt::pattern_match_tuple_like l = 16 * l.p.0 + 2

abbrev pub decreases-adt::pattern_matching_variant : goal.decreases-adt::pattern_matching_variant
decreases-adt::pattern_matching_variant l = 16 * l.p.0 + 4

abbrev pub decreases-pattern_match_inner : goal.decreases-pattern_match_inner
decreases-pattern_match_inner l = 16 * l.p.0 + 6

abbrev pub decreases-pattern_matching_variant_fields : goal.decreases-pattern_matching_variant_fields
decreases-pattern_matching_variant_fields l = 16 * l.p.0 + 3

abbrev pub decreases-sub::alt : goal.decreases-sub::alt
decreases-sub::alt l = 16 * l.q.0 + 7

abbrev pub decreases-sub::alts : goal.decreases-sub::alts
decreases-sub::alts l = 16 * l.p.0 + 1

abbrev pub decreases-sub::bound : goal.decreases-sub::bound
decreases-sub::bound l = 16 * l.p.0 + 1

abbrev pub decreases-sub::slice : goal.decreases-sub::slice
decreases-sub::slice l = 16 * l.p.0 + 2

abbrev pub invariant-adt::pattern_match_adt-loop-i : goal.invariant-adt::pattern_match_adt-loop-i
invariant-adt::pattern_match_adt-loop-i l = ArgumentsGoing l.row l.image l.tables l.bindings l.p l.from l.fields l.count l.mode l.place l.initial.c l.initial.here l.initial.other (body_of l.initial.body) l.initial.visits l.c l.here l.other (body_of l.body) l.visits l.i

abbrev pub invariant-sub::alts-loop-i : goal.invariant-sub::alts-loop-i
invariant-sub::alts-loop-i l = AlternativesGoing l.image l.tables l.bindings l.p l.from l.count l.mode l.join l.els l.place l.initial.c l.initial.here (body_of l.initial.body) l.initial.visits l.c l.here (body_of l.body) l.visits l.i
