-- The ways through resolving a rest and a field whose names the table has. Assumes nothing.
use Rattle.std.specs.Prelude.{Some}
use Prim.Native.Nat.{ℕ}
use mathlib.Core.Path.{◌≡◌, refl}
use mathlib.Core.Option.{Option, none, some}
use mathlib.Core.List.{List}
use native.Mathlib.Omega.{arith}
use Rattle.pattern_syntax.specs.Reduced.{bytes_from}
use Rattle.name_tables.specs.Names.{row_for, as_field_of}
use Rattle.pattern_typing.specs.Crossing.{variant_fields_of}
use Rattle.pattern_typing.specs.Contexts.{field_part}
use Rattle.pattern_typing.specs.Making.{BoundAt, field_made}
use Rattle.pattern_typing.specs.Resolving.{refused_here, resolved_to, Marked, field_name, resolved_field}
use Rattle.node_rows.specs.declared.NodeRow.{NodeRow}
use Rattle.node_rows.specs.Nodes.{name_in, node_of}
use Rattle.name_resolving.specs.Gives.{named_as}
use Rattle.name_resolving.proofs.Ways.{where_found}
use Rattle.part_resolving.specs.Parts.{rest_bound_to, field_row}
use Rattle.part_resolving.proofs.ByKind.{field_named}

-- a rest whose name the table has
pub rest_found : (table : List ℕ) (o : Option ℕ) {kind number : ℕ} (m : Marked) (t mode : ℕ) (at : BoundAt) → Some (kind, number) ≡ named_as table o → rest_bound_to o m t mode at ≡ refused_here m.called.at
unfolding named_as rest_bound_to
rest_found table none m t mode at e = absurd (let z : ◌≡◌ {A = ℕ} 0 1 = cc in omega arith)
rest_found table (some row) m t mode at e = refl

-- a field that the table has
pub field_found : (table sheet spelled text : List ℕ) (node : NodeRow) {key : NodeRow} {kind number : ℕ} (t v mode : ℕ) → key ≡ field_row node → Some (kind, number) ≡ named_as table (row_for table (as_field_of v) (bytes_from spelled key.from key.to)) → resolved_field sheet table (field_name (node_of text spelled node)) t v mode ≡ resolved_to (field_made number) (field_part (variant_fields_of sheet t v) mode number)
unfolding resolved_field name_in
field_found table sheet spelled text node {key} {kind} {number} t v mode k e =
    rw (field_named text spelled node, ← k) (where_found table (row_for table (as_field_of v) (bytes_from spelled key.from key.to)) (name_in spelled key) (λ i. resolved_to (field_made i) (field_part (variant_fields_of sheet t v) mode i)) e)
