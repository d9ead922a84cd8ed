-- A rest that is bound, and a field's own name. Assumes nothing: these are definitions.
use Rattle.std.specs.Prelude.{ℕ, Bool, true, false, cond, eqb}
use Rattle.std.proofs.Math.Option.{Option, none, some}
use Rattle.pattern_typing.specs.Making.{BoundAt}
use Rattle.pattern_typing.specs.Contexts.{same_parts}
use Rattle.pattern_typing.specs.Resolving.{Resolved, Marked, refused_here, resolved_to, binding_made}
use Rattle.node_rows.specs.declared.NodeRow.{NodeRow}

-- a rest that is bound, unless its name is a variant or a constant
unfoldable pub rest_bound_to : Option ℕ → Marked → ℕ → ℕ → BoundAt → Resolved
rest_bound_to none m t mode at = resolved_to (binding_made m t mode at) (same_parts t mode)
rest_bound_to (some row) m t mode at = refused_here m.called.at

-- a bound that is a path, a path, an ident, a tuple struct, a record or a field has a name
unfoldable pub has_name : ℕ → Bool
has_name kind =
    cond (eqb kind 0) false
    (cond (eqb kind 1) false
    (cond (eqb kind 2) false
    (cond (eqb kind 3) false
    (cond (eqb kind 4) true
    (cond (eqb kind 5) false
    (cond (eqb kind 6) true
    (cond (eqb kind 7) true
    (cond (eqb kind 8) false
    (cond (eqb kind 9) false
    (cond (eqb kind 10) true
    (cond (eqb kind 11) false
    (cond (eqb kind 12) true
    (cond (eqb kind 13) true
    false)))))))))))))

abbrev pub without_name : NodeRow → NodeRow
without_name node = record { kind = node.kind; at = node.at; parts = node.parts; more = node.more; spot = 0; from = 0; to = 0 }

-- a node with its own name, and with none where it has none
unfoldable pub field_row : NodeRow → NodeRow
field_row node = cond (has_name node.kind) node (without_name node)
