-- A plain parameter, by its row. Assumes nothing.
use Prim.Native.Nat.{ℕ, zero, suc, ◌≤◌}
use mathlib.Core.Path.{◌≡◌, refl, sym, ◌∙◌}
use mathlib.Core.Bool.{Bool, true, false, cond, ◌&&◌}
use mathlib.Core.Option.{none, some}
use mathlib.Core.List.{List}
use native.Mathlib.Omega.{arith}
use borrow.Author.Tests.{le-ltb, ne_eqb}
use lib.Dec.{eqb, ltb}
use Rattle.image.specs.declared.kinds.PatKind.{PatKind}
use Rattle.image.specs.declared.kinds.BindingAnnotation.{BindingAnnotation}
use Rattle.image.specs.declared.rows.PatRow.{PatRow}
use Rattle.image.specs.Kinds.{pat_kind, binding_annotation}
use Rattle.image.specs.Rows.{pat_at}
use Rattle.image.specs.Rules.{absent}
use Rattle.image.specs.Tree.{Head, Pat, no, sub, tree?, node_by, node, tree_of, tree}
use Rattle.pattern_parts.specs.Parts.{is_bind}
use Rattle.params_spec.specs.Params.{by_value, plain_bind, plain_binding}
use Rattle.param_plain.specs.Plain.{is_plain}

-- no number past the last is a Bind's
past : (n : ℕ) → 17 ≤ n → false ≡ eqb n 11
past n h = sym (ne_eqb n 11 (λ e. omega arith))

-- a Bind's number is 11
pub bind_number : (n : ℕ) → is_bind (pat_kind n) ≡ eqb n 11
unfolding is_bind
bind_number zero = refl
bind_number (suc zero) = refl
bind_number (suc (suc zero)) = refl
bind_number (suc (suc (suc zero))) = refl
bind_number (suc (suc (suc (suc zero)))) = refl
bind_number (suc (suc (suc (suc (suc zero))))) = refl
bind_number (suc (suc (suc (suc (suc (suc zero)))))) = refl
bind_number (suc (suc (suc (suc (suc (suc (suc zero))))))) = refl
bind_number (suc (suc (suc (suc (suc (suc (suc (suc zero)))))))) = refl
bind_number (suc (suc (suc (suc (suc (suc (suc (suc (suc zero))))))))) = refl
bind_number (suc (suc (suc (suc (suc (suc (suc (suc (suc (suc zero)))))))))) = refl
bind_number (suc (suc (suc (suc (suc (suc (suc (suc (suc (suc (suc zero))))))))))) = refl
bind_number (suc (suc (suc (suc (suc (suc (suc (suc (suc (suc (suc (suc zero)))))))))))) = refl
bind_number (suc (suc (suc (suc (suc (suc (suc (suc (suc (suc (suc (suc (suc zero))))))))))))) = refl
bind_number (suc (suc (suc (suc (suc (suc (suc (suc (suc (suc (suc (suc (suc (suc zero)))))))))))))) = refl
bind_number (suc (suc (suc (suc (suc (suc (suc (suc (suc (suc (suc (suc (suc (suc (suc zero))))))))))))))) = refl
bind_number (suc (suc (suc (suc (suc (suc (suc (suc (suc (suc (suc (suc (suc (suc (suc (suc zero)))))))))))))))) = refl
bind_number (suc (suc (suc (suc (suc (suc (suc (suc (suc (suc (suc (suc (suc (suc (suc (suc (suc n))))))))))))))))) = past (suc (suc (suc (suc (suc (suc (suc (suc (suc (suc (suc (suc (suc (suc (suc (suc (suc n))))))))))))))))) (omega arith)

-- annotation 0 or 1
value_number : (d : ℕ) → by_value (binding_annotation d) ≡ ltb d 2
unfolding by_value
value_number zero = refl
value_number (suc zero) = refl
value_number (suc (suc zero)) = refl
value_number (suc (suc (suc d))) = sym (le-ltb (suc (suc (suc d))) 2 (omega arith))

-- what a node is as a parameter
node_plain : (k : PatKind) (g : ℕ → Pat) (image : List ℕ) (h : Head) (row : PatRow) →
    plain_binding (node_by k g image h row) ≡ cond (is_bind k) (plain_bind row.a (tree? g row.b) (binding_annotation row.d)) none
unfolding plain_binding node_by is_bind
node_plain PatKind.Missing g image h row = refl
node_plain PatKind.Rest g image h row = refl
node_plain PatKind.NotNull g image h row = refl
node_plain PatKind.Wild g image h row = refl
node_plain PatKind.Tuple g image h row = refl
node_plain PatKind.Or g image h row = refl
node_plain PatKind.Record g image h row = refl
node_plain PatKind.Range g image h row = refl
node_plain PatKind.Slice g image h row = refl
node_plain PatKind.Path g image h row = refl
node_plain PatKind.Lit g image h row = refl
node_plain PatKind.Bind g image h row = refl
node_plain PatKind.TupleStruct g image h row = refl
node_plain PatKind.Ref g image h row = refl
node_plain PatKind.Expr g image h row = refl
node_plain PatKind.Box g image h row = refl
node_plain PatKind.Deref g image h row = refl
node_plain PatKind.Unknown g image h row = refl

-- a Bind with no subpattern, or with one
bind_plain : (g : ℕ → Pat) (b q : ℕ) (annotation : BindingAnnotation) → plain_bind b (tree? g q) annotation ≡ cond (eqb q absent) (cond (by_value annotation) (some b) none) none
unfolding tree? plain_bind
bind_plain g b q annotation = by (eqb q absent)
  where
    by : (t : Bool) → plain_bind b (cond t no (sub (g q))) annotation ≡ cond t (cond (by_value annotation) (some b) none) none
    by true = refl
    by false = refl

-- three tests as one
three : (x y z : Bool) (b : ℕ) → cond x (cond y (cond z (some b) none) none) none ≡ cond (x && y && z) (some b) none
three true true z b = refl
three true false z b = refl
three false y z b = refl

-- the binding of a parameter, by its row
pub row_plain : (image : List ℕ) (p : ℕ) (row : PatRow) → row ≡ pat_at image p → plain_binding (tree image p) ≡ cond (is_plain row) (some row.a) none
unfolding tree tree_of node is_plain
row_plain image p row same =
    rw (← same)
    (node_plain (pat_kind row.kind) (tree_of p image) image (record { number = p; ty = row.ty; derefs = row.derefs }) row
    ∙ rw (bind_number row.kind, bind_plain (tree_of p image) row.a row.b (binding_annotation row.d), value_number row.d)
    (three (eqb row.kind 11) (eqb row.b absent) (ltb row.d 2) row.a))
