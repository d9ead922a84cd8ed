-- Whether the local of a parameter's binding is the parameter's own, by the ways through the code. Assumes nothing.
use Rattle.std.specs.Prelude.{Ok, Err}
use Prim.Native.Nat.{ℕ, ◌<◌}
use mathlib.Core.Path.{◌≡◌, refl, sym, ap, ◌∙◌}
use mathlib.Core.Bool.{true, false, cond}
use mathlib.Core.List.{List}
use borrow.Author.Tests.{eq-eqb, ne_eqb}
use lib.Dec.{eqb}
use Rattle.refusals.specs.declared.MirLowerError.{MirLowerError}
use Rattle.refusals.specs.Refusals.{done, stopped}
use Rattle.image.specs.declared.kinds.PatKind.{PatKind}
use Rattle.image.specs.declared.rows.PatRow.{PatRow}
use Rattle.image.specs.Kinds.{pat_kind}
use Rattle.image.specs.Rows.{pat_at}
use Rattle.image.specs.Tables.{pattern_count, binding_count}
use Rattle.image.specs.Tree.{Head, Pat, node_by, node, tree_of, tree}
use Rattle.image.specs.Valid.{valid}
use Rattle.place.specs.declared.LocalId.{LocalId}
use Rattle.lower_spec.specs.Temps.{binding_local}
use Rattle.pattern_matching.specs.Walking.{Out, Walk, step}
use Rattle.pattern_parts.specs.Parts.{is_bind}
use Rattle.pattern_nodes.proofs.There.{bind_there}
use Rattle.params_spec.specs.Params.{unless_bound, unless_own}
use Rattle.param_plain.proofs.Plain.{bind_number}
use Rattle.param_owning.specs.Results.{Owned}
use Rattle.param_owning.specs.Owning.{TellsBinding, TellsParam}

-- `binding_owned`
module _ (bindings : List ℕ) (b l : ℕ) where
  -- the binding has no local
  pub binding_refused : {e : MirLowerError} → stopped e ≡ binding_local bindings b → TellsBinding bindings b l (Err e)
  unfolding unless_bound
  binding_refused h = record { tells = λ p bound other. ap (λ r. step p r (λ m. cond (eqb l m.0) bound other)) h }

  module _ {m : LocalId} (h : done m ≡ binding_local bindings b) where
    -- its local is l
    pub binding_own : l ≡ m.0 → TellsBinding bindings b l (Ok true)
    unfolding unless_bound
    binding_own same = record { tells = λ p bound other. rw (← h, eq-eqb l m.0 same) }

    -- it has another
    pub binding_other : (l ≡ m.0 → ⊥) → TellsBinding bindings b l (Ok false)
    unfolding unless_bound
    binding_other differs = record { tells = λ p bound other. rw (← h, ne_eqb l m.0 differs) }

-- what a node is as a parameter whose local is l
node_own : (k : PatKind) (g : ℕ → Pat) (image : List ℕ) (h : Head) (row : PatRow) (bindings : List ℕ) (l : ℕ) (bound other : Walk Out) →
    unless_own bindings (node_by k g image h row) l bound other ≡ cond (is_bind k) (unless_bound bindings h.number row.a l bound other) other
unfolding unless_own node_by is_bind
node_own PatKind.Missing g image h row bindings l bound other = refl
node_own PatKind.Rest g image h row bindings l bound other = refl
node_own PatKind.NotNull g image h row bindings l bound other = refl
node_own PatKind.Wild g image h row bindings l bound other = refl
node_own PatKind.Tuple g image h row bindings l bound other = refl
node_own PatKind.Or g image h row bindings l bound other = refl
node_own PatKind.Record g image h row bindings l bound other = refl
node_own PatKind.Range g image h row bindings l bound other = refl
node_own PatKind.Slice g image h row bindings l bound other = refl
node_own PatKind.Path g image h row bindings l bound other = refl
node_own PatKind.Lit g image h row bindings l bound other = refl
node_own PatKind.Bind g image h row bindings l bound other = refl
node_own PatKind.TupleStruct g image h row bindings l bound other = refl
node_own PatKind.Ref g image h row bindings l bound other = refl
node_own PatKind.Expr g image h row bindings l bound other = refl
node_own PatKind.Box g image h row bindings l bound other = refl
node_own PatKind.Deref g image h row bindings l bound other = refl
node_own PatKind.Unknown g image h row bindings l bound other = refl

-- `param_owned`
module _ (image bindings : List ℕ) (p l : ℕ) (row : PatRow) (same : row ≡ pat_at image p) where
  -- by its row
  row_own : (bound other : Walk Out) → unless_own bindings (tree image p) l bound other ≡ cond (eqb row.kind 11) (unless_bound bindings p row.a l bound other) other
  unfolding tree tree_of node
  row_own bound other =
      rw (← same)
      (node_own (pat_kind row.kind) (tree_of p image) image (record { number = p; ty = row.ty; derefs = row.derefs }) row bindings l bound other ∙ rw (bind_number row.kind))

  -- it is no Bind
  pub param_other : (row.kind ≡ 11 → ⊥) → TellsParam image bindings p l (Ok false)
  param_other differs = record { tells = λ bound other. sym (row_own bound other ∙ rw (ne_eqb row.kind 11 differs)) }

  module _ (eleven : row.kind ≡ 11) where
    -- its binding is there
    pub param_binding : valid image ≡ true → p < pattern_count image → row.a < binding_count image
    param_binding v h = (bind_there image p row v h same (rw eleven)).0

    -- it goes by its binding
    pub param_bound : {r : Owned} → TellsBinding bindings row.a l r → TellsParam image bindings p l r
    param_bound T = record { tells = λ bound other. T.tells p bound other ∙ sym (row_own bound other ∙ rw (eq-eqb row.kind 11 eleven)) }
