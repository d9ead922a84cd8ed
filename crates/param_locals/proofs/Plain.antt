-- A plain parameter, whose binding has the parameter's own local. Assumes nothing.
use Prim.Native.Nat.{ℕ, ◌<◌}
use mathlib.Core.Path.{◌≡◌, refl, sym, ◌∙◌}
use mathlib.Core.Bool.{Bool, true, false, ◌&&◌}
use mathlib.Core.List.{List}
use borrow.Author.Tests.{eqb-true}
use lib.Dec.{eqb, ltb}
use lib.ListN.{set}
use Rattle.image.specs.declared.rows.PatRow.{PatRow}
use Rattle.image.specs.Rows.{pat_at}
use Rattle.image.specs.Tables.{pattern_count, binding_count}
use Rattle.image.specs.Tree.{tree}
use Rattle.image.specs.Valid.{valid}
use Rattle.image.proofs.Bools.{and_left}
use Rattle.pattern_nodes.proofs.There.{bind_there}
use Rattle.params_spec.specs.Params.{plain_binding, bound_to}
use Rattle.param_plain.specs.Plain.{is_plain}
use Rattle.param_plain.proofs.Plain.{row_plain}

-- `bind_plain`
module _ (image : List ℕ) (p : ℕ) (row : PatRow) (same : row ≡ pat_at image p) where
  -- it is plain
  pub plain_bound : {m : List ℕ} (m₀ : List ℕ) (l : ℕ) {r : Bool} → r ≡ is_plain row → r ≡ true → m ≡ set m₀ row.a l → m ≡ bound_to m₀ (plain_binding (tree image p)) l
  unfolding bound_to
  plain_bound m₀ l is t after = after ∙ rw (row_plain image p row same, sym is ∙ t) refl

  -- it is not
  pub plain_free : {m : List ℕ} (l : ℕ) {r : Bool} → r ≡ is_plain row → r ≡ false → m ≡ bound_to m (plain_binding (tree image p)) l
  unfolding bound_to
  plain_free l is f = rw (row_plain image p row same, sym is ∙ f) refl

  -- its binding is there
  pub plain_there : {r : Bool} → valid image ≡ true → p < pattern_count image → r ≡ is_plain row → r ≡ true → row.a < binding_count image
  unfolding is_plain
  plain_there v h is t =
      let kind = eqb row.kind 11 in
      let none = eqb row.b 65535 in
      let eleven = eqb-true row.kind 11 (and_left kind none (and_left (kind && none) (ltb row.d 2) (sym is ∙ t))) in
      (bind_there image p row v h same (rw eleven)).0
