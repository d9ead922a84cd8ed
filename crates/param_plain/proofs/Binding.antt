-- Whether a parameter binds self again: a law for each way through the code. Assumes nothing.
use Prim.Native.Nat.{ℕ}
use mathlib.Core.Path.{◌≡◌, refl, sym, ◌∙◌}
use mathlib.Core.Bool.{Bool, true, false}
use mathlib.Core.List.{List}
use lib.Dec.{eqb}
use Rattle.image.specs.declared.rows.PatRow.{PatRow}
use Rattle.image.specs.Rows.{pat_at}
use Rattle.image.specs.Tree.{tree}
use Rattle.params_spec.specs.Params.{plain_binding}
use Rattle.params_spec.specs.Calls.{binds_receiver}
use Rattle.param_plain.specs.Plain.{is_plain}
use Rattle.param_plain.proofs.Plain.{row_plain}

-- `binds_receiver`
module _ (image : List ℕ) (b p : ℕ) (row : PatRow) (same : row ≡ pat_at image p) {r : Bool} (is : r ≡ is_plain row) where
  -- the parameter is no plain one
  pub not_plain : r ≡ false → false ≡ binds_receiver b (plain_binding (tree image p))
  unfolding binds_receiver
  not_plain f = rw (row_plain image p row same, sym is ∙ f) refl

  -- its binding decides
  pub plain_compared : r ≡ true → eqb row.a b ≡ binds_receiver b (plain_binding (tree image p))
  unfolding binds_receiver
  plain_compared t = rw (row_plain image p row same, sym is ∙ t) refl
