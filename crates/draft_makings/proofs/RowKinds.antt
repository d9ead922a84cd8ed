-- What a row of each kind stands for, and which kinds go by the text or the names. Assumes nothing.
use Prim.Native.Nat.{ℕ, zero, suc, ◌+◌, ◌-◌, ◌≤◌, ◌<◌}
use mathlib.Core.Path.{◌≡◌, refl, sym, ◌∙◌}
use mathlib.Core.Bool.{false}
use mathlib.Core.List.{List}
use native.Mathlib.Omega.{arith}
use borrow.Author.Tests.{ne_eqb}
use lib.Dec.{eqb}
use Rattle.pattern_syntax.specs.Reduced.{bytes_from}
use Rattle.pattern_typing.specs.Making.{not_made, row_made, literal_made, operand_made, operand_named, range_made, bind_made, reference_made, list_made, slice_made, field_made, pattern_row}
use Rattle.node_rows.specs.declared.MakingRow.{MakingRow}
use Rattle.node_rows.specs.Nodes.{literal_in, number_in}
use Rattle.node_rows.specs.Makings.{making_of, bound_at_in}

module _ (text names : List ℕ) (row : MakingRow) where
  pub kind_none : row.kind ≡ 0 → making_of text names row ≡ not_made
  unfolding making_of
  kind_none e = rw e

  pub kind_row : row.kind ≡ 1 → making_of text names row ≡ row_made (pattern_row row.a row.ty row.derefs row.b row.c 0 0)
  unfolding making_of
  kind_row e = rw e

  pub kind_literal : row.kind ≡ 2 → making_of text names row ≡ literal_made row.ty row.derefs (literal_in text row.a row.from row.to)
  unfolding making_of
  kind_literal e = rw e

  pub kind_operand : row.kind ≡ 3 → making_of text names row ≡ operand_made (literal_in text row.a row.from row.to)
  unfolding making_of
  kind_operand e = rw e

  pub kind_constant : row.kind ≡ 4 → making_of text names row ≡ operand_named row.a
  unfolding making_of
  kind_constant e = rw e

  pub kind_range : row.kind ≡ 5 → making_of text names row ≡ range_made row.ty row.derefs (eqb row.a 1) (eqb row.b 1) (eqb row.c 1)
  unfolding making_of
  kind_range e = rw e

  pub kind_bind : row.kind ≡ 6 → making_of text names row ≡ bind_made row.ty row.a row.b (bytes_from names row.from row.to) (bound_at_in row)
  unfolding making_of
  kind_bind e = rw e

  pub kind_reference : row.kind ≡ 7 → making_of text names row ≡ reference_made row.ty
  unfolding making_of
  kind_reference e = rw e

  pub kind_list : row.kind ≡ 8 → making_of text names row ≡ list_made (pattern_row row.a row.ty row.derefs 0 0 row.b row.c)
  unfolding making_of
  kind_list e = rw e

  pub kind_slice : row.kind ≡ 9 → making_of text names row ≡ slice_made row.ty row.derefs (number_in row.a)
  unfolding making_of
  kind_slice e = rw e

  -- every other kind
  pub kind_field : 9 < row.kind → making_of text names row ≡ field_made row.a
  unfolding making_of
  kind_field h =
      rw (other 0 (omega arith), other 1 (omega arith), other 2 (omega arith), other 3 (omega arith), other 4 (omega arith), other 5 (omega arith), other 6 (omega arith), other 7 (omega arith), other 8 (omega arith), other 9 (omega arith))
    where
      other : (k : ℕ) → k < 10 → eqb row.kind k ≡ false
      other k low = ne_eqb row.kind k (λ (e : row.kind ≡ k). omega (arith, h, low, e))

-- kinds 0 to 4 do not go by the names
pub leaf_same : (text names others : List ℕ) (row : MakingRow) → row.kind < 5 → making_of text names row ≡ making_of text others row
leaf_same text names others row h = go row.kind refl
  where
    go : (k : ℕ) → row.kind ≡ k → making_of text names row ≡ making_of text others row
    go zero e = kind_none text names row e ∙ sym (kind_none text others row e)
    go (suc zero) e = kind_row text names row e ∙ sym (kind_row text others row e)
    go (suc (suc zero)) e = kind_literal text names row e ∙ sym (kind_literal text others row e)
    go (suc (suc (suc zero))) e = kind_operand text names row e ∙ sym (kind_operand text others row e)
    go (suc (suc (suc (suc zero)))) e = kind_constant text names row e ∙ sym (kind_constant text others row e)
    go (suc (suc (suc (suc (suc k))))) e = absurd (omega (arith, e))

-- kinds 5 to 7 do not go by the text
pub node_same : (text others names : List ℕ) (row : MakingRow) → 5 ≤ row.kind → row.kind < 8 → making_of text names row ≡ making_of others names row
node_same text others names row low high = go (row.kind - 5) (omega arith)
  where
    go : (k : ℕ) → row.kind ≡ 5 + k → making_of text names row ≡ making_of others names row
    go zero e = kind_range text names row e ∙ sym (kind_range others names row e)
    go (suc zero) e = kind_bind text names row e ∙ sym (kind_bind others names row e)
    go (suc (suc zero)) e = kind_reference text names row e ∙ sym (kind_reference others names row e)
    go (suc (suc (suc k))) e = absurd (omega (arith, e))

-- kinds from 8 on go by neither
pub joined_same : (text others names spelled : List ℕ) (row : MakingRow) → 8 ≤ row.kind → making_of text names row ≡ making_of others spelled row
joined_same text others names spelled row low = go (row.kind - 8) (omega arith)
  where
    go : (k : ℕ) → row.kind ≡ 8 + k → making_of text names row ≡ making_of others spelled row
    go zero e = kind_list text names row e ∙ sym (kind_list others spelled row e)
    go (suc zero) e = kind_slice text names row e ∙ sym (kind_slice others spelled row e)
    go (suc (suc k)) e = let h : 9 < row.kind = omega (arith, e) in kind_field text names row h ∙ sym (kind_field others spelled row h)
