-- What waits has few parts on the stack where it has in the machine. Assumes nothing.
use Prim.Native.Nat.{ℕ, zero, suc, ◌<◌, ◌≤◌}
use mathlib.Core.Path.{◌≡◌, ap}
use mathlib.Core.Logic.{◌⊎◌, inl, inr}
use mathlib.Core.List.{List}
use native.Mathlib.Omega.{arith}
use Rattle.node_rows.specs.Nodes.{node_row_at, closed_node_of}
use Rattle.node_tables.specs.Tables.{rows_down}
use Rattle.parsing_bounds.specs.Parts.{PartsWithin}
use Rattle.parsing_bounds.proofs.Parts.{first_within, others_within}
use Rattle.parsing_steps.specs.Settling.{PartsMost}
use Rattle.parsing_steps.proofs.Lasting.{split}

pub parts_most : (text names stack : List ℕ) (most depth : ℕ) → PartsWithin most (rows_down text names stack depth) → PartsMost most stack depth
unfolding rows_down closed_node_of
parts_most text names stack most zero w = record { fit = λ i l. let z : 1 ≤ 0 = omega (arith, l) in omega (arith, z) }
parts_most text names stack most (suc d) w = record { fit = λ i l. by (parts_most text names stack most d (others_within w)) i (split i d (omega (arith, l))) }
  where
    by : PartsMost most stack d → (i : ℕ) → (i < d) ⊎ (i ≡ d) → (node_row_at stack i).parts ≤ most
    by p i (inl l) = p.fit i l
    by p i (inr e) = let h = first_within w in let g = ap (λ x. (node_row_at stack x).parts) e in omega (arith, h, g)

-- fewer parts are so many at most
pub parts_up : {few most : ℕ} {stack : List ℕ} {depth : ℕ} → few ≤ most → PartsMost few stack depth → PartsMost most stack depth
parts_up h w = record { fit = λ i l. let p = w.fit i l in omega (arith, p, h) }
