-- What the rows below a count stand for, the last first. Assumes nothing.
use Prim.Native.Nat.{ℕ, zero, suc, ◌+◌, ◌<◌, ◌≤◌}
use mathlib.Core.Path.{◌≡◌, refl, sym, ap, ◌∙◌}
use mathlib.Core.Bool.{Bool, true, false, cond}
use mathlib.Core.List.{List, [], ◌∷◌, ◌++◌}
use native.Mathlib.Omega.{arith}
use lib.Dec.{eqb, ltb}
use lib.ListN.{length}
use borrow.Author.Tests.{eqb-true, eqb-false, lt-ltb, le-ltb}
use Rattle.pattern_syntax.specs.Written.{Node}
use Rattle.node_rows.specs.declared.NodeRow.{NodeRow}
use Rattle.node_rows.specs.Nodes.{node_row_at, node_of, closed_node_of, nodes_in}
use Rattle.parsing_machine.specs.Waiting.{node_kind}
use Rattle.parsing_machine.specs.Answers.{in_order}
use Rattle.node_tables.specs.Tables.{Puts, row_kind, rows_down}

-- in order they are the nodes
pub rows_in_order : (text names table : List ℕ) (n : ℕ) → in_order (rows_down text names table n) ≡ nodes_in text names table n
unfolding in_order rows_down nodes_in
rows_in_order text names table zero = refl
rows_in_order text names table (suc n) = ap (λ xs. xs ++ (closed_node_of text names (node_row_at table n) ∷ [])) (rows_in_order text names table n)

pub rows_long : (text names table : List ℕ) (n : ℕ) → length (rows_down text names table n) ≡ n
unfolding rows_down
rows_long text names table zero = refl
rows_long text names table (suc n) = ap suc (rows_long text names table n)

-- the rows below a row that is put
pub rows_below : {t : List ℕ} {i : ℕ} {row : NodeRow} {t' : List ℕ} → Puts t i row t' → (text names : List ℕ) (n : ℕ) → n ≤ i → rows_down text names t' n ≡ rows_down text names t n
unfolding rows_down
rows_below w text names zero h = refl
rows_below {t} {i} {row} {t'} w text names (suc n) h =
    ap (λ r. closed_node_of text names r ∷ rows_down text names t' n) (w.below n (omega (arith, h)))
    ∙ ap (λ xs. closed_node_of text names (node_row_at t n) ∷ xs) (rows_below w text names n (omega (arith, h)))

-- and with it
pub rows_put : {t : List ℕ} {i : ℕ} {row : NodeRow} {t' : List ℕ} → Puts t i row t' → (text names : List ℕ) → rows_down text names t' (suc i) ≡ closed_node_of text names row ∷ rows_down text names t i
unfolding rows_down
rows_put {t} {i} {row} {t'} w text names =
    ap (λ r. closed_node_of text names r ∷ rows_down text names t' i) w.here
    ∙ ap (λ xs. closed_node_of text names row ∷ xs) (rows_below w text names i (omega arith))

-- a row's kind is its node's
capped : ℕ → ℕ
capped kind = cond (ltb kind 14) kind 14

above : (n k : ℕ) → k ≤ n → (n ≡ k → ⊥) → suc k ≤ n
above n k h d = omega (arith, h, d)

pick :
    (kind k : ℕ) (x y : Node) → node_kind x ≡ k → k < 14 → k ≤ kind → (suc k ≤ kind → node_kind y ≡ capped kind) → node_kind (cond (eqb kind k) x y) ≡ capped kind
unfolding capped
pick kind k x y e l h next = by (eqb kind k) refl
  where
    by : (b : Bool) → eqb kind k ≡ b → node_kind (cond b x y) ≡ capped kind
    by true f = let g = eqb-true kind k f in e ∙ (sym g ∙ sym (ap (λ z. cond z kind 14) (lt-ltb kind 14 (omega (arith, g, l)))))
    by false f = next (above kind k h (eqb-false kind k f))

pub kind_same : (text names : List ℕ) (row : NodeRow) → node_kind (node_of text names row) ≡ row_kind row
unfolding node_of node_kind row_kind capped
kind_same text names row =
    pick row.kind 0 _ _ refl (omega arith) (omega arith) (λ h0.
    pick row.kind 1 _ _ refl (omega arith) (omega arith) (λ h1.
    pick row.kind 2 _ _ refl (omega arith) (omega arith) (λ h2.
    pick row.kind 3 _ _ refl (omega arith) (omega arith) (λ h3.
    pick row.kind 4 _ _ refl (omega arith) (omega arith) (λ h4.
    pick row.kind 5 _ _ refl (omega arith) (omega arith) (λ h5.
    pick row.kind 6 _ _ refl (omega arith) (omega arith) (λ h6.
    pick row.kind 7 _ _ refl (omega arith) (omega arith) (λ h7.
    pick row.kind 8 _ _ refl (omega arith) (omega arith) (λ h8.
    pick row.kind 9 _ _ refl (omega arith) (omega arith) (λ h9.
    pick row.kind 10 _ _ refl (omega arith) (omega arith) (λ h10.
    pick row.kind 11 _ _ refl (omega arith) (omega arith) (λ h11.
    pick row.kind 12 _ _ refl (omega arith) (omega arith) (λ h12.
    pick row.kind 13 _ _ refl (omega arith) (omega arith) (λ h13.
    sym (ap (λ z. cond z row.kind 14) (le-ltb row.kind 14 h13))))))))))))))))
