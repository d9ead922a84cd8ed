-- Names with `@` and references close one after another. Assumes nothing.
use Prim.Native.Nat.{ℕ, suc, ◌+◌, ◌-◌, ◌<◌, ◌≤◌}
use mathlib.Core.Path.{◌≡◌, refl, sym, ap, ◌∙◌}
use mathlib.Core.Bool.{Bool, true, false, ◌||◌}
use mathlib.Core.List.{List, [], ◌∷◌}
use native.Mathlib.Omega.{arith}
use lib.Dec.{eqb}
use Rattle.pattern_syntax.specs.Closing.{ClosedNode}
use Rattle.node_rows.specs.declared.NodeRow.{NodeRow}
use Rattle.node_rows.specs.Nodes.{node_row_at, node_of, name_in, closed_node_of}
use Rattle.parsing_machine.specs.Waiting.{node_kind, part_more, begun_last, settle}
use Rattle.node_tables.specs.Tables.{Puts, rows_down}
use Rattle.node_tables.proofs.Downward.{rows_put, kind_same}
use Rattle.parsing_steps.specs.Settling.{passes_by, grown_row, begun_row, PartsMost, passes_first, GoesOn, BeginsLast}

-- what the loop keeps
pub record Passing (stack nodes : List ℕ) (depth rows : ℕ) (after : List ℕ) (d n : ℕ) : Type 0 where
  pub goes : GoesOn stack nodes depth rows after d n
  pub total : d + n ≡ depth + rows
  pub shallow : d ≤ depth

-- by the kinds of nodes
node_passes : (text names : List ℕ) (row : NodeRow) (b : Bool) → passes_by row ≡ b → (eqb (node_kind (node_of text names row)) 7 || eqb (node_kind (node_of text names row)) 8) ≡ b
node_passes text names row b e = rw (kind_same text names row) e

settle_passes :
    (f : ClosedNode) (fs cs : List ClosedNode) → (eqb (node_kind f.is) 7 || eqb (node_kind f.is) 8) ≡ true → settle (f ∷ fs) cs ≡ settle fs (part_more f ∷ cs)
unfolding settle
settle_passes f fs cs e = rw e refl

pub grown_node : (text names : List ℕ) (row : NodeRow) → closed_node_of text names (grown_row row) ≡ part_more (closed_node_of text names row)
unfolding closed_node_of node_of name_in part_more
grown_node text names row = refl

-- one passes
pub passes_one :
    {stack nodes : List ℕ} {depth rows : ℕ} {now after : List ℕ} {d n : ℕ} {f g : NodeRow} (e k : ℕ)
    → Passing stack nodes depth rows now d n → d ≡ suc e → k ≡ suc n → f ≡ node_row_at stack e → passes_by f ≡ true → g ≡ grown_row f → Puts now n g after
    → Passing stack nodes depth rows after e k
unfolding rows_down closed_node_of
passes_one {stack} {nodes} {depth} {rows} {now} {after} {d} {n} {f} {g} e k inv de kn fe p ge w = record {
  goes = λ text names.
      ap (λ x. settle (rows_down text names stack e) (rows_down text names after x)) kn
      ∙ (ap (settle (rows_down text names stack e)) (rows_put w text names)
      ∙ (ap (λ x. settle (rows_down text names stack e) (closed_node_of text names x ∷ rows_down text names now n)) ge
      ∙ (ap (λ x. settle (rows_down text names stack e) (x ∷ rows_down text names now n)) (grown_node text names f)
      ∙ (ap (λ x. settle (rows_down text names stack e) (part_more (closed_node_of text names x) ∷ rows_down text names now n)) fe
      ∙ (sym (settle_passes (closed_node_of text names (node_row_at stack e)) (rows_down text names stack e) (rows_down text names now n)
      (node_passes text names (node_row_at stack e) true (ap passes_by (sym fe) ∙ p)))
      ∙ (ap (λ x. settle (rows_down text names stack x) (rows_down text names now n)) (sym de)
      ∙ inv.goes text names))))));
  total = let t = inv.total in omega (arith, t, de, kn);
  shallow = let s = inv.shallow in omega (arith, s, de);
}

-- another does not
pub passes_none :
    (stack : List ℕ) (d e : ℕ) (f : NodeRow) → d ≡ suc e → f ≡ node_row_at stack e → passes_by f ≡ false
    → (text names : List ℕ) → passes_first (rows_down text names stack d) ≡ false
unfolding rows_down passes_first closed_node_of
passes_none stack d e f de fe p text names = rw de (node_passes text names (node_row_at stack e) false (ap passes_by (sym fe) ∙ p))

pub passes_nothing : (stack : List ℕ) (d : ℕ) → d ≡ 0 → (text names : List ℕ) → passes_first (rows_down text names stack d) ≡ false
unfolding rows_down passes_first
passes_nothing stack d e text names = rw e refl

-- the last node begins at another byte
pub begins_none : (nodes : List ℕ) (rows at : ℕ) → rows ≡ 0 → BeginsLast nodes rows at nodes
unfolding rows_down begun_last
begins_none nodes rows at e text names = rw e refl

pub begins_there :
    (nodes after : List ℕ) (rows e at : ℕ) (w g : NodeRow) → rows ≡ suc e → w ≡ node_row_at nodes e → g ≡ begun_row at w → Puts nodes e g after → BeginsLast nodes rows at after
unfolding rows_down begun_last closed_node_of node_of name_in
begins_there nodes after rows e at w g re we ge p text names =
    ap (rows_down text names after) re
    ∙ (rows_put p text names
    ∙ (ap (λ x. closed_node_of text names x ∷ rows_down text names nodes e) ge
    ∙ (ap (λ x. closed_node_of text names (begun_row at x) ∷ rows_down text names nodes e) we
    ∙ ap (λ x. begun_last at (rows_down text names nodes x)) (sym re))))

pub zero_of : {n : ℕ} → n ≤ 0 → n ≡ 0
zero_of h = omega (arith, h)

-- a part more of what waits fits in its word
pub parts_fit_lem : {stack : List ℕ} {depth : ℕ} {f : NodeRow} (i : ℕ) → PartsMost 60001 stack depth → i < depth → f ≡ node_row_at stack i → f.parts < 65535
parts_fit_lem i w l e = let p = w.fit i l in let q = ap (λ (r : NodeRow). r.parts) e in omega (arith, p, q)
