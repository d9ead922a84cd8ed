-- What waits innermost is a leading `|`, an Or, or stays as it is, when an alternative has closed. Assumes nothing.
use Prim.Native.Nat.{ℕ, suc, ◌-◌, ◌<◌, ◌≤◌}
use mathlib.Core.Path.{◌≡◌, refl, sym, ap, ◌∙◌}
use mathlib.Core.Bool.{Bool, true, false}
use mathlib.Core.Logic.{◌⊎◌, inl, inr}
use mathlib.Core.List.{List, [], ◌∷◌}
use native.Mathlib.Omega.{arith}
use lib.Dec.{eqb, ltb}
use borrow.Author.Tests.{ltb-true, ltb-false}
use Rattle.pattern_syntax.specs.Closing.{ClosedNode}
use Rattle.node_rows.specs.declared.NodeRow.{NodeRow}
use Rattle.node_rows.specs.Nodes.{node_row_at, closed_node_of}
use Rattle.parsing_machine.specs.Waiting.{opened, node_kind, part_more, begun_last, settle}
use Rattle.node_tables.specs.Tables.{Puts, row_kind, rows_down, opened_of}
use Rattle.node_tables.proofs.Downward.{rows_put, kind_same}
use Rattle.parsing_steps.specs.declared.Heights.{Heights}
use Rattle.parsing_steps.specs.Settling.{grown_row, PartsMost, passes_first, Passes, BeginsLast, SettlesLast, Settles, Shuts}
use Rattle.parsing_steps.proofs.Passing.{grown_node}

innermost_or : List ClosedNode → Bool
innermost_or [] = false
innermost_or (f ∷ fs) = eqb (node_kind f.is) 14

-- what is no name with `@`, no reference and no Or stays
stays : (fs cs : List ClosedNode) → passes_first fs ≡ false → innermost_or fs ≡ false → settle fs cs ≡ opened fs cs
unfolding settle passes_first innermost_or
stays [] cs p o = refl
stays (f ∷ fs) cs p o = rw p (rw o refl)

bar : (f : ClosedNode) (fs cs : List ClosedNode) → passes_first (f ∷ fs) ≡ false → eqb (node_kind f.is) 14 ≡ true → eqb f.parts 0 ≡ true → settle (f ∷ fs) cs ≡ opened fs (begun_last f.from cs)
unfolding settle passes_first
bar f fs cs p o z = rw p (rw o (rw z refl))

or_more : (f : ClosedNode) (fs cs : List ClosedNode) → passes_first (f ∷ fs) ≡ false → eqb (node_kind f.is) 14 ≡ true → eqb f.parts 0 ≡ false → settle (f ∷ fs) cs ≡ opened (part_more f ∷ fs) cs
unfolding settle passes_first
or_more f fs cs p o z = rw p (rw o (rw z refl))

-- no more parts than before
pub same_parts_lem : (stack : List ℕ) (depth d : ℕ) → d ≤ depth → (most : ℕ) → PartsMost most stack depth → PartsMost (suc most) stack d
same_parts_lem stack depth d h most w = record { fit = λ i l. let p = w.fit i (omega (arith, l, h)) in omega (arith, p) }

-- below, or the last
pub split : (i e : ℕ) → i ≤ e → (i < e) ⊎ (i ≡ e)
split i e h = cut (ltb i e) refl
  where
    cut : (b : Bool) → ltb i e ≡ b → (i < e) ⊎ (i ≡ e)
    cut true x = inl (ltb-true i e x)
    cut false x = inr (let y = ltb-false i e x in omega (arith, y, h))

grown_parts :
    (stack after : List ℕ) (depth e : ℕ) (f g : NodeRow) → depth ≡ suc e → f ≡ node_row_at stack e → g ≡ grown_row f → Puts stack e g after
    → (most : ℕ) → PartsMost most stack depth → PartsMost (suc most) after depth
grown_parts stack after depth e f g de fe ge w most m = record { fit = λ i l. by i (split i e (omega (arith, l, de))) }
  where
    by : (i : ℕ) → (i < e) ⊎ (i ≡ e) → (node_row_at after i).parts ≤ suc most
    by i (inl l) = let p = m.fit i (omega (arith, l, de)) in let q = ap (λ (r : NodeRow). r.parts) (w.below i l) in omega (arith, p, q)
    by i (inr s) =
        let p = m.fit e (omega (arith, de)) in
        let q = ap (λ (r : NodeRow). r.parts) w.here in
        let u = ap (λ (r : NodeRow). r.parts) ge in
        let v = ap (λ (r : NodeRow). r.parts) fe in
        let t = ap (λ x. (node_row_at after x).parts) s in
        omega (arith, p, q, u, v, t)

-- the ways of the code
pub last_empty : (stack nodes : List ℕ) (depth rows : ℕ) → depth ≡ 0 → SettlesLast stack nodes depth rows stack nodes (record { depth = depth; rows = rows })
unfolding opened_of rows_down settle
last_empty stack nodes depth rows e = record {
  shows = λ text names p. rw e refl;
  total = omega arith;
  raises = same_parts_lem stack depth depth (omega arith);
}

pub last_stays :
    (stack nodes : List ℕ) (depth rows e k : ℕ) (f : NodeRow) → depth ≡ suc e → f ≡ node_row_at stack e → k ≡ row_kind f → eqb k 14 ≡ false
    → SettlesLast stack nodes depth rows stack nodes (record { depth = depth; rows = rows })
unfolding opened_of rows_down innermost_or closed_node_of
last_stays stack nodes depth rows e k f de fe ke o = record {
  shows = λ text names p. sym (stays (rows_down text names stack depth) (rows_down text names nodes rows) p
      (rw de (ap (λ x. eqb x 14) (kind_same text names (node_row_at stack e) ∙ (ap row_kind (sym fe) ∙ sym ke)) ∙ o)));
  total = omega arith;
  raises = same_parts_lem stack depth depth (omega arith);
}

pub last_bar :
    (stack nodes after : List ℕ) (depth rows e k : ℕ) (f : NodeRow) → depth ≡ suc e → f ≡ node_row_at stack e → k ≡ row_kind f → eqb k 14 ≡ true → eqb f.parts 0 ≡ true
    → BeginsLast nodes rows f.at after → SettlesLast stack nodes depth rows stack after (record { depth = e; rows = rows })
unfolding opened_of rows_down closed_node_of
last_bar stack nodes after depth rows e k f de fe ke o z b = record {
  shows = λ text names p.
      ap (opened (rows_down text names stack e)) (b text names)
      ∙ (ap (λ x. opened (rows_down text names stack e) (begun_last x.at (rows_down text names nodes rows))) fe
      ∙ (sym (bar (closed_node_of text names (node_row_at stack e)) (rows_down text names stack e) (rows_down text names nodes rows)
      (ap (λ x. passes_first (rows_down text names stack x)) (sym de) ∙ p)
      (ap (λ x. eqb x 14) (kind_same text names (node_row_at stack e) ∙ (ap row_kind (sym fe) ∙ sym ke)) ∙ o)
      (ap (λ (x : NodeRow). eqb x.parts 0) (sym fe) ∙ z))
      ∙ ap (λ x. settle (rows_down text names stack x) (rows_down text names nodes rows)) (sym de)));
  total = omega (arith, de);
  raises = same_parts_lem stack depth e (omega (arith, de));
}

pub last_or :
    (stack nodes after : List ℕ) (depth rows e k : ℕ) (f g : NodeRow) → depth ≡ suc e → f ≡ node_row_at stack e → k ≡ row_kind f → eqb k 14 ≡ true → eqb f.parts 0 ≡ false
    → g ≡ grown_row f → Puts stack e g after → SettlesLast stack nodes depth rows after nodes (record { depth = depth; rows = rows })
unfolding opened_of rows_down closed_node_of
last_or stack nodes after depth rows e k f g de fe ke o z ge w = record {
  shows = λ text names p.
      ap (λ x. opened (rows_down text names after x) (rows_down text names nodes rows)) de
      ∙ (ap (λ x. opened x (rows_down text names nodes rows)) (rows_put w text names ∙ (ap (λ x. closed_node_of text names x ∷ rows_down text names stack e) ge ∙ (ap (λ x. x ∷ rows_down text names stack e) (grown_node text names f) ∙ ap (λ x. part_more (closed_node_of text names x) ∷ rows_down text names stack e) fe)))
      ∙ (sym (or_more (closed_node_of text names (node_row_at stack e)) (rows_down text names stack e) (rows_down text names nodes rows)
      (ap (λ x. passes_first (rows_down text names stack x)) (sym de) ∙ p)
      (ap (λ x. eqb x 14) (kind_same text names (node_row_at stack e) ∙ (ap row_kind (sym fe) ∙ sym ke)) ∙ o)
      (ap (λ (x : NodeRow). eqb x.parts 0) (sym fe) ∙ z))
      ∙ ap (λ x. settle (rows_down text names stack x) (rows_down text names nodes rows)) (sym de)));
  total = omega arith;
  raises = grown_parts stack after depth e f g de fe ge w;
}

-- first those that pass, then the last
pub settles :
    {stack nodes : List ℕ} {depth rows : ℕ} {middle : List ℕ} {h : Heights} {stack' nodes' : List ℕ} {r : Heights}
    → Passes stack nodes depth rows middle h → SettlesLast stack middle h.depth h.rows stack' nodes' r → Settles stack nodes depth rows stack' nodes' r
settles {stack} p l = record {
  shows = λ text names. l.shows text names (p.rests text names) ∙ p.goes text names;
  total = let a = p.total in let b = l.total in omega (arith, a, b);
  raises = λ most w. l.raises most (record { fit = λ i k. w.fit i (let s = p.shallow in omega (arith, k, s)) });
}

pub fewer : {most : ℕ} {stack : List ℕ} {depth d : ℕ} → PartsMost most stack depth → d ≤ depth → PartsMost most stack d
fewer w h = record { fit = λ i l. w.fit i (omega (arith, l, h)) }

-- a node is put, and what waits for it settles
pub shuts :
    {stack nodes middle : List ℕ} {below rows n : ℕ} {w : NodeRow} {stack' nodes' : List ℕ} {r : Heights}
    → Puts nodes rows w middle → n ≡ suc rows → Settles stack middle below n stack' nodes' r → Shuts stack nodes below rows w stack' nodes' r
shuts {stack} {nodes} {middle} {below} {rows} p e s = record {
  shows = λ text names.
      s.shows text names
      ∙ (ap (λ x. settle (rows_down text names stack below) (rows_down text names middle x)) e
      ∙ ap (settle (rows_down text names stack below)) (rows_put p text names));
  total = let t = s.total in omega (arith, t, e);
  raises = s.raises;
}
