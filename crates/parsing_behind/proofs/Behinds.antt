-- A mark behind an alternative, on the tables as in the machine. Assumes nothing.
use Prim.Native.Nat.{ℕ, zero, suc, ◌≤◌}
use mathlib.Core.Path.{◌≡◌, refl, sym, ap, ◌∙◌}
use mathlib.Core.Bool.{true, false}
use mathlib.Core.List.{List, [], ◌∷◌}
use native.Mathlib.Omega.{arith}
use lib.Dec.{eqb}
use Rattle.pattern_grammar.specs.Lexemes.{end_mark, or_mark}
use Rattle.pattern_syntax.specs.Closing.{ClosedNode}
use Rattle.node_rows.specs.declared.NodeRow.{NodeRow}
use Rattle.node_rows.specs.Nodes.{node_row_at, node_of, closed_node_of}
use Rattle.parsing_machine.specs.declared.ReadState.TheVariants.{Expect}
use Rattle.parsing_machine.specs.Waiting.{opened, pushed, node_kind, innermost_kind, last_from, another_alt, last_alt}
use Rattle.parsing_machine.specs.Moves.{nothing_held}
use Rattle.parsing_machine.specs.Parser.{going_in, ended_in, behind_alt}
use Rattle.node_tables.specs.Tables.{Puts, row_kind, rows_down, opened_of}
use Rattle.node_tables.proofs.Downward.{rows_put, kind_same}
use Rattle.parsing_bounds.specs.Weights.{or_one}
use Rattle.parsing_moves.specs.Rows.{held_in}
use Rattle.parsing_steps.specs.declared.Heights.{Heights}
use Rattle.parsing_steps.specs.declared.ParseStep.{ParseStep}
use Rattle.parsing_steps.specs.declared.ParseStep.TheVariants.{Ended, Halted}
use Rattle.parsing_steps.specs.Stepping.{course_of, going_on, EndsInItem, EndsInField}
use Rattle.parsing_behind.specs.Behind.{or_row, InnermostIs, LastIs, AnotherWaits, EndsIn, StandsBehind}

pub top_none : (stack : List ℕ) (depth : ℕ) → depth ≡ 0 → InnermostIs stack depth 15
unfolding rows_down innermost_kind
top_none stack depth e = record { tells = λ text names. rw e refl }

pub top_some : (stack : List ℕ) (depth e k : ℕ) (f : NodeRow) → depth ≡ suc e → f ≡ node_row_at stack e → k ≡ row_kind f → InnermostIs stack depth k
unfolding rows_down innermost_kind closed_node_of
top_some stack depth e k f de fe ke = record {
  tells = λ text names. rw de (ke ∙ (ap row_kind fe ∙ sym (kind_same text names (node_row_at stack e))));
}

pub last_none : (nodes : List ℕ) (rows : ℕ) → rows ≡ 0 → LastIs nodes rows 0
unfolding rows_down last_from
last_none nodes rows e = record { tells = λ text names. rw e refl }

pub last_some : (nodes : List ℕ) (rows e at : ℕ) (w : NodeRow) → rows ≡ suc e → w ≡ node_row_at nodes e → at ≡ w.at → LastIs nodes rows at
unfolding rows_down last_from closed_node_of
last_some nodes rows e at w re we ae = record { tells = λ text names. rw re (ae ∙ ap (λ (x : NodeRow). x.at) we) }

pub waits_same : (stack nodes : List ℕ) (depth rows k : ℕ) → InnermostIs stack depth k → eqb k 14 ≡ true → AnotherWaits stack nodes depth rows stack (record { depth = depth; rows = rows })
unfolding opened_of another_alt
waits_same stack nodes depth rows k t e = record { shows = λ text names. rw (sym (t.tells text names), e) }

pub waits_new :
    (stack nodes after : List ℕ) (depth rows d k at : ℕ) (g : NodeRow) → InnermostIs stack depth k → eqb k 14 ≡ false → LastIs nodes rows at → g ≡ or_row at → Puts stack depth g after → d ≡ suc depth
    → AnotherWaits stack nodes depth rows after (record { depth = d; rows = rows })
unfolding opened_of another_alt pushed closed_node_of node_of
waits_new stack nodes after depth rows d k at g t e l ge w de = record {
  shows = λ text names.
      rw (sym (t.tells text names), e, sym (l.tells text names))
      (ap (λ x. opened (rows_down text names after x) (rows_down text names nodes rows)) de
      ∙ (ap (λ x. opened x (rows_down text names nodes rows)) (rows_put w text names)
      ∙ ap (λ x. opened (closed_node_of text names x ∷ rows_down text names stack depth) (rows_down text names nodes rows)) ge));
}

pub ends_whole : (stack nodes : List ℕ) (depth rows m at : ℕ) → depth ≡ 0 → eqb m end_mark ≡ true → EndsIn stack nodes depth rows m at stack nodes (Ended rows)
unfolding course_of ended_in rows_down
ends_whole stack nodes depth rows m at e f = record { shows = λ text names. rw (e, f) }

pub ends_not : (stack nodes : List ℕ) (depth rows m at : ℕ) → depth ≡ 0 → eqb m end_mark ≡ false → EndsIn stack nodes depth rows m at stack nodes (Halted at)
unfolding course_of ended_in rows_down
ends_not stack nodes depth rows m at e f = record { shows = λ text names. rw (e, f) }

pub ends_field :
    {stack nodes : List ℕ} {depth rows m at : ℕ} {stack' nodes' : List ℕ} {r : ParseStep} (e k : ℕ) (f : NodeRow) → depth ≡ suc e → f ≡ node_row_at stack e → k ≡ row_kind f → eqb k 13 ≡ true
    → EndsInField stack nodes e rows f m at stack' nodes' r → EndsIn stack nodes depth rows m at stack' nodes' r
unfolding ended_in rows_down closed_node_of
ends_field {stack} {nodes} {depth} {rows} {m} {at} e k f de fe ke o w = record {
  shows = λ text names.
      rw (de, sym fe, ap (λ x. eqb x 13) (kind_same text names f ∙ sym ke) ∙ o) (w.shows text names);
}

pub ends_item :
    {stack nodes : List ℕ} {depth rows m at : ℕ} {stack' nodes' : List ℕ} {r : ParseStep} (e k : ℕ) (f : NodeRow) → depth ≡ suc e → f ≡ node_row_at stack e → k ≡ row_kind f → eqb k 13 ≡ false
    → EndsInItem stack nodes e rows f m at stack' nodes' r → EndsIn stack nodes depth rows m at stack' nodes' r
unfolding ended_in rows_down closed_node_of
ends_item {stack} {nodes} {depth} {rows} {m} {at} e k f de fe ke o w = record {
  shows = λ text names.
      rw (de, sym fe, ap (λ x. eqb x 13) (kind_same text names f ∙ sym ke) ∙ o) (w.shows text names);
}

pub behind_or_lem :
    {stack nodes : List ℕ} {depth rows : ℕ} {stack' : List ℕ} {h : Heights} (m at : ℕ) (r : ParseStep) → eqb m or_mark ≡ true → AnotherWaits stack nodes depth rows stack' h → r ≡ going_on Expect h
    → StandsBehind stack nodes depth rows m at stack' nodes r
unfolding course_of held_in behind_alt
behind_or_lem m at r e w re = record { shows = λ text names. rw (e, re) (ap (going_in Expect nothing_held) (w.shows text names)) }

last_same : (text names stack nodes : List ℕ) (depth rows k : ℕ) → InnermostIs stack depth k → eqb k 14 ≡ false → last_alt (rows_down text names stack depth) (rows_down text names nodes rows) ≡ opened (rows_down text names stack depth) (rows_down text names nodes rows)
unfolding last_alt innermost_kind
last_same text names stack nodes depth rows k t e = by (rows_down text names stack depth) (ap (λ x. eqb x 14) (sym (t.tells text names)) ∙ e)
  where
    by : (ws : List ClosedNode) → eqb (innermost_kind ws) 14 ≡ false → last_alt ws (rows_down text names nodes rows) ≡ opened ws (rows_down text names nodes rows)
    by [] h = refl
    by (f ∷ fs) h = rw h refl

pub behind_ends :
    {stack nodes : List ℕ} {depth rows m at : ℕ} {stack' nodes' : List ℕ} {r : ParseStep} (k : ℕ) → eqb m or_mark ≡ false → InnermostIs stack depth k → eqb k 14 ≡ false
    → EndsIn stack nodes depth rows m at stack' nodes' r → StandsBehind stack nodes depth rows m at stack' nodes' r
unfolding behind_alt opened_of
behind_ends {stack} {nodes} {depth} {rows} {m} {at} k e t o w = record {
  shows = λ text names. rw (e, last_same text names stack nodes depth rows k t o) (w.shows text names);
}

pub some_waits : {stack : List ℕ} {k : ℕ} (depth : ℕ) → InnermostIs stack depth k → k ≡ 14 → 1 ≤ depth
unfolding rows_down innermost_kind
some_waits zero t e = let h = t.tells [] [] in omega (arith, h, e)
some_waits (suc d) t e = omega arith

pub or_one_lem : (m : ℕ) → m ≡ 2 → or_one m ≡ 1
unfolding or_one
or_one_lem m e = rw e refl

or_first :
    (text names stack nodes : List ℕ) (rows e : ℕ) (f : NodeRow) → eqb (node_kind (closed_node_of text names f).is) 14 ≡ true
    → last_alt (closed_node_of text names f ∷ rows_down text names stack e) (rows_down text names nodes rows) ≡ opened (rows_down text names stack e) (closed_node_of text names f ∷ rows_down text names nodes rows)
unfolding last_alt
or_first text names stack nodes rows e f h = rw h refl

last_or :
    (text names stack nodes : List ℕ) (depth rows e k : ℕ) (f : NodeRow) → InnermostIs stack depth k → eqb k 14 ≡ true → depth ≡ suc e → f ≡ node_row_at stack e
    → last_alt (rows_down text names stack depth) (rows_down text names nodes rows) ≡ opened (rows_down text names stack e) (closed_node_of text names f ∷ rows_down text names nodes rows)
unfolding last_alt innermost_kind rows_down
last_or text names stack nodes depth rows e k f t o de fe =
    let h : eqb (innermost_kind (rows_down text names stack depth)) 14 ≡ true = ap (λ x. eqb x 14) (sym (t.tells text names)) ∙ o in
    rw (de, sym fe) (or_first text names stack nodes rows e f (rw (de, sym fe) at h))

pub behind_shuts :
    {stack nodes middle : List ℕ} {depth rows n m at : ℕ} {stack' nodes' : List ℕ} {r : ParseStep} (e k : ℕ) (f : NodeRow) → eqb m or_mark ≡ false → InnermostIs stack depth k → eqb k 14 ≡ true
    → depth ≡ suc e → f ≡ node_row_at stack e → Puts nodes rows f middle → n ≡ suc rows → EndsIn stack middle e n m at stack' nodes' r → StandsBehind stack nodes depth rows m at stack' nodes' r
unfolding behind_alt opened_of
behind_shuts {stack} {nodes} {middle} {depth} {rows} {n} {m} {at} e k f c t o de fe w ne s = record {
  shows = λ text names.
      rw (c, last_or text names stack nodes depth rows e k f t o de fe)
      (s.shows text names
      ∙ (ap (λ x. ended_in m at (rows_down text names stack e) (rows_down text names middle x)) ne
      ∙ ap (ended_in m at (rows_down text names stack e)) (rows_put w text names)));
}
