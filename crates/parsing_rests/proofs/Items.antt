-- A rest on the tables as in the machine. Assumes nothing.
use Prim.Native.Nat.{ℕ, suc, ◌<◌}
use mathlib.Core.Path.{◌≡◌, refl, sym, ap, ◌∙◌}
use mathlib.Core.Bool.{Bool, true, false, ◌&&◌}
use mathlib.Core.List.{List, ◌∷◌}
use native.Mathlib.Omega.{arith}
use lib.Dec.{eqb}
use Rattle.pattern_grammar.specs.Lexemes.{comma_mark, or_mark}
use Rattle.pattern_syntax.specs.Written.{rest_node}
use Rattle.pattern_syntax.specs.Closing.{ClosedNode, closed_node}
use Rattle.node_rows.specs.declared.NodeRow.{NodeRow}
use Rattle.node_rows.specs.Nodes.{node_row_at, node_of, closed_node_of}
use Rattle.parsing_machine.specs.declared.ReadState.TheVariants.{Begin, AtAlt}
use Rattle.parsing_machine.specs.Waiting.{opened, node_kind, closes, part_more, settle, with_rest, rest_fits}
use Rattle.parsing_machine.specs.Moves.{nothing_held}
use Rattle.parsing_machine.specs.Parser.{halted_at, going_in, alt_read, rest_item, rest_in, rest_read}
use Rattle.node_tables.specs.Tables.{Puts, row_kind, rows_down, opened_of}
use Rattle.node_tables.proofs.Downward.{rows_put, kind_same}
use Rattle.parsing_moves.specs.Rows.{held_in}
use Rattle.parsing_steps.specs.declared.Heights.{Heights}
use Rattle.parsing_steps.specs.declared.ParseStep.{ParseStep}
use Rattle.parsing_steps.specs.declared.ParseStep.TheVariants.{Halted}
use Rattle.parsing_steps.specs.Settling.{grown_row, Shuts}
use Rattle.parsing_steps.specs.Stepping.{course_of, going_on}
use Rattle.parsing_steps.proofs.Enders.{rows_grown, kinds_close}
use Rattle.rest_rows.specs.Rested.{rested_row, rest_row, FitsRest}
use Rattle.parsing_rests.specs.Resting.{RestsItem, NotesRest, RestsIn, RestsRead}
use Rattle.rest_rows.proofs.Lists.{rested_node}

-- what waits, by its innermost row
pub rows_first :
    (text names stack : List ℕ) (depth e : ℕ) (f : NodeRow) → depth ≡ suc e → f ≡ node_row_at stack e
    → rows_down text names stack depth ≡ closed_node_of text names f ∷ rows_down text names stack e
unfolding rows_down
rows_first text names stack depth e f de fe = ap (rows_down text names stack) de ∙ ap (λ x. closed_node_of text names x ∷ rows_down text names stack e) (sym fe)

-- in the machine
item_comma : (m at : ℕ) (f : ClosedNode) (fs cs : List ClosedNode) → eqb m comma_mark ≡ true → rest_item m at (f ∷ fs) cs ≡ going_in Begin nothing_held (opened (with_rest f ∷ fs) cs)
unfolding rest_item
item_comma m at f fs cs c = rw c refl

item_closes : (m at : ℕ) (f : ClosedNode) (fs cs : List ClosedNode) → eqb m comma_mark ≡ false → closes (node_kind f.is) m ≡ true → rest_item m at (f ∷ fs) cs ≡ alt_read (settle fs (with_rest f ∷ cs))
unfolding rest_item
item_closes m at f fs cs c e = rw (c, e) refl

item_halts : (m at : ℕ) (f : ClosedNode) (fs cs : List ClosedNode) → eqb m comma_mark ≡ false → closes (node_kind f.is) m ≡ false → rest_item m at (f ∷ fs) cs ≡ halted_at at
unfolding rest_item
item_halts m at f fs cs c e = rw (c, e) refl

-- a mark behind a list's rest: the ways of the code
pub rests_none : (stack nodes : List ℕ) (depth rows m at : ℕ) → depth ≡ 0 → RestsItem stack nodes depth rows m at stack nodes (Halted at)
unfolding course_of rest_item rows_down
rests_none stack nodes depth rows m at e = record { shows = λ text names. rw e refl }

pub rests_next :
    (stack nodes after : List ℕ) (depth rows e m at : ℕ) (f g : NodeRow) (r : ParseStep) → depth ≡ suc e → f ≡ node_row_at stack e → f.parts < 65535 → eqb m comma_mark ≡ true → g ≡ rested_row f
    → Puts stack e g after → r ≡ going_on Begin (record { depth = depth; rows = rows }) → RestsItem stack nodes depth rows m at after nodes r
unfolding course_of held_in opened_of
rests_next stack nodes after depth rows e m at f g r de fe fit c ge w re = record {
  shows = λ text names.
      ap (course_of text names after nodes) re
      ∙ (ap (λ ws. going_in Begin nothing_held (opened ws (rows_down text names nodes rows)))
      (ap (rows_down text names after) de
      ∙ (rows_put w text names
      ∙ (ap (λ x. closed_node_of text names x ∷ rows_down text names stack e) ge
      ∙ ap (λ x. x ∷ rows_down text names stack e) (rested_node text names f fit))))
      ∙ sym (ap (λ ws. rest_item m at ws (rows_down text names nodes rows)) (rows_first text names stack depth e f de fe)
      ∙ item_comma m at (closed_node_of text names f) (rows_down text names stack e) (rows_down text names nodes rows) c));
}

pub rests_last :
    {stack nodes : List ℕ} {rows : ℕ} {stack' nodes' : List ℕ} {h : Heights} (depth e m at k : ℕ) (f g : NodeRow) (r : ParseStep) → depth ≡ suc e → f ≡ node_row_at stack e → f.parts < 65535
    → eqb m comma_mark ≡ false → k ≡ row_kind f → closes k m ≡ true → g ≡ rested_row f → Shuts stack nodes e rows g stack' nodes' h → r ≡ going_on AtAlt h
    → RestsItem stack nodes depth rows m at stack' nodes' r
unfolding course_of held_in
rests_last {stack} {nodes} {rows} {stack'} {nodes'} depth e m at k f g r de fe fit c ke cl ge s re = record {
  shows = λ text names.
      ap (course_of text names stack' nodes') re
      ∙ (ap alt_read (s.shows text names
      ∙ (ap (λ x. settle (rows_down text names stack e) (closed_node_of text names x ∷ rows_down text names nodes rows)) ge
      ∙ ap (λ x. settle (rows_down text names stack e) (x ∷ rows_down text names nodes rows)) (rested_node text names f fit)))
      ∙ sym (ap (λ ws. rest_item m at ws (rows_down text names nodes rows)) (rows_first text names stack depth e f de fe)
      ∙ item_closes m at (closed_node_of text names f) (rows_down text names stack e) (rows_down text names nodes rows) c (kinds_close text names f k m true ke cl)));
}

pub rests_not :
    (stack nodes : List ℕ) (depth rows e m at k : ℕ) (f : NodeRow) → depth ≡ suc e → f ≡ node_row_at stack e → eqb m comma_mark ≡ false → k ≡ row_kind f → closes k m ≡ false
    → RestsItem stack nodes depth rows m at stack nodes (Halted at)
unfolding course_of
rests_not stack nodes depth rows e m at k f de fe c ke cl = record {
  shows = λ text names.
      sym (ap (λ ws. rest_item m at ws (rows_down text names nodes rows)) (rows_first text names stack depth e f de fe)
      ∙ item_halts m at (closed_node_of text names f) (rows_down text names stack e) (rows_down text names nodes rows) c (kinds_close text names f k m false ke cl));
}

-- a rest's node
rest_node_lem : (text names : List ℕ) (dots : ℕ) → closed_node_of text names (rest_row dots) ≡ closed_node dots rest_node 0
unfolding closed_node_of node_of
rest_node_lem text names dots = refl

in_name :
    (dots m at : ℕ) (f : ClosedNode) (fs cs : List ClosedNode) → eqb (node_kind f.is) 7 ≡ true → rest_in dots m at (f ∷ fs) cs ≡ rest_item m at fs (part_more f ∷ closed_node dots rest_node 0 ∷ cs)
unfolding rest_in
in_name dots m at f fs cs e = rw e refl

in_slice_lem :
    (dots m at : ℕ) (f : ClosedNode) (fs cs : List ClosedNode) → eqb (node_kind f.is) 7 ≡ false → eqb (node_kind f.is) 11 ≡ true → rest_in dots m at (f ∷ fs) cs ≡ rest_item m at (f ∷ fs) (closed_node dots rest_node 0 ∷ cs)
unfolding rest_in
in_slice_lem dots m at f fs cs e o = rw (e, o) refl

in_tuple :
    (dots m at : ℕ) (f : ClosedNode) (fs cs : List ClosedNode) → eqb (node_kind f.is) 7 ≡ false → eqb (node_kind f.is) 11 ≡ false → rest_in dots m at (f ∷ fs) cs ≡ rest_item m at (f ∷ fs) cs
unfolding rest_in
in_tuple dots m at f fs cs e o = rw (e, o) refl

-- the kind of a row's node
kinds_are : (text names : List ℕ) (f : NodeRow) (k x : ℕ) (b : Bool) → k ≡ row_kind f → eqb k x ≡ b → eqb (node_kind (closed_node_of text names f).is) x ≡ b
unfolding closed_node_of
kinds_are text names f k x b ke e = ap (λ y. eqb y x) (kind_same text names f ∙ sym ke) ∙ e

-- a rest is noted: the ways of the code
pub notes_none : (stack nodes : List ℕ) (depth rows dots : ℕ) → depth ≡ 0 → NotesRest stack nodes depth rows dots nodes (record { depth = depth; rows = rows })
unfolding rest_in rest_item rows_down
notes_none stack nodes depth rows dots e = record {
  shows = λ text names m at. rw e refl;
  total = omega arith;
  shallow = omega arith;
}

pub notes_named :
    (stack nodes middle after : List ℕ) (depth rows dots e k n i : ℕ) (f a g : NodeRow) → depth ≡ suc e → f ≡ node_row_at stack e → k ≡ row_kind f → eqb k 7 ≡ true → a ≡ rest_row dots
    → Puts nodes rows a middle → i ≡ suc rows → g ≡ grown_row f → Puts middle i g after → n ≡ suc (suc rows) → NotesRest stack nodes depth rows dots after (record { depth = e; rows = n })
notes_named stack nodes middle after depth rows dots e k n i f a g de fe ke o ae w ie ge v ne = record {
  shows = λ text names m at.
      ap (λ x. rest_item m at (rows_down text names stack e) (rows_down text names after x)) (ne ∙ ap suc (sym ie))
      ∙ (ap (rest_item m at (rows_down text names stack e))
      (rows_grown ge v text names
      ∙ ap (λ cs. part_more (closed_node_of text names f) ∷ cs)
      (ap (rows_down text names middle) ie
      ∙ (rows_put w text names ∙ ap (λ x. x ∷ rows_down text names nodes rows) (ap (closed_node_of text names) ae ∙ rest_node_lem text names dots))))
      ∙ sym (ap (λ ws. rest_in dots m at ws (rows_down text names nodes rows)) (rows_first text names stack depth e f de fe)
      ∙ in_name dots m at (closed_node_of text names f) (rows_down text names stack e) (rows_down text names nodes rows) (kinds_are text names f k 7 true ke o)));
  total = omega (arith, de, ne);
  shallow = omega (arith, de);
}

pub notes_slice :
    (stack nodes after : List ℕ) (depth rows dots e k n : ℕ) (f a : NodeRow) → depth ≡ suc e → f ≡ node_row_at stack e → k ≡ row_kind f → eqb k 7 ≡ false → eqb k 11 ≡ true → a ≡ rest_row dots
    → Puts nodes rows a after → n ≡ suc rows → NotesRest stack nodes depth rows dots after (record { depth = depth; rows = n })
notes_slice stack nodes after depth rows dots e k n f a de fe ke o s ae w ne = record {
  shows = λ text names m at.
      ap (λ x. rest_item m at (rows_down text names stack depth) (rows_down text names after x)) ne
      ∙ (ap (rest_item m at (rows_down text names stack depth))
      (rows_put w text names ∙ ap (λ x. x ∷ rows_down text names nodes rows) (ap (closed_node_of text names) ae ∙ rest_node_lem text names dots))
      ∙ (ap (λ ws. rest_item m at ws (closed_node dots rest_node 0 ∷ rows_down text names nodes rows)) (rows_first text names stack depth e f de fe)
      ∙ sym (ap (λ ws. rest_in dots m at ws (rows_down text names nodes rows)) (rows_first text names stack depth e f de fe)
      ∙ in_slice_lem dots m at (closed_node_of text names f) (rows_down text names stack e) (rows_down text names nodes rows)
      (kinds_are text names f k 7 false ke o) (kinds_are text names f k 11 true ke s))));
  total = omega (arith, ne);
  shallow = omega arith;
}

pub notes_tuple :
    (stack nodes : List ℕ) (depth rows dots e k : ℕ) (f : NodeRow) → depth ≡ suc e → f ≡ node_row_at stack e → k ≡ row_kind f → eqb k 7 ≡ false → eqb k 11 ≡ false
    → NotesRest stack nodes depth rows dots nodes (record { depth = depth; rows = rows })
notes_tuple stack nodes depth rows dots e k f de fe ke o s = record {
  shows = λ text names m at.
      ap (λ ws. rest_item m at ws (rows_down text names nodes rows)) (rows_first text names stack depth e f de fe)
      ∙ sym (ap (λ ws. rest_in dots m at ws (rows_down text names nodes rows)) (rows_first text names stack depth e f de fe)
      ∙ in_tuple dots m at (closed_node_of text names f) (rows_down text names stack e) (rows_down text names nodes rows)
      (kinds_are text names f k 7 false ke o) (kinds_are text names f k 11 false ke s));
  total = omega arith;
  shallow = omega arith;
}

pub rests_in :
    {stack nodes middle : List ℕ} {depth rows dots m at : ℕ} {h : Heights} {stack' nodes' : List ℕ} {r : ParseStep}
    → NotesRest stack nodes depth rows dots middle h → RestsItem stack middle h.depth h.rows m at stack' nodes' r → RestsIn stack nodes depth rows dots m at stack' nodes' r
rests_in {m = m} {at = at} n s = record { shows = λ text names. s.shows text names ∙ n.shows text names m at }

-- `..` that no bound follows: the ways of the code
and_false : (b : Bool) → (b && false) ≡ false
and_false true = refl
and_false false = refl

pub reads_none : (stack nodes : List ℕ) (depth rows m at : ℕ) → depth ≡ 0 → RestsRead stack nodes depth rows m at stack nodes (Halted at)
unfolding course_of rest_read rows_down
reads_none stack nodes depth rows m at e = record { shows = λ text names. rw e refl }

pub reads_bar :
    (stack nodes : List ℕ) (depth rows e m at dots : ℕ) (f : NodeRow) → depth ≡ suc e → f ≡ node_row_at stack e → dots ≡ f.at → eqb m or_mark ≡ true → RestsRead stack nodes depth rows m at stack nodes (Halted dots)
unfolding course_of rest_read closed_node_of
reads_bar stack nodes depth rows e m at dots f de fe te o = record {
  shows = λ text names.
      rw (rows_first text names stack depth e f de fe, o, and_false (rest_fits (rows_down text names stack e))) (ap halted_at te);
}

pub reads_unfit :
    (stack nodes : List ℕ) (depth rows e m at dots : ℕ) (f : NodeRow) (b : Bool) → depth ≡ suc e → f ≡ node_row_at stack e → dots ≡ f.at → FitsRest stack e b → b ≡ false
    → RestsRead stack nodes depth rows m at stack nodes (Halted dots)
unfolding course_of rest_read closed_node_of
reads_unfit stack nodes depth rows e m at dots f b de fe te w be = record {
  shows = λ text names. rw (rows_first text names stack depth e f de fe, sym (w.tells text names), be) (ap halted_at te);
}

pub reads_rest :
    {stack nodes : List ℕ} {rows m at dots : ℕ} {stack' nodes' : List ℕ} {r : ParseStep} (depth e : ℕ) (f : NodeRow) (b : Bool) → depth ≡ suc e → f ≡ node_row_at stack e → dots ≡ f.at
    → eqb m or_mark ≡ false → FitsRest stack e b → b ≡ true → RestsIn stack nodes e rows dots m at stack' nodes' r → RestsRead stack nodes depth rows m at stack' nodes' r
unfolding rest_read closed_node_of
reads_rest {stack} {nodes} {rows} {m} {at} {dots} depth e f b de fe te o w be s = record {
  shows = λ text names.
      rw (rows_first text names stack depth e f de fe, o, sym (w.tells text names), be)
      (s.shows text names ∙ ap (λ x. rest_in x m at (rows_down text names stack e) (rows_down text names nodes rows)) te);
}
