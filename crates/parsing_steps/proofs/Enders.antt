-- A mark behind an item or a field's pattern, on the tables as in the machine. Assumes nothing.
use Prim.Native.Nat.{ℕ, suc}
use mathlib.Core.Path.{◌≡◌, refl, sym, ap, ◌∙◌}
use mathlib.Core.Bool.{Bool, true, false}
use mathlib.Core.List.{List, [], ◌∷◌}
use native.Mathlib.Omega.{arith}
use lib.Dec.{eqb}
use Rattle.pattern_grammar.specs.Lexemes.{comma_mark, close_brace_mark}
use Rattle.node_rows.specs.declared.NodeRow.{NodeRow}
use Rattle.node_rows.specs.Nodes.{node_row_at, closed_node_of}
use Rattle.parsing_machine.specs.declared.ReadState.TheVariants.{Begin, AtAlt, AtBrace}
use Rattle.parsing_machine.specs.Waiting.{opened, node_kind, closes, part_more, grown, settle, shut_top}
use Rattle.parsing_machine.specs.Moves.{nothing_held}
use Rattle.parsing_machine.specs.Parser.{going_in, alt_read}
use Rattle.node_tables.specs.Tables.{Puts, row_kind, rows_down, opened_of}
use Rattle.node_tables.proofs.Downward.{rows_put, kind_same}
use Rattle.parsing_moves.specs.Rows.{held_in}
use Rattle.parsing_steps.specs.declared.Heights.{Heights}
use Rattle.parsing_steps.specs.declared.ParseStep.{ParseStep}
use Rattle.parsing_steps.specs.declared.ParseStep.TheVariants.{Halted}
use Rattle.parsing_steps.specs.Settling.{grown_row, Shuts}
use Rattle.parsing_steps.specs.Stepping.{course_of, going_on, EndsItem, GrowsTop, ShutsGrown, EndsInItem, EndsInField}
use Rattle.parsing_steps.proofs.Passing.{grown_node}
use Rattle.parsing_steps.proofs.Lasting.{same_parts_lem, fewer}

-- a row with a part more is put
pub rows_grown :
    {t t' : List ℕ} {i : ℕ} {f g : NodeRow} → g ≡ grown_row f → Puts t i g t' → (text names : List ℕ)
    → rows_down text names t' (suc i) ≡ part_more (closed_node_of text names f) ∷ rows_down text names t i
rows_grown {t} {t'} {i} {f} ge w text names =
    rows_put w text names
    ∙ (ap (λ x. closed_node_of text names x ∷ rows_down text names t i) ge ∙ ap (λ x. x ∷ rows_down text names t i) (grown_node text names f))

pub grows_none : (stack : List ℕ) (depth : ℕ) → depth ≡ 0 → GrowsTop stack depth stack
unfolding rows_down grown
grows_none stack depth e = record {
  shows = λ text names. rw e refl;
}

pub grows_one :
    (stack after : List ℕ) (depth e : ℕ) (f g : NodeRow) → depth ≡ suc e → f ≡ node_row_at stack e → g ≡ grown_row f → Puts stack e g after → GrowsTop stack depth after
unfolding rows_down grown
grows_one stack after depth e f g de fe ge w = record {
  shows = λ text names.
      ap (rows_down text names after) de
      ∙ (rows_grown ge w text names
      ∙ (ap (λ x. part_more (closed_node_of text names x) ∷ rows_down text names stack e) fe ∙ ap (λ x. grown (rows_down text names stack x)) (sym de)));
}

pub shuts_none : (stack nodes : List ℕ) (depth rows : ℕ) → depth ≡ 0 → ShutsGrown stack nodes depth rows stack nodes (record { depth = depth; rows = rows })
unfolding opened_of rows_down grown shut_top
shuts_none stack nodes depth rows e = record {
  shows = λ text names. rw e refl;
  total = omega arith;
  raises = same_parts_lem stack depth depth (omega arith);
}

pub shuts_one :
    {stack nodes : List ℕ} {depth rows e : ℕ} {f g : NodeRow} {stack' nodes' : List ℕ} {r : Heights}
    → depth ≡ suc e → f ≡ node_row_at stack e → g ≡ grown_row f → Shuts stack nodes e rows g stack' nodes' r → ShutsGrown stack nodes depth rows stack' nodes' r
unfolding rows_down grown shut_top
shuts_one {stack} {nodes} {depth} {rows} {e} {f} de fe ge s = record {
  shows = λ text names.
      s.shows text names
      ∙ (ap (λ x. settle (rows_down text names stack e) (closed_node_of text names x ∷ rows_down text names nodes rows)) ge
      ∙ (ap (λ x. settle (rows_down text names stack e) (x ∷ rows_down text names nodes rows)) (grown_node text names f)
      ∙ (ap (λ x. settle (rows_down text names stack e) (part_more (closed_node_of text names x) ∷ rows_down text names nodes rows)) fe
      ∙ ap (λ x. shut_top (grown (rows_down text names stack x)) (rows_down text names nodes rows)) (sym de))));
  total = let t = s.total in omega (arith, t, de);
  raises = λ most w. s.raises most (fewer w (omega (arith, de)));
}

-- the kind of a row, where a list's end is asked for
pub kinds_close : (text names : List ℕ) (f : NodeRow) (k m : ℕ) (b : Bool) → k ≡ row_kind f → closes k m ≡ b → closes (node_kind (closed_node_of text names f).is) m ≡ b
unfolding closed_node_of
kinds_close text names f k m b e h = ap (λ x. closes x m) (kind_same text names f ∙ sym e) ∙ h

pub item_next :
    (stack nodes after : List ℕ) (below rows d m at : ℕ) (f g : NodeRow) (r : ParseStep) → eqb m comma_mark ≡ true → g ≡ grown_row f → Puts stack below g after → d ≡ suc below
    → r ≡ going_on Begin (record { depth = d; rows = rows }) → EndsInItem stack nodes below rows f m at after nodes r
unfolding course_of held_in opened_of
item_next stack nodes after below rows d m at f g r c ge w de re = record {
  shows = λ text names.
      rw (c, re)
      (ap (λ x. going_in Begin nothing_held (opened (rows_down text names after x) (rows_down text names nodes rows))) de
      ∙ ap (λ x. going_in Begin nothing_held (opened x (rows_down text names nodes rows))) (rows_grown ge w text names));
}

pub item_ends :
    {stack nodes : List ℕ} {below rows : ℕ} {f : NodeRow} {stack' nodes' : List ℕ} {h : Heights} (m at k : ℕ) (r : ParseStep) → eqb m comma_mark ≡ false → k ≡ row_kind f → closes k m ≡ true
    → EndsItem stack nodes below rows f stack' nodes' h → r ≡ going_on AtAlt h → EndsInItem stack nodes below rows f m at stack' nodes' r
unfolding course_of held_in
item_ends {f = f} m at k r c ke cl w re = record {
  shows = λ text names. rw (c, kinds_close text names f k m true ke cl, re) (ap alt_read (w.shows text names));
}

pub item_halts :
    (stack nodes : List ℕ) (below rows m at k : ℕ) (f : NodeRow) → eqb m comma_mark ≡ false → k ≡ row_kind f → closes k m ≡ false
    → EndsInItem stack nodes below rows f m at stack nodes (Halted at)
unfolding course_of
item_halts stack nodes below rows m at k f c ke cl = record {
  shows = λ text names. rw (c, kinds_close text names f k m false ke cl);
}

pub field_next :
    (stack nodes stack' nodes' : List ℕ) (below rows n m at : ℕ) (f g : NodeRow) (r : ParseStep) → eqb m comma_mark ≡ true → g ≡ grown_row f → Puts nodes rows g nodes' → GrowsTop stack below stack'
    → n ≡ suc rows → r ≡ going_on AtBrace (record { depth = below; rows = n }) → EndsInField stack nodes below rows f m at stack' nodes' r
unfolding course_of held_in opened_of
field_next stack nodes stack' nodes' below rows n m at f g r c ge w t ne re = record {
  shows = λ text names.
      rw (c, re)
      (ap (λ x. going_in AtBrace nothing_held (opened x (rows_down text names nodes' n))) (t.shows text names)
      ∙ (ap (λ x. going_in AtBrace nothing_held (opened (grown (rows_down text names stack below)) (rows_down text names nodes' x))) ne
      ∙ ap (λ x. going_in AtBrace nothing_held (opened (grown (rows_down text names stack below)) x)) (rows_grown ge w text names)));
}

pub field_ends :
    {stack nodes middle : List ℕ} {below rows n : ℕ} {f g : NodeRow} {stack' nodes' : List ℕ} {h : Heights} (m at : ℕ) (r : ParseStep) → eqb m comma_mark ≡ false → eqb m close_brace_mark ≡ true
    → g ≡ grown_row f → Puts nodes rows g middle → n ≡ suc rows → ShutsGrown stack middle below n stack' nodes' h → r ≡ going_on AtAlt h
    → EndsInField stack nodes below rows f m at stack' nodes' r
unfolding course_of held_in
field_ends {stack} {nodes} {middle} {below} m at r c b ge w ne s re = record {
  shows = λ text names.
      rw (c, b, re)
      (ap alt_read (s.shows text names)
      ∙ (ap (λ x. alt_read (shut_top (grown (rows_down text names stack below)) (rows_down text names middle x))) ne
      ∙ ap (λ x. alt_read (shut_top (grown (rows_down text names stack below)) x)) (rows_grown ge w text names)));
}

pub field_halts :
    (stack nodes : List ℕ) (below rows m at : ℕ) (f : NodeRow) → eqb m comma_mark ≡ false → eqb m close_brace_mark ≡ false
    → EndsInField stack nodes below rows f m at stack nodes (Halted at)
unfolding course_of
field_halts stack nodes below rows m at f c b = record {
  shows = λ text names. rw (c, b);
}
