-- The last item of a list closes, on the tables as in the machine. Assumes nothing.
use Prim.Native.Nat.{ℕ}
use mathlib.Core.Path.{◌≡◌, refl, sym, ap, ◌∙◌}
use mathlib.Core.Bool.{Bool, true, false, cond, ◌&&◌}
use mathlib.Core.Option.{none, some}
use mathlib.Core.List.{List, [], ◌∷◌}
use native.Mathlib.Omega.{arith}
use lib.Dec.{eqb, ltb}
use borrow.Author.Tests.{eqb-true}
use Rattle.pattern_grammar.specs.Admitted.{is_none}
use Rattle.node_rows.specs.declared.NodeRow.{NodeRow}
use Rattle.node_rows.specs.Nodes.{node_of, number_in, closed_node_of}
use Rattle.parsing_machine.specs.Waiting.{node_before, closes, part_more, begun_last, settle, is_bare_tuple}
use Rattle.parsing_machine.specs.Parser.{item_last}
use Rattle.node_tables.specs.Tables.{row_kind, rows_down}
use Rattle.node_tables.proofs.Downward.{kind_same}
use Rattle.parsing_steps.specs.declared.Heights.{Heights}
use Rattle.parsing_steps.specs.Settling.{grown_row, BeginsLast, Settles, Shuts}
use Rattle.parsing_steps.specs.Stepping.{is_bare_row, EndsItem}
use Rattle.parsing_steps.proofs.Passing.{grown_node}

cond_self : (b : Bool) → b ≡ cond b true false
cond_self true = refl
cond_self false = refl

pub closes_ten : (kind m : ℕ) → eqb kind 11 ≡ false → eqb m 3 ≡ true → eqb kind 9 ≡ false → eqb kind 10 ≡ closes kind m
unfolding closes
closes_ten kind m e f g = rw (e, f, g) (cond_self (eqb kind 10))

-- a row of kind 9 is a tuple's
kind_nine : (row : NodeRow) → eqb (row_kind row) 9 ≡ true → row.kind ≡ 9
unfolding row_kind
kind_nine row e = by (ltb row.kind 14) (eqb-true (cond (ltb row.kind 14) row.kind 14) 9 e)
  where
    by : (b : Bool) → cond b row.kind 14 ≡ 9 → row.kind ≡ 9
    by true h = h
    by false h = omega (arith, h)

-- a number is none by its word
pub none_number : (w : ℕ) → is_none (number_in w) ≡ eqb w 65535
unfolding is_none number_in
none_number w = by (eqb w 65535)
  where
    by : (b : Bool) → is_none (cond b none (some w)) ≡ b
    by true = refl
    by false = refl

bare_nine : (text names : List ℕ) (row : NodeRow) → row.kind ≡ 9 → node_before (node_of text names row) ≡ number_in row.more
unfolding node_before node_of
bare_nine text names row e = rw e refl

pub bare_same : (text names : List ℕ) (row : NodeRow) → is_bare_tuple (closed_node_of text names row) ≡ is_bare_row row
unfolding is_bare_tuple closed_node_of
bare_same text names row = rw (kind_same text names row) (by (eqb (row_kind row) 9) refl)
  where
    by :
        (b : Bool) → eqb (row_kind row) 9 ≡ b
        → (b && (is_none (node_before (node_of text names row)) && eqb row.parts 0)) ≡ (b && (eqb row.more 65535 && eqb row.parts 0))
    by false e = refl
    by true e =
        ap (λ x. x && eqb row.parts 0) (ap is_none (bare_nine text names row (kind_nine row e)) ∙ none_number row.more)

-- the ways of the code
pub ends_bare :
    {stack nodes middle : List ℕ} {below rows : ℕ} {f : NodeRow} {stack' nodes' : List ℕ} {r : Heights}
    → is_bare_row f ≡ true → BeginsLast nodes rows f.at middle → Settles stack middle below rows stack' nodes' r → EndsItem stack nodes below rows f stack' nodes' r
unfolding item_last closed_node_of
ends_bare {stack} {nodes} {middle} {below} {rows} {f} e b s = record {
  shows = λ text names.
      s.shows text names
      ∙ (ap (settle (rows_down text names stack below)) (b text names)
      ∙ ap (λ x. cond x (settle (rows_down text names stack below) (begun_last f.at (rows_down text names nodes rows))) (settle (rows_down text names stack below) (part_more (closed_node_of text names f) ∷ rows_down text names nodes rows)))
      (sym (bare_same text names f ∙ e)));
  total = let t = s.total in omega (arith, t);
}

pub ends_list :
    {stack nodes : List ℕ} {below rows : ℕ} {f g : NodeRow} {stack' nodes' : List ℕ} {r : Heights}
    → is_bare_row f ≡ false → g ≡ grown_row f → Shuts stack nodes below rows g stack' nodes' r → EndsItem stack nodes below rows f stack' nodes' r
unfolding item_last closed_node_of
ends_list {stack} {nodes} {below} {rows} {f} e h s = record {
  shows = λ text names.
      s.shows text names
      ∙ (ap (λ x. settle (rows_down text names stack below) (closed_node_of text names x ∷ rows_down text names nodes rows)) h
      ∙ (ap (λ x. settle (rows_down text names stack below) (x ∷ rows_down text names nodes rows)) (grown_node text names f)
      ∙ ap (λ x. cond x (settle (rows_down text names stack below) (begun_last f.at (rows_down text names nodes rows))) (settle (rows_down text names stack below) (part_more (closed_node_of text names f) ∷ rows_down text names nodes rows)))
      (sym (bare_same text names f ∙ e))));
  total = s.total;
}
