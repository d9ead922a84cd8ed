-- Rows of lists with a rest and without one, as nodes. Assumes nothing.
use Prim.Native.Nat.{ℕ, suc, ◌<◌}
use mathlib.Core.Path.{◌≡◌, refl, sym, ap, ◌∙◌}
use mathlib.Core.Bool.{Bool, true, false, cond, ◌&&◌, ◌||◌, true≢false}
use mathlib.Core.Option.{some}
use mathlib.Core.List.{List}
use native.Mathlib.Omega.{arith}
use lib.Dec.{eqb, ltb}
use borrow.Author.Tests.{eqb-true, ne_eqb}
use Rattle.pattern_grammar.specs.Admitted.{is_none}
use Rattle.pattern_syntax.specs.Written.{Node, wildcard_node, rest_node, literal_node, bound_node, bound_path_node, range_node, path_node, ident_node, reference_node, tuple_node, tuple_struct_node, slice_node, record_node, field_node, or_node}
use Rattle.node_rows.specs.declared.NodeRow.{NodeRow}
use Rattle.node_rows.specs.Nodes.{node_row_at, node_of, number_in, name_in, closed_node_of}
use Rattle.parsing_machine.specs.Waiting.{node_kind, node_before, node_with_rest, with_rest, takes_rest, slice_takes_rest, rest_fits}
use Rattle.node_tables.specs.Tables.{row_kind, rows_down}
use Rattle.node_tables.proofs.Downward.{kind_same}
use Rattle.parsing_steps.proofs.LastItems.{none_number}
use Rattle.rest_rows.specs.Rested.{counted_row, rested_row, takes_rest_row, FitsSlice, FitsRest}

-- a row whose kind is below 14 has it in its word
kind_is : (row : NodeRow) (k : ℕ) → k < 14 → eqb (row_kind row) k ≡ true → row.kind ≡ k
unfolding row_kind
kind_is row k l e = by (ltb row.kind 14) (eqb-true (cond (ltb row.kind 14) row.kind 14) k e)
  where
    by : (b : Bool) → cond b row.kind 14 ≡ k → row.kind ≡ k
    by true h = h
    by false h = omega (arith, h, l)

-- a number that is not 65535
some_number : (w : ℕ) → w < 65535 → number_in w ≡ some w
unfolding number_in
some_number w h = rw (ne_eqb w 65535 (λ e. omega (arith, e, h))) refl

-- what is no list stays
plain_rest : (n : Node) (before : ℕ) → eqb (node_kind n) 11 ≡ false → (eqb (node_kind n) 9 || eqb (node_kind n) 10) ≡ false → node_with_rest n before ≡ n
unfolding node_kind node_with_rest
plain_rest wildcard_node before e f = refl
plain_rest rest_node before e f = refl
plain_rest (literal_node v) before e f = refl
plain_rest (bound_node v) before e f = refl
plain_rest (bound_path_node n) before e f = refl
plain_rest (range_node lower upper dots) before e f = refl
plain_rest (path_node n) before e f = refl
plain_rest (ident_node r m n) before e f = refl
plain_rest (reference_node m) before e f = refl
plain_rest (tuple_node old) before e f = absurd (true≢false f)
plain_rest (tuple_struct_node n old) before e f = absurd (true≢false f)
plain_rest (slice_node old) before e f = absurd (true≢false e)
plain_rest (record_node n) before e f = refl
plain_rest (field_node n) before e f = refl
plain_rest or_node before e f = refl

-- a list's node with its rest, by its kind
slice_rest : (text names : List ℕ) (row : NodeRow) (parts : ℕ) → row.parts < 65535 → row.kind ≡ 11 → node_of text names (counted_row row parts) ≡ node_with_rest (node_of text names row) row.parts
unfolding node_of node_with_rest name_in
slice_rest text names row parts h e = rw (e, some_number row.parts h) refl

tuple_rest : (text names : List ℕ) (row : NodeRow) (parts : ℕ) → row.parts < 65535 → row.kind ≡ 9 → node_of text names (counted_row row parts) ≡ node_with_rest (node_of text names row) row.parts
unfolding node_of node_with_rest name_in
tuple_rest text names row parts h e = rw (e, some_number row.parts h) refl

struct_rest : (text names : List ℕ) (row : NodeRow) (parts : ℕ) → row.parts < 65535 → row.kind ≡ 10 → node_of text names (counted_row row parts) ≡ node_with_rest (node_of text names row) row.parts
unfolding node_of node_with_rest name_in
struct_rest text names row parts h e = rw (e, some_number row.parts h) refl

pair_rest :
    (text names : List ℕ) (row : NodeRow) (parts : ℕ) → row.parts < 65535 → (eqb (row_kind row) 9 || eqb (row_kind row) 10) ≡ true
    → node_of text names (counted_row row parts) ≡ node_with_rest (node_of text names row) row.parts
pair_rest text names row parts h e = by (eqb (row_kind row) 9) refl
  where
    by : (b : Bool) → eqb (row_kind row) 9 ≡ b → node_of text names (counted_row row parts) ≡ node_with_rest (node_of text names row) row.parts
    by true f = tuple_rest text names row parts h (kind_is row 9 (omega arith) f)
    by false f = struct_rest text names row parts h (kind_is row 10 (omega arith) (rw f at e))

pub rested_node : (text names : List ℕ) (row : NodeRow) → row.parts < 65535 → closed_node_of text names (rested_row row) ≡ with_rest (closed_node_of text names row)
unfolding closed_node_of with_rest rested_row
rested_node text names row h = rw (kind_same text names row) (by (eqb (row_kind row) 11) (eqb (row_kind row) 9 || eqb (row_kind row) 10) refl refl)
  where
    by :
        (b c : Bool) → eqb (row_kind row) 11 ≡ b → (eqb (row_kind row) 9 || eqb (row_kind row) 10) ≡ c
        → closed_node_of text names (cond b (counted_row row (suc row.parts)) (cond c (counted_row row row.parts) row))
        ≡ record { from = row.at; is = node_with_rest (node_of text names row) row.parts; parts = cond b (suc row.parts) row.parts }
    by true c e f = λ i. record { from = row.at; is = slice_rest text names row (suc row.parts) h (kind_is row 11 (omega arith) e) i; parts = suc row.parts }
    by false true e f = λ i. record { from = row.at; is = pair_rest text names row row.parts h f i; parts = row.parts }
    by false false e f = λ i. record {
      from = row.at;
      is = sym (plain_rest (node_of text names row) row.parts (rw (kind_same text names row) e) (rw (kind_same text names row) f)) i;
      parts = row.parts;
    }

-- a list's row with its rest: the ways of the code
pub rested_slice : (row g : NodeRow) (k n : ℕ) → k ≡ row_kind row → eqb k 11 ≡ true → n ≡ suc row.parts → g ≡ counted_row row n → g ≡ rested_row row
unfolding rested_row
rested_slice row g k n ke o ne ge = rw (sym ke, o) (ge ∙ ap (counted_row row) ne)

pub rested_tuple : (row g : NodeRow) (k : ℕ) → k ≡ row_kind row → eqb k 11 ≡ false → eqb k 9 ≡ true → g ≡ counted_row row row.parts → g ≡ rested_row row
unfolding rested_row
rested_tuple row g k ke o t ge = rw (sym ke, o, t) ge

pub rested_struct :
    (row g : NodeRow) (k : ℕ) → k ≡ row_kind row → eqb k 11 ≡ false → eqb k 9 ≡ false → eqb k 10 ≡ true → g ≡ counted_row row row.parts → g ≡ rested_row row
unfolding rested_row
rested_struct row g k ke o n t ge = rw (sym ke, o, n, t) ge

pub rested_other : (row : NodeRow) (k : ℕ) → k ≡ row_kind row → eqb k 11 ≡ false → eqb k 9 ≡ false → eqb k 10 ≡ false → row ≡ rested_row row
unfolding rested_row
rested_other row k ke o n t = rw (sym ke, o, n, t) refl

-- whether a list has a rest so far
before_nine : (text names : List ℕ) (row : NodeRow) → row.kind ≡ 9 → is_none (node_before (node_of text names row)) ≡ eqb row.more 65535
unfolding node_before node_of
before_nine text names row e = rw e (none_number row.more)

before_ten : (text names : List ℕ) (row : NodeRow) → row.kind ≡ 10 → is_none (node_before (node_of text names row)) ≡ eqb row.more 65535
unfolding node_before node_of
before_ten text names row e = rw e (none_number row.more)

before_eleven : (text names : List ℕ) (row : NodeRow) → row.kind ≡ 11 → is_none (node_before (node_of text names row)) ≡ eqb row.more 65535
unfolding node_before node_of
before_eleven text names row e = rw e (none_number row.more)

takes_same : (text names : List ℕ) (row : NodeRow) → takes_rest (closed_node_of text names row) ≡ takes_rest_row row
unfolding takes_rest takes_rest_row closed_node_of
takes_same text names row = rw (kind_same text names row) (nine (eqb (row_kind row) 9) refl)
  where
    eleven : (b : Bool) → eqb (row_kind row) 11 ≡ b → (b && is_none (node_before (node_of text names row))) ≡ (b && eqb row.more 65535)
    eleven true e = before_eleven text names row (kind_is row 11 (omega arith) e)
    eleven false e = refl

    ten :
        (b : Bool) → eqb (row_kind row) 10 ≡ b
        → ((b || eqb (row_kind row) 11) && is_none (node_before (node_of text names row))) ≡ ((b || eqb (row_kind row) 11) && eqb row.more 65535)
    ten true e = before_ten text names row (kind_is row 10 (omega arith) e)
    ten false e = eleven (eqb (row_kind row) 11) refl

    nine :
        (b : Bool) → eqb (row_kind row) 9 ≡ b
        → ((b || (eqb (row_kind row) 10 || eqb (row_kind row) 11)) && is_none (node_before (node_of text names row)))
        ≡ ((b || (eqb (row_kind row) 10 || eqb (row_kind row) 11)) && eqb row.more 65535)
    nine true e = before_nine text names row (kind_is row 9 (omega arith) e)
    nine false e = ten (eqb (row_kind row) 10) refl

-- where a rest may stand: the ways of the code
pub slice_none : (stack : List ℕ) (depth : ℕ) → depth ≡ 0 → FitsSlice stack depth false
unfolding rows_down slice_takes_rest
slice_none stack depth e = record { tells = λ text names. rw e refl }

pub slice_other : (stack : List ℕ) (depth e k : ℕ) (f : NodeRow) → depth ≡ suc e → f ≡ node_row_at stack e → k ≡ row_kind f → eqb k 11 ≡ false → FitsSlice stack depth false
unfolding rows_down slice_takes_rest closed_node_of
slice_other stack depth e k f de fe ke o = record {
  tells = λ text names. rw (de, sym fe, kind_same text names f, sym ke, o) refl;
}

pub slice_some :
    (stack : List ℕ) (depth e k : ℕ) (f : NodeRow) (b : Bool) → depth ≡ suc e → f ≡ node_row_at stack e → k ≡ row_kind f → eqb k 11 ≡ true → b ≡ eqb f.more 65535 → FitsSlice stack depth b
unfolding rows_down slice_takes_rest closed_node_of
slice_some stack depth e k f b de fe ke o be = record {
  tells = λ text names.
      rw (de, sym fe, kind_same text names f, sym ke, o)
      (be ∙ sym (before_eleven text names f (kind_is f 11 (omega arith) (ap (λ x. eqb x 11) (sym ke) ∙ o))));
}

pub rest_nowhere : (stack : List ℕ) (depth : ℕ) → depth ≡ 0 → FitsRest stack depth false
unfolding rows_down rest_fits
rest_nowhere stack depth e = record { tells = λ text names. rw e refl }

pub rest_named :
    (stack : List ℕ) (depth e k : ℕ) (f : NodeRow) (b : Bool) → depth ≡ suc e → f ≡ node_row_at stack e → k ≡ row_kind f → eqb k 7 ≡ true → FitsSlice stack e b → FitsRest stack depth b
unfolding rows_down rest_fits closed_node_of
rest_named stack depth e k f b de fe ke o w = record {
  tells = λ text names. rw (de, sym fe, kind_same text names f, sym ke, o) (w.tells text names);
}

pub rest_plain :
    (stack : List ℕ) (depth e k : ℕ) (f : NodeRow) (b : Bool) → depth ≡ suc e → f ≡ node_row_at stack e → k ≡ row_kind f → eqb k 7 ≡ false → b ≡ takes_rest_row f → FitsRest stack depth b
unfolding rows_down rest_fits closed_node_of
rest_plain stack depth e k f b de fe ke o be = record { tells = λ text names. rw (de, sym fe, not_named text names) (be ∙ sym (takes_same text names f)) }
  where
    not_named : (text names : List ℕ) → eqb (node_kind (node_of text names f)) 7 ≡ false
    not_named text names = ap (λ x. eqb x 7) (kind_same text names f ∙ sym ke) ∙ o
