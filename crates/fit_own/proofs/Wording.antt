-- The tests of a type and of the words of a pattern's row, by the ways through the code. Assumes nothing.
use Prim.Native.Nat.{ℕ, zero, suc, ◌+◌, ◌-◌, ◌≤◌, ◌<◌}
use mathlib.Core.Path.{◌≡◌, refl, sym, ap, ◌∙◌}
use mathlib.Core.Bool.{Bool, true, false, not, ◌&&◌}
use mathlib.Core.Option.{Option, none, some}
use mathlib.Core.List.{List, [], ◌∷◌, map}
use native.Mathlib.Omega.{arith}
use borrow.Author.Tests.{lt-ltb, le-ltb, ltb-true}
use lib.Dec.{eqb, leb, ltb}
use lib.ListN.{length, get_or}
use Rattle.image.specs.declared.Tables.{Tables}
use Rattle.image.specs.declared.kinds.AdtKind.{AdtKind}
use Rattle.image.specs.declared.kinds.PatKind.{PatKind}
use Rattle.image.specs.declared.rows.PatRow.{PatRow}
use Rattle.image.specs.declared.rows.TypeRow.{TypeRow}
use Rattle.image.specs.Tables.{type_count, pattern_count, binding_count}
use Rattle.image.specs.Kinds.{adt_kind, pat_kind}
use Rattle.image.specs.Lists.{member}
use Rattle.image.specs.Rows.{type_at, pat_at, list_at}
use Rattle.image.specs.Rules.{absent, listed}
use Rattle.image.specs.Patterns.{pattern_shape_holds}
use Rattle.image.specs.Types.{Shape, integer, bool, char, str, tuple, adt, reference, array, slice, unknown, ty_of}
use Rattle.image.specs.Tree.{Head, Pat, sub, node_by, tree?, tree, word?}
use Rattle.image.specs.Valid.{valid}
use Rattle.image.proofs.Bools.{and_left}
use Rattle.image.proofs.Known.{pattern_holds_lem}
use Rattle.marks.proofs.Takes.{listed_next, listed_none}
use Rattle.marks.proofs.Shapes.{pattern_shape}
use Rattle.place.proofs.Fields.{length_listed}
use Rattle.cases_spec.specs.Cases.{kind_number}
use Rattle.meaning.specs.Values.{has_values, has_variant}
use Rattle.meaning.specs.Typing.{adt_variants}
use Rattle.meaning.specs.Fit.{fields_there, ellipsis_within, has_local, rest_taken?}
use Rattle.fit_literals.proofs.Shapes.{kind_of_lem}
use Rattle.fit_shapes.specs.declared.fields.Fields.{Fields}
use Rattle.fit_shapes.specs.Numbers.{FieldsOf}
use Rattle.fit_types.specs.Parts.{Node}
use Rattle.fit_shapes.proofs.Shaped.{adt_of}
use Rattle.fit_shapes.proofs.Fielding.{word_absent, word_there}
use Rattle.fit_shapes.proofs.Nodes.{head_of, node_of_lem}
use Rattle.fit_types.proofs.Holding.{node_is}
use Rattle.fit_shapes.proofs.Resting.{tree_absent, tree_there}
use Rattle.fit_own.specs.Rows.{valued, rest_kind_taken, RestNamed, RowOf}

values_none : (s : Shape) → (kind_number s ≡ 6 → ⊥) → false ≡ valued s
unfolding kind_number valued
values_none (integer size signed) h = refl
values_none bool h = refl
values_none char h = refl
values_none str h = refl
values_none (tuple fields) h = refl
values_none (adt kind variants) h = absurd (h refl)
values_none (reference t) h = refl
values_none (array t n) h = refl
values_none (slice t) h = refl
values_none unknown h = refl

-- `has_values`
module _ (image : List ℕ) (t : ℕ) {row : TypeRow} (at : row ≡ type_at image t) where
  pub no_values : valid image ≡ true → t < type_count image → (row.kind ≡ 6 → ⊥) → false ≡ valued (ty_of image t).shape
  no_values holds inside h = values_none (ty_of image t).shape (λ e. h (sym (kind_of_lem image t at holds inside) ∙ e))

  pub values_by : row.kind ≡ 6 → {kind : AdtKind} → kind ≡ adt_kind row.c → {r : Bool} → r ≡ has_values kind → r ≡ valued (ty_of image t).shape
  unfolding valued
  values_by is told e = e ∙ rw (adt_of image t at is, told)

-- a variant, in two parts
variant_parts : (s : Shape) (v : ℕ) → has_variant s (some v) ≡ valued s && member v (adt_variants s)
unfolding has_variant valued adt_variants
variant_parts (integer size signed) v = refl
variant_parts bool v = refl
variant_parts char v = refl
variant_parts str v = refl
variant_parts (tuple fields) v = refl
variant_parts (adt kind variants) v = refl
variant_parts (reference t) v = refl
variant_parts (array t n) v = refl
variant_parts (slice t) v = refl
variant_parts unknown v = refl

variant_none : (s : Shape) → has_variant s none ≡ false
unfolding has_variant
variant_none (integer size signed) = refl
variant_none bool = refl
variant_none char = refl
variant_none str = refl
variant_none (tuple fields) = refl
variant_none (adt kind variants) = refl
variant_none (reference t) = refl
variant_none (array t n) = refl
variant_none (slice t) = refl
variant_none unknown = refl

module _ (s : Shape) (v : ℕ) where
  -- `variant_there`
  module _ {r : Bool} (values : r ≡ valued s) where
    pub not_valued : r ≡ false → false ≡ has_variant s (some v)
    not_valued e = sym (variant_parts s v ∙ rw (sym values ∙ e))

    pub is_valued : r ≡ true → {b : Bool} → b ≡ member v (adt_variants s) → b ≡ has_variant s (some v)
    is_valued e h = h ∙ sym (variant_parts s v ∙ rw (sym values ∙ e))

  -- `variant_taken`
  pub no_variant : v ≡ absent → false ≡ has_variant s (word? v)
  no_variant e = sym (ap (has_variant s) (word_absent v e) ∙ variant_none s)

  pub some_variant : (v ≡ absent → ⊥) → {r : Bool} → r ≡ has_variant s (some v) → r ≡ has_variant s (word? v)
  some_variant h e = e ∙ sym (ap (has_variant s) (word_there v h))

-- `fields_there`
module _ (image : List ℕ) (i left n : ℕ) where
  pub fields_end : left ≡ 0 → true ≡ fields_there (map word? (listed image 2 i left)) n
  unfolding fields_there
  fields_end e = rw (listed_none image 2 i left e)

  module _ (more : left ≡ 0 → ⊥) {f : ℕ} (read : f ≡ list_at image i) where
    first_field : fields_there (map word? (listed image 2 i left)) n ≡ fields_there (word? f ∷ map word? (listed image 2 (i + 2) (left - 1))) n
    first_field = rw (listed_next image 2 i left more, read)

    pub field_missing : n ≤ f → false ≡ fields_there (map word? (listed image 2 i left)) n
    unfolding fields_there word?
    field_missing h = sym (first_field ∙ go (eqb f absent))
      where
        go : (b : Bool) → fields_there (mathlib.Core.Bool.cond b none (some f) ∷ map word? (listed image 2 (i + 2) (left - 1))) n ≡ false
        go true = refl
        go false = rw (le-ltb f n h)

    pub field_next : f < n → n ≤ absent → fields_there (map word? (listed image 2 i left)) n ≡ fields_there (map word? (listed image 2 (i + 2) (left - 1))) n
    unfolding fields_there
    field_next h few = first_field ∙ rw (word_there f (λ e. omega arith), lt-ltb f n h)

-- `ellipsis_within`
module _ (ellipsis count : ℕ) where
  pub no_ellipsis : ellipsis ≡ absent → true ≡ ellipsis_within (word? ellipsis) count
  no_ellipsis e = rw (word_absent ellipsis e)

  pub some_ellipsis : (ellipsis ≡ absent → ⊥) → leb ellipsis count ≡ ellipsis_within (word? ellipsis) count
  some_ellipsis h = rw (word_there ellipsis h)

-- a read within a list, whatever stands for what is missing
read_within : (xs : List ℕ) (i d d' : ℕ) → i < length xs → get_or xs i d ≡ get_or xs i d'
read_within [] i d d' h = absurd (omega arith)
read_within (x ∷ xs) zero d d' h = refl
read_within (x ∷ xs) (suc i) d d' h = read_within xs i d d' (omega arith)

-- `has_local`
pub local_read : (bindings : List ℕ) (b : ℕ) → b < length bindings → not (eqb (get_or bindings b 0) 65535) ≡ has_local bindings b
local_read bindings b h = ap (λ (l : ℕ). not (eqb l 65535)) (read_within bindings b 0 65535 h)

-- the kind of a rest says whether its binding has a local
rest_node_lem : (bindings : List ℕ) (k : PatKind) (g : ℕ → Pat) (image : List ℕ) (h : Head) (row : PatRow) → rest_kind_taken bindings k row.a ≡ rest_taken? bindings (sub (node_by k g image h row))
unfolding node_by
rest_node_lem bindings PatKind.Missing g image h row = refl
rest_node_lem bindings PatKind.Rest g image h row = refl
rest_node_lem bindings PatKind.NotNull g image h row = refl
rest_node_lem bindings PatKind.Wild g image h row = refl
rest_node_lem bindings PatKind.Tuple g image h row = refl
rest_node_lem bindings PatKind.Or g image h row = refl
rest_node_lem bindings PatKind.Record g image h row = refl
rest_node_lem bindings PatKind.Range g image h row = refl
rest_node_lem bindings PatKind.Slice g image h row = refl
rest_node_lem bindings PatKind.Path g image h row = refl
rest_node_lem bindings PatKind.Lit g image h row = refl
rest_node_lem bindings PatKind.Bind g image h row = refl
rest_node_lem bindings PatKind.TupleStruct g image h row = refl
rest_node_lem bindings PatKind.Ref g image h row = refl
rest_node_lem bindings PatKind.Expr g image h row = refl
rest_node_lem bindings PatKind.Box g image h row = refl
rest_node_lem bindings PatKind.Deref g image h row = refl
rest_node_lem bindings PatKind.Unknown g image h row = refl

-- a Bind's binding is one of the table
pub binding_inside : (image : List ℕ) (bindings : List ℕ) (p : ℕ) {row : PatRow} {kind : PatKind} → row ≡ pat_at image p → kind ≡ pat_kind row.kind → valid image ≡ true → p < pattern_count image → length bindings ≡ binding_count image
    → RestNamed bindings kind row.a
unfolding pattern_shape_holds
binding_inside image bindings p {row} {kind} at told holds inside all is =
    let shape = rw is at (pattern_shape image p at told (pattern_holds_lem image p holds inside)) in
    let b = ltb row.a (binding_count image) in
    let less = ltb-true row.a (binding_count image) (and_left b (leb row.c 2) (and_left (b && leb row.c 2) (leb row.d 2) shape)) in
    omega arith

-- the row of a pattern, by its kind, and the binding of a Bind: `own_taken`
module _ {image : List ℕ} {tables : Tables} {row : PatRow} {kind : PatKind} where
  pub row_of : {p : ℕ} → Node image tables p row kind → RowOf image tables row kind
  row_of {p} n = record { number = p; node = n }

  pub row_is : (is : PatKind) → kind ≡ is → RowOf image tables row kind → RowOf image tables row is
  row_is is e r = record { number = r.number; node = node_is is e r.node }

  pub binding_there : (bindings : List ℕ) (r : RowOf image tables row kind) → length bindings ≡ binding_count image → kind ≡ PatKind.Bind → row.a < length bindings
  binding_there bindings r all is =
      let n = r.node in
      binding_inside image bindings r.number n.at n.told n.parent.sound n.parent.inside all is

-- `rest_taken`
module _ (image bindings : List ℕ) (q : ℕ) where
  pub rest_none : q ≡ absent → true ≡ rest_taken? bindings (tree? (tree image) q)
  rest_none e = rw (tree_absent (tree image) q e)

  pub rest_by_lem : (q ≡ absent → ⊥) → valid image ≡ true → q < pattern_count image → {row : PatRow} → row ≡ pat_at image q → {kind : PatKind} → kind ≡ pat_kind row.kind → {r : Bool} → r ≡ rest_kind_taken bindings kind row.a
      → r ≡ rest_taken? bindings (tree? (tree image) q)
  rest_by_lem there holds inside {row} at {kind} told e = e ∙ rw (tree_there (tree image) q there, node_of_lem image q at holds inside told) (rest_node_lem bindings kind (tree image) image (head_of q row) row)

-- `record_taken`: as many fields as the range has
pub fields_counted : {image : List ℕ} {r : Fields} {ts : List ℕ} (fields : List (Option ℕ)) {b : Bool} → FieldsOf image r ts → b ≡ fields_there fields r.count → b ≡ fields_there fields (length ts)
fields_counted {image} {r} fields of e = e ∙ ap (fields_there fields) (sym (length_listed image 1 r.from r.count) ∙ ap length of.are)
