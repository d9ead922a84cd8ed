-- What becomes of a node brings words, where the items before its `..` are a word's. Assumes nothing.
use Prim.Native.Nat.{ℕ, ◌+◌, ◌≤◌}
use mathlib.Core.Path.{◌≡◌, refl}
use mathlib.Core.Bool.{Bool, true, false, cond, ◌&&◌, ◌||◌}
use mathlib.Core.Option.{Option, none, some}
use mathlib.Core.List.{List}
use native.Mathlib.Omega.{arith}
use borrow.Author.Tests.{ltb-true, leb-true, eqb-true}
use lib.Dec.{eqb, ltb, leb}
use Rattle.image.specs.Tables.{variant_count, list_count, data_count}
use Rattle.image.specs.Rows.{variant_at, operand_at}
use Rattle.image.specs.Lists.{all_in}
use Rattle.image.specs.Operands.{operand_holds}
use Rattle.image.specs.Rules.{in_table, names_type, listed, types_listed, variant_holds}
use Rattle.image.proofs.Bools.{and_left, and_right}
use Rattle.type_sheets.specs.Sheets.{sheet_holds}
use Rattle.name_tables.specs.declared.NameRow.{NameRow}
use Rattle.name_tables.specs.Names.{Use, as_variant, as_constant, as_value, as_field_of, serves, row_for, name_row_at, names_something, names_hold}
use Rattle.pattern_syntax.specs.Written.{Name, Node, wildcard_node, rest_node, literal_node, bound_node, bound_path_node, range_node, path_node, ident_node, reference_node, tuple_node, tuple_struct_node, slice_node, record_node, field_node, or_node}
use Rattle.pattern_typing.specs.Crossing.{Crossed, crossed, variant_fields_of}
use Rattle.pattern_typing.specs.Contexts.{Context, typed, rest_among, field_at, partless, unseen, unseen_parts, field_part}
use Rattle.pattern_typing.specs.Making.{Making, or_absent}
use Rattle.pattern_typing.specs.Resolving.{Resolved, refused_here, resolved_to, where_named, path_made, resolved_path, Marked, resolved_ident, rest_holds, resolved_bound_rest, resolved_rest, binds_in, field_name, tuple_struct_as, record_as, resolved_node, resolved_field, resolved}
use Rattle.image_validity.proofs.Keeping.{sheet_variant, operand_inside}
use Rattle.image_validity.proofs.Types.{row_serves, variant_named, value_named}
use Rattle.tree_forms.specs.Ellipses.{ellipsis_fits}
use Rattle.image_words.specs.Bounds.{IsWord, BringsWords}

module _ (sheet names : List ℕ) (holds : sheet_holds sheet ≡ true) (named : names_hold sheet names ≡ true) (variants : variant_count sheet ≤ 512) (words : list_count sheet ≤ 2048)
  where
    variant_word_lem : (v : ℕ) → ltb v (variant_count sheet) ≡ true → IsWord v
    variant_word_lem v h = omega (arith, ltb-true v (variant_count sheet) h, variants)

    place_word : (o : ℕ) → operand_holds sheet o ≡ true → IsWord o
    place_word o h = omega (arith, operand_inside sheet o h, words)

    -- a path
    kind_word : (b : Bool) → IsWord (cond b 1 3)
    kind_word true = omega arith
    kind_word false = omega arith

    path_brings : (o : Option ℕ) (name : Name) (c : Crossed) → row_for names as_value name.bytes ≡ o → BringsWords (resolved_path names o name c).making
    unfolding resolved_path path_made
    path_brings none name c e = tt
    path_brings (some i) name c e =
        let row = name_row_at names i in
        let number : IsWord row.number =
        value_named sheet names named name.bytes i e (λ _ h. variant_word_lem row.number h)
        (λ _ h. place_word row.number (and_left (operand_holds sheet row.number) (eqb (operand_at sheet row.number).kind 8) h))
        in
        (omega arith, (kind_word (eqb row.kind 1), (number, (omega arith, omega arith))))

    -- a name that is looked up, and goes on with its row's number
    where_brings : (wanted : Use) (bs : List ℕ) (o : Option ℕ) (name : Name) (go : ℕ → Resolved) → row_for names wanted bs ≡ o →
        ((i : ℕ) → row_for names wanted bs ≡ some i → BringsWords (go (name_row_at names i).number).making) → BringsWords (where_named names o name go).making
    unfolding where_named
    where_brings wanted bs none name go e each = tt
    where_brings wanted bs (some i) name go e each = each i e

    ident_brings : (o : Option ℕ) (m : Marked) (t mode many : ℕ) → row_for names as_value m.called.bytes ≡ o → BringsWords (resolved_ident sheet names o m t mode many).making
    unfolding resolved_ident
    ident_brings none m t mode many e = tt
    ident_brings (some i) m t mode many e = by (m.reference || m.mutable || leb 1 many)
      where
        by : (b : Bool) → BringsWords (cond b (refused_here m.called.at) (resolved_path names (some i) m.called (crossed sheet t mode))).making
        by true = tt
        by false = path_brings (some i) m.called (crossed sheet t mode) e

    node_brings : (n : Node) (many t mode : ℕ) → ellipsis_fits n ≡ true → BringsWords (resolved_node sheet names n many t mode).making
    unfolding resolved_node ellipsis_fits tuple_struct_as record_as
    node_brings wildcard_node many t mode e = (omega arith, (omega arith, (omega arith, (omega arith, omega arith))))
    node_brings rest_node many t mode e = (omega arith, (omega arith, (omega arith, (omega arith, omega arith))))
    node_brings (literal_node v) many t mode e = tt
    node_brings (bound_node v) many t mode e = tt
    node_brings (bound_path_node n) many t mode e =
        where_brings as_constant n.bytes (row_for names as_constant n.bytes) n (λ number. resolved_to (Making.operand_named number) unseen_parts) refl (λ i q. tt)
    node_brings (range_node lower upper dots) many t mode e = tt
    node_brings (path_node n) many t mode e = path_brings (row_for names as_value n.bytes) n (crossed sheet t mode) refl
    node_brings (ident_node r m n) many t mode e = ident_brings (row_for names as_value n.bytes) (record { reference = r; mutable = m; called = n }) t mode many refl
    node_brings (reference_node m) many t mode e = tt
    node_brings (tuple_node before) many t mode e = (omega arith, (ltb-true (or_absent before) 65536 e, omega arith))
    node_brings (tuple_struct_node n before) many t mode e =
        where_brings as_variant n.bytes (row_for names as_variant n.bytes) n (tuple_struct_as sheet (crossed sheet t mode) before many) refl
        (λ i q. (omega arith, (ltb-true (or_absent before) 65536 e, variant_word_lem (name_row_at names i).number (variant_named sheet names named n.bytes i q))))
    node_brings (slice_node before) many t mode e = tt
    node_brings (record_node n) many t mode e =
        where_brings as_variant n.bytes (row_for names as_variant n.bytes) n (record_as (crossed sheet t mode)) refl
        (λ i q. (omega arith, (variant_word_lem (name_row_at names i).number (variant_named sheet names named n.bytes i q), omega arith)))
    node_brings (field_node n) many t mode e = tt
    node_brings or_node many t mode e = (omega arith, (omega arith, omega arith))

    -- a rest, bare or bound
    bound_rest_brings : (o : Option ℕ) (m : Marked) (t others mode : ℕ) → BringsWords (resolved_bound_rest sheet o m t others mode).making
    unfolding resolved_bound_rest
    bound_rest_brings none m t others mode = tt
    bound_rest_brings (some i) m t others mode = tt

    rest_brings : (o : Option Marked) (at t others mode : ℕ) → BringsWords (resolved_rest sheet names at o t others mode).making
    unfolding resolved_rest
    rest_brings none at t others mode = (omega arith, (omega arith, (omega arith, (omega arith, omega arith))))
    rest_brings (some m) at t others mode = by (rest_holds sheet t others)
      where
        by : (b : Bool) → BringsWords (cond b (resolved_bound_rest sheet (row_for names as_value m.called.bytes) m t others mode) (refused_here at)).making
        by true = bound_rest_brings (row_for names as_value m.called.bytes) m t others mode
        by false = tt

    -- a field's number is one of its variant's
    names_field_lem : (row : NameRow) → row.kind ≡ 2 → names_something sheet row ≡ true →
        ltb row.owner (variant_count sheet) && ltb row.number (variant_at sheet row.owner).count ≡ true
    unfolding names_something
    names_field_lem row e h = rw e at h

    field_word_lem : (v : ℕ) (name : List ℕ) (i : ℕ) → row_for names (as_field_of v) name ≡ some i → IsWord (name_row_at names i).number
    unfolding serves variant_holds types_listed
    field_word_lem v name i e =
        let row = name_row_at names i in
        let own = row_serves sheet names named (as_field_of v) name i e in
        let kind = eqb-true row.kind 2 (and_left (eqb row.kind 2) (eqb row.owner v) own.0) in
        let both = names_field_lem row kind own.1 in
        let variant = variant_at sheet row.owner in
        let there = ltb row.owner (variant_count sheet) in
        let inside = ltb-true row.number variant.count (and_right there (ltb row.number variant.count) both) in
        let old = sheet_variant sheet holds row.owner (ltb-true row.owner (variant_count sheet) (and_left there (ltb row.number variant.count) both)) in
        let table = in_table variant.fields variant.count (list_count sheet) in
        let types = all_in (names_type sheet) (listed sheet 1 variant.fields variant.count) in
        let listing =
        leb-true (variant.fields + variant.count) (list_count sheet) (and_left table types (and_left (table && types) (in_table variant.discriminant 16 (data_count sheet)) old))
        in
        omega (arith, inside, listing, words)

    -- any node
    pub brings : (c : Context) (n : Node) (at many : ℕ) → ellipsis_fits n ≡ true → BringsWords (resolved sheet names at n many c).making
    unfolding resolved resolved_field
    brings (typed t mode) n at many e = node_brings n many t mode e
    brings (rest_among t others mode) n at many e = rest_brings (binds_in n) at t others mode
    brings (field_at t v mode) n at many e =
        let name = field_name n in
        where_brings (as_field_of v) name.bytes (row_for names (as_field_of v) name.bytes) name
        (λ number. resolved_to (Making.field_made number) (field_part (variant_fields_of sheet t v) mode number)) refl (λ i q. field_word_lem v name.bytes i q)
    brings partless n at many e = tt
    brings unseen n at many e = tt
