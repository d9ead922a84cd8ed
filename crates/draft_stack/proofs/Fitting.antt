-- What a node of a well formed tree is read at suits where it stands, so that what is made of it takes the words of its parts and puts one word
-- for a pattern or a bound, two for a field. Assumes nothing.
use Prim.Native.Nat.{ℕ, suc, ◌+◌, ◌-◌, ◌*◌, ◌≤◌}
use mathlib.Core.Path.{◌≡◌, refl, sym, ap}
use mathlib.Core.Bool.{Bool, true, false, cond, ◌&&◌, ◌||◌, true≢false, false≢true}
use mathlib.Core.Option.{Option, none, some, some-ne-none}
use mathlib.Core.List.{List}
use native.Mathlib.Omega.{arith}
use borrow.Author.Tests.{leb-false, eqb-true, ne_eqb}
use lib.Dec.{eqb, leb, ltb}
use Rattle.image.specs.Rows.{type_at, list_at}
use Rattle.image.proofs.Bools.{and_right, and_true}
use Rattle.name_tables.specs.Names.{as_variant, as_constant, as_value, as_field_of, row_for, name_row_at}
use Rattle.pattern_syntax.specs.Written.{Name, Node, wildcard_node, rest_node, literal_node, bound_node, bound_path_node, range_node, path_node, ident_node, reference_node, tuple_node, tuple_struct_node, slice_node, record_node, field_node, or_node, Parts, no_parts, more, part_count}
use Rattle.pattern_syntax.specs.Formed.{literal_formed, node_formed, Stand, in_pattern, in_range, in_record, stands_in, may_stand, rest_place, may_be_rest, node_in, rest_part_formed}
use Rattle.pattern_typing.specs.Crossing.{Crossed, crossed, FieldTypes, tuple_fields, is_written_as, is_array, is_slice, variant_fields_of}
use Rattle.pattern_typing.specs.Contexts.{Context, typed, rest_among, field_at, partless, unseen, PartsRead, unseen_parts, same_parts, target_part, argument_parts, item_parts, field_parts, field_part, field_context, stands_before, argument_context, is_rest_item, item_context, target_context, part_context}
use Rattle.pattern_typing.specs.Making.{operand_named, field_made}
use Rattle.pattern_typing.specs.Resolving.{Resolved, resolved_to, Marked, refused_here, path_made, where_named, resolved_path, resolved_ident, rest_holds, resolved_bound_rest, resolved_rest, binds_in, field_name, tuple_struct_as, record_as, resolved_node, resolved_field, resolved}
use Rattle.draft_stack.specs.Stack.{words_each, words_put, may_have_parts}

-- how many words stand for what stands there
abbrev pub stand_words : Stand → ℕ
stand_words in_pattern = 1
stand_words in_range = 1
stand_words in_record = 2

-- what a node may be read at where it stands: a rest's context is met by `..` and names only
unfoldable pub context_suits : Stand → Context → Node → Bool
context_suits in_pattern (typed t mode) n = true
context_suits in_pattern (rest_among t others mode) n = may_be_rest n
context_suits in_pattern (field_at t v mode) n = false
context_suits in_pattern partless n = true
context_suits in_pattern unseen n = false
context_suits in_range (typed t mode) n = true
context_suits in_range (rest_among t others mode) n = false
context_suits in_range (field_at t v mode) n = false
context_suits in_range partless n = true
context_suits in_range unseen n = false
context_suits in_record (typed t mode) n = false
context_suits in_record (rest_among t others mode) n = false
context_suits in_record (field_at t v mode) n = true
context_suits in_record partless n = true
context_suits in_record unseen n = false

-- and so does each of the parts
unfoldable pub parts_suit : List ℕ → Stand → PartsRead → Parts → Bool
parts_suit sheet s reads no_parts = true
parts_suit sheet s reads (more ps w) = context_suits s (part_context sheet reads (part_count ps)) (node_in w) && parts_suit sheet s reads ps

-- what is made of a node takes its parts' words, puts its own, and its parts suit
pub record Suited (sheet : List ℕ) (n : Node) (ps : Parts) (put : ℕ) (r : Resolved) : Type 0 where
  pub each : words_each r.making ≡ stand_words (stands_in n)
  pub fine : may_have_parts r.making (part_count ps) ≡ true
  pub puts : words_put r.making (stand_words (stands_in n) * part_count ps) ≡ put
  pub reads : parts_suit sheet (stands_in n) r.reads ps ≡ true

module _ (sheet : List ℕ) where
  -- no parts
  leaf_suits : (s : Stand) (reads : PartsRead) (ps : Parts) → part_count ps ≡ 0 → parts_suit sheet s reads ps ≡ true
  unfolding parts_suit part_count
  leaf_suits s reads no_parts e = refl
  leaf_suits s reads (more ps w) e = absurd (omega arith)

  -- parts that are read at what suits anything
  all_suit : (s : Stand) (reads : PartsRead) → ((i : ℕ) (n : Node) → context_suits s (part_context sheet reads i) n ≡ true) → (ps : Parts) → parts_suit sheet s reads ps ≡ true
  unfolding parts_suit
  all_suit s reads every no_parts = refl
  all_suit s reads every (more ps w) =
      and_true (context_suits s (part_context sheet reads (part_count ps)) (node_in w)) (parts_suit sheet s reads ps) (every (part_count ps) (node_in w)) (all_suit s reads every ps)

  -- typed, or without a part
  either_suits : (b : Bool) (t mode : ℕ) (n : Node) → context_suits in_pattern (cond b (typed t mode) partless) n ≡ true
  unfolding context_suits
  either_suits true t mode n = refl
  either_suits false t mode n = refl

  field_suits : (fields : FieldTypes) (mode i : ℕ) (n : Node) → context_suits in_pattern (field_context sheet fields mode i) n ≡ true
  unfolding field_context
  field_suits fields mode i n = either_suits (ltb i fields.count) (list_at sheet (fields.start + i)) mode n

  argument_suits : (fields : FieldTypes) (mode : ℕ) (before : Option ℕ) (many i : ℕ) (n : Node) → context_suits in_pattern (argument_context sheet fields mode before many i) n ≡ true
  unfolding argument_context
  argument_suits fields mode before many i n = one (stands_before before i) (leb many (fields.count + i)) (fields.count + i - many)
    where
      two : (b : Bool) (j : ℕ) → context_suits in_pattern (cond b (field_context sheet fields mode j) partless) n ≡ true
      two true j = field_suits fields mode j n
      two false j = unfold context_suits in refl

      one : (b c : Bool) (j : ℕ) → context_suits in_pattern (cond b (field_context sheet fields mode i) (cond c (field_context sheet fields mode j) partless)) n ≡ true
      one true c j = field_suits fields mode i n
      one false c j = two c j

  target_suits : (mutable : Bool) (t : ℕ) (n : Node) → context_suits in_pattern (target_context sheet mutable t) n ≡ true
  unfolding target_context
  target_suits mutable t n = either_suits (is_written_as sheet mutable t) (type_at sheet t).a 0 n

  -- the rest lies past the first parts
  before_rest_lem : (before : ℕ) (ps : Parts) → part_count ps ≤ before → rest_part_formed (some before) ps ≡ true
  unfolding rest_part_formed part_count
  before_rest_lem before no_parts h = refl
  before_rest_lem before (more ps w) h =
      rw (ne_eqb before (part_count ps) (λ (e : before ≡ part_count ps). omega (arith, h))) (before_rest_lem before ps (omega arith))

  -- an item of a slice pattern, by whether it is the rest
  item_context_suits : (b : Bool) (t mode others : ℕ) (n : Node) → cond b (may_be_rest n) true ≡ true → context_suits in_pattern (cond b (rest_among t others mode) (cond (is_array sheet t || is_slice sheet t) (typed (type_at sheet t).a mode) partless)) n ≡ true
  item_context_suits true t mode others n e = unfold context_suits in e
  item_context_suits false t mode others n e = either_suits (is_array sheet t || is_slice sheet t) (type_at sheet t).a mode n

  -- the rest is the last part, or among those before it
  rest_is_lem : (before : ℕ) (ps : Parts) (n : Node) (b : Bool) → eqb before (part_count ps) ≡ b → cond b (may_be_rest n) (rest_part_formed (some before) ps) ≡ true → (cond b (may_be_rest n) true ≡ true) × (rest_part_formed (some before) ps ≡ true)
  rest_is_lem before ps n true q e = (e, before_rest_lem before ps (omega (arith, eqb-true before (part_count ps) q)))
  rest_is_lem before ps n false q e = (refl, e)

  item_suits : (t mode : ℕ) (before : Option ℕ) (many : ℕ) (ps : Parts) → rest_part_formed before ps ≡ true → parts_suit sheet in_pattern (item_parts t mode before many) ps ≡ true
  unfolding parts_suit part_context item_context is_rest_item rest_part_formed
  item_suits t mode before many no_parts e = refl
  item_suits t mode none many (more ps w) e =
      and_true (context_suits in_pattern (item_context sheet t mode none many (part_count ps)) (node_in w)) (parts_suit sheet in_pattern (item_parts t mode none many) ps)
      (item_context_suits false t mode (many - 1) (node_in w) refl)
      (item_suits t mode none many ps refl)
  item_suits t mode (some before) many (more ps w) e =
      let known = rest_is_lem before ps (node_in w) (eqb before (part_count ps)) refl e in
      and_true (context_suits in_pattern (item_context sheet t mode (some before) many (part_count ps)) (node_in w)) (parts_suit sheet in_pattern (item_parts t mode (some before) many) ps)
      (item_context_suits (eqb before (part_count ps)) t mode (many - 1) (node_in w) known.0)
      (item_suits t mode (some before) many ps known.1)

  -- a pattern or a bound
  module _ (names : List ℕ) (at : ℕ) (ps : Parts) where
    -- a leaf: what is made of it has no parts
    leaf : (n : Node) (r : Resolved) → part_count ps ≡ 0 → words_each r.making ≡ stand_words (stands_in n) → may_have_parts r.making (part_count ps) ≡ true → words_put r.making (stand_words (stands_in n) * part_count ps) ≡ 1 → Suited sheet n ps 1 r
    leaf n r e each fine puts = record { each = each; fine = fine; puts = puts; reads = leaf_suits (stands_in n) r.reads ps e }

    path_suited : (n : Node) (row : Option ℕ) (name : Name) (c : Crossed) → stands_in n ≡ in_pattern → part_count ps ≡ 0 → (resolved_path names row name c).refused_at ≡ none → Suited sheet n ps 1 (resolved_path names row name c)
    unfolding resolved_path path_made words_each words_put may_have_parts
    path_suited n none name c s e free = absurd (some-ne-none name.at free)
    path_suited n (some row) name c s e free = leaf n (resolved_path names (some row) name c) e (sym (ap stand_words s)) refl refl

    last_false : (x y z : Bool) → (x || y || z) ≡ false → z ≡ false
    last_false true true z e = absurd (true≢false e)
    last_false true false z e = absurd (true≢false e)
    last_false false true z e = absurd (true≢false e)
    last_false false false z e = e

    -- a name alone that is a variant's or a constant's
    constant_suited : (b : Bool) (row : ℕ) (m : Marked) (c : Crossed) → (m.reference || m.mutable || leb 1 (part_count ps)) ≡ b → (cond b (refused_here m.called.at) (resolved_path names (some row) m.called c)).refused_at ≡ none → Suited sheet (ident_node m.reference m.mutable m.called) ps 1 (cond b (refused_here m.called.at) (resolved_path names (some row) m.called c))
    constant_suited true row m c e free = absurd (some-ne-none m.called.at free)
    constant_suited false row m c e free =
        path_suited (ident_node m.reference m.mutable m.called) (some row) m.called c (unfold stands_in in refl)
        (omega (arith, leb-false 1 (part_count ps) (last_false m.reference m.mutable (leb 1 (part_count ps)) e))) free

    -- `ref`, `mut` or `@` make a binding
    ident_suited : (row : Option ℕ) (m : Marked) (t mode : ℕ) → (resolved_ident sheet names row m t mode (part_count ps)).refused_at ≡ none → Suited sheet (ident_node m.reference m.mutable m.called) ps 1 (resolved_ident sheet names row m t mode (part_count ps))
    unfolding resolved_ident words_each words_put may_have_parts stands_in
    ident_suited none m t mode free =
        record { each = refl; fine = refl; puts = refl; reads = all_suit in_pattern (same_parts t mode) (λ i n. unfold part_context context_suits in refl) ps }
    ident_suited (some row) m t mode free = constant_suited (m.reference || m.mutable || leb 1 (part_count ps)) row m (crossed sheet t mode) refl free

    -- where the name is in the table
    named_suited : (n : Node) (put : ℕ) (row : Option ℕ) (name : Name) (go : ℕ → Resolved) → ((number : ℕ) → Suited sheet n ps put (go number)) → (where_named names row name go).refused_at ≡ none → Suited sheet n ps put (where_named names row name go)
    unfolding where_named
    named_suited n put none name go suits free = absurd (some-ne-none name.at free)
    named_suited n put (some row) name go suits free = suits (name_row_at names row).number

    -- arguments of a tuple or a tuple struct
    arguments_suit : (fields : FieldTypes) (mode : ℕ) (before : Option ℕ) (many : ℕ) → parts_suit sheet in_pattern (argument_parts fields mode before many) ps ≡ true
    arguments_suit fields mode before many =
        all_suit in_pattern (argument_parts fields mode before many) (λ i n. unfold part_context in argument_suits fields mode before many i n) ps

    -- a pattern or a bound of a type
    typed_suited : (n : Node) (t mode : ℕ) → node_formed n (part_count ps) ≡ true → rest_part_formed (rest_place n) ps ≡ true → (resolved_node sheet names n (part_count ps) t mode).refused_at ≡ none → Suited sheet n ps 1 (resolved_node sheet names n (part_count ps) t mode)
    unfolding resolved_node node_formed stands_in words_each words_put may_have_parts rest_place
    typed_suited wildcard_node t mode f r free = leaf wildcard_node (resolved_node sheet names wildcard_node (part_count ps) t mode) (eqb-true (part_count ps) 0 f) refl refl refl
    typed_suited rest_node t mode f r free = leaf rest_node (resolved_node sheet names rest_node (part_count ps) t mode) (eqb-true (part_count ps) 0 f) refl refl refl
    typed_suited (literal_node v) t mode f r free =
        leaf (literal_node v) (resolved_node sheet names (literal_node v) (part_count ps) t mode) (eqb-true (part_count ps) 0 (and_right (literal_formed v) (eqb (part_count ps) 0) f)) refl refl refl
    typed_suited (bound_node v) t mode f r free =
        leaf (bound_node v) (resolved_node sheet names (bound_node v) (part_count ps) t mode) (eqb-true (part_count ps) 0 (and_right (literal_formed v) (eqb (part_count ps) 0) f)) refl refl refl
    typed_suited (bound_path_node n) t mode f r free =
        named_suited (bound_path_node n) 1 (row_for names as_constant n.bytes) n (λ number. resolved_to (operand_named number) unseen_parts)
        (λ number. leaf (bound_path_node n) (resolved_to (operand_named number) unseen_parts) (eqb-true (part_count ps) 0 f) refl refl refl) free
    typed_suited (range_node lower upper dots) t mode f r free =
        record { each = refl; fine = f; puts = refl; reads = all_suit in_range (same_parts t mode) (λ i n. unfold part_context context_suits in refl) ps }
    typed_suited (path_node n) t mode f r free = path_suited (path_node n) (row_for names as_value n.bytes) n (crossed sheet t mode) refl (eqb-true (part_count ps) 0 f) free
    typed_suited (ident_node ref mut n) t mode f r free = ident_suited (row_for names as_value n.bytes) (record { reference = ref; mutable = mut; called = n }) t mode free
    typed_suited (reference_node m) t mode f r free =
        record { each = refl; fine = refl; puts = refl; reads = all_suit in_pattern (target_part m t) (λ i n. unfold part_context in target_suits m t n) ps }
    typed_suited (tuple_node before) t mode f r free =
        record { each = refl; fine = refl; puts = refl; reads = arguments_suit (tuple_fields sheet (crossed sheet t mode).ty) (crossed sheet t mode).mode before (part_count ps) }
    typed_suited (tuple_struct_node n before) t mode f r free =
        named_suited (tuple_struct_node n before) 1 (row_for names as_variant n.bytes) n (tuple_struct_as sheet (crossed sheet t mode) before (part_count ps))
        (λ v. unfold tuple_struct_as in record { each = refl; fine = refl; puts = refl; reads = arguments_suit (variant_fields_of sheet (crossed sheet t mode).ty v) (crossed sheet t mode).mode before (part_count ps) }) free
    typed_suited (slice_node before) t mode f r free =
        record { each = refl; fine = f; puts = refl; reads = item_suits (crossed sheet t mode).ty (crossed sheet t mode).mode before (part_count ps) ps r }
    typed_suited (record_node n) t mode f r free =
        named_suited (record_node n) 1 (row_for names as_variant n.bytes) n (record_as (crossed sheet t mode))
        (λ v. unfold record_as in record { each = refl; fine = refl; puts = refl; reads = all_suit in_record (field_parts (crossed sheet t mode).ty v (crossed sheet t mode).mode) (λ i k. unfold part_context context_suits in refl) ps }) free
    typed_suited (field_node n) t mode f r free = absurd (some-ne-none n.at free)
    typed_suited or_node t mode f r free =
        record { each = refl; fine = refl; puts = refl; reads = all_suit in_pattern (same_parts t mode) (λ i n. unfold part_context context_suits in refl) ps }

    -- a slice's rest
    bound_rest_suited : (row : Option ℕ) (m : Marked) (t others mode : ℕ) → (resolved_bound_rest sheet row m t others mode).refused_at ≡ none → Suited sheet (ident_node m.reference m.mutable m.called) ps 1 (resolved_bound_rest sheet row m t others mode)
    unfolding resolved_bound_rest words_each words_put may_have_parts stands_in
    bound_rest_suited none m t others mode free =
        record { each = refl; fine = refl; puts = refl; reads = all_suit in_pattern (same_parts t mode) (λ i n. unfold part_context context_suits in refl) ps }
    bound_rest_suited (some row) m t others mode free = absurd (some-ne-none m.called.at free)

    held_suited : (b : Bool) (n : Node) (r : Resolved) → (r.refused_at ≡ none → Suited sheet n ps 1 r) → (cond b r (refused_here at)).refused_at ≡ none → Suited sheet n ps 1 (cond b r (refused_here at))
    held_suited true n r suits free = suits free
    held_suited false n r suits free = absurd (some-ne-none at free)

    rest_suited : (n : Node) (t others mode : ℕ) → may_be_rest n ≡ true → node_formed n (part_count ps) ≡ true → (resolved_rest sheet names at (binds_in n) t others mode).refused_at ≡ none → Suited sheet n ps 1 (resolved_rest sheet names at (binds_in n) t others mode)
    unfolding may_be_rest node_formed binds_in resolved_rest
    rest_suited wildcard_node t others mode e f free = absurd (false≢true e)
    rest_suited rest_node t others mode e f free = leaf rest_node (resolved_rest sheet names at none t others mode) (eqb-true (part_count ps) 0 f) (unfold words_each stands_in in refl) (unfold may_have_parts in refl) (unfold words_put in refl)
    rest_suited (literal_node v) t others mode e f free = absurd (false≢true e)
    rest_suited (bound_node v) t others mode e f free = absurd (false≢true e)
    rest_suited (bound_path_node n) t others mode e f free = absurd (false≢true e)
    rest_suited (range_node lower upper dots) t others mode e f free = absurd (false≢true e)
    rest_suited (path_node n) t others mode e f free = absurd (false≢true e)
    rest_suited (ident_node ref mut n) t others mode e f free =
        let m : Marked = record { reference = ref; mutable = mut; called = n } in
        held_suited (rest_holds sheet t others) (ident_node ref mut n) (resolved_bound_rest sheet (row_for names as_value n.bytes) m t others mode)
        (bound_rest_suited (row_for names as_value n.bytes) m t others mode) free
    rest_suited (reference_node m) t others mode e f free = absurd (false≢true e)
    rest_suited (tuple_node before) t others mode e f free = absurd (false≢true e)
    rest_suited (tuple_struct_node n before) t others mode e f free = absurd (false≢true e)
    rest_suited (slice_node before) t others mode e f free = absurd (false≢true e)
    rest_suited (record_node n) t others mode e f free = absurd (false≢true e)
    rest_suited (field_node n) t others mode e f free = absurd (false≢true e)
    rest_suited or_node t others mode e f free = absurd (false≢true e)

    -- a record's field: its number and its pattern
    field_suited : (n : Node) (t v mode : ℕ) → may_stand n in_record ≡ true → node_formed n (part_count ps) ≡ true → (resolved_field sheet names (field_name n) t v mode).refused_at ≡ none → Suited sheet n ps 2 (resolved_field sheet names (field_name n) t v mode)
    unfolding may_stand node_formed field_name resolved_field
    field_suited wildcard_node t v mode e f free = absurd (false≢true e)
    field_suited rest_node t v mode e f free = absurd (false≢true e)
    field_suited (literal_node l) t v mode e f free = absurd (false≢true e)
    field_suited (bound_node l) t v mode e f free = absurd (false≢true e)
    field_suited (bound_path_node n) t v mode e f free = absurd (false≢true e)
    field_suited (range_node lower upper dots) t v mode e f free = absurd (false≢true e)
    field_suited (path_node n) t v mode e f free = absurd (false≢true e)
    field_suited (ident_node ref mut n) t v mode e f free = absurd (false≢true e)
    field_suited (reference_node m) t v mode e f free = absurd (false≢true e)
    field_suited (tuple_node before) t v mode e f free = absurd (false≢true e)
    field_suited (tuple_struct_node n before) t v mode e f free = absurd (false≢true e)
    field_suited (slice_node before) t v mode e f free = absurd (false≢true e)
    field_suited (record_node n) t v mode e f free = absurd (false≢true e)
    field_suited (field_node n) t v mode e f free =
        let fields = variant_fields_of sheet t v in
        named_suited (field_node n) 2 (row_for names (as_field_of v) n.bytes) n (λ number. resolved_to (field_made number) (field_part fields mode number))
        (λ number. record {
          each = unfold words_each stands_in in refl;
          fine = unfold may_have_parts in f;
          puts = unfold words_put stands_in in ap (λ (k : ℕ). suc (1 * k)) (eqb-true (part_count ps) 1 f);
          reads = unfold stands_in in all_suit in_pattern (field_part fields mode number) (λ i k. unfold part_context in field_suits fields mode number k) ps;
        }) free
    field_suited or_node t v mode e f free = absurd (false≢true e)

    -- every node, by where it stands and what it is read at
    pub node_suited : (n : Node) (s : Stand) (context : Context) → may_stand n s ≡ true → node_formed n (part_count ps) ≡ true → rest_part_formed (rest_place n) ps ≡ true → context_suits s context n ≡ true → (resolved sheet names at n (part_count ps) context).refused_at ≡ none → Suited sheet n ps (stand_words s) (resolved sheet names at n (part_count ps) context)
    unfolding context_suits resolved
    node_suited n in_pattern (typed t mode) e f r c free = typed_suited n t mode f r free
    node_suited n in_pattern (rest_among t others mode) e f r c free = rest_suited n t others mode c f free
    node_suited n in_pattern (field_at t v mode) e f r c free = absurd (false≢true c)
    node_suited n in_pattern partless e f r c free = absurd (some-ne-none at free)
    node_suited n in_pattern unseen e f r c free = absurd (false≢true c)
    node_suited n in_range (typed t mode) e f r c free = typed_suited n t mode f r free
    node_suited n in_range (rest_among t others mode) e f r c free = absurd (false≢true c)
    node_suited n in_range (field_at t v mode) e f r c free = absurd (false≢true c)
    node_suited n in_range partless e f r c free = absurd (some-ne-none at free)
    node_suited n in_range unseen e f r c free = absurd (false≢true c)
    node_suited n in_record (typed t mode) e f r c free = absurd (false≢true c)
    node_suited n in_record (rest_among t others mode) e f r c free = absurd (false≢true c)
    node_suited n in_record (field_at t v mode) e f r c free = field_suited n t v mode e f free
    node_suited n in_record partless e f r c free = absurd (some-ne-none at free)
    node_suited n in_record unseen e f r c free = absurd (false≢true c)
