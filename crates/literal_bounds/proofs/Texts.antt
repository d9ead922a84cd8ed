-- What is made of a tree has the tree's literals, so that those of every text's tree have 16 bytes or fewer. Assumes nothing.
use Prim.Native.Nat.{ℕ}
use mathlib.Core.Path.{◌≡◌, refl}
use mathlib.Core.Bool.{Bool, true, false, cond, ◌||◌}
use mathlib.Core.Option.{Option, none, some}
use mathlib.Core.List.{List, [], ◌∷◌, ◌++◌}
use native.Mathlib.Omega.{arith}
use lib.Dec.{ltb, leb}
use lib.ListN.{length}
use Rattle.image.proofs.Bools.{and_left, and_right, and_true}
use Rattle.name_tables.specs.Names.{as_variant, as_constant, as_value, as_field_of, row_for, name_row_at}
use Rattle.pattern_grammar.specs.Lexemes.{Spot, strictly}
use Rattle.pattern_grammar.specs.Trees.{Pattern}
use Rattle.pattern_grammar.specs.Machine.{done, failed, feed, fresh}
use Rattle.pattern_grammar.specs.Parsed.{lexemes, parsed}
use Rattle.pattern_grammar.proofs.Endings.{text_over}
use Rattle.pattern_grammar.proofs.Kept.{read_admitted}
use Rattle.pattern_syntax.specs.Written.{Name, Node, wildcard_node, rest_node, literal_node, bound_node, bound_path_node, range_node, path_node, ident_node, reference_node, tuple_node, tuple_struct_node, slice_node, record_node, field_node, or_node, Written, written, Parts, no_parts, more, part_count}
use Rattle.pattern_syntax.specs.Reduced.{reduced}
use Rattle.pattern_typing.specs.Crossing.{Crossed, crossed, variant_fields_of}
use Rattle.pattern_typing.specs.Contexts.{Context, typed, rest_among, field_at, partless, unseen, PartsRead, part_context, unseen_parts, field_part}
use Rattle.pattern_typing.specs.Making.{operand_named, field_made}
use Rattle.pattern_typing.specs.Closed.{ClosedMaking, closed_making, makings, makings_among}
use Rattle.pattern_typing.specs.Resolving.{Resolved, Marked, refused_here, resolved_to, where_named, path_made, resolved_path, resolved_ident, rest_holds, resolved_bound_rest, resolved_rest, binds_in, field_name, tuple_struct_as, record_as, resolved_node, resolved_field, resolved}
use Rattle.pattern_reading.specs.Reads.{tree_is, outcome}
use Rattle.tree_forms.proofs.Forms.{tree_read}
use Rattle.draft_makings.specs.Makings.{making_fits, literals_fit}
use Rattle.literal_bounds.specs.Bounds.{node_fits, tree_fits, parts_fit, TextLiteralsFit}
use Rattle.literal_bounds.proofs.Trees.{admitted_fits}

-- one row behind another
fit_both : (xs ys : List ClosedMaking) → literals_fit xs ≡ true → literals_fit ys ≡ true → literals_fit (xs ++ ys) ≡ true
unfolding literals_fit
fit_both [] ys e f = f
fit_both (x ∷ xs) ys e f =
    let own = making_fits x.makes in
    and_true own (literals_fit (xs ++ ys)) (and_left own (literals_fit xs) e) (fit_both xs ys (and_right own (literals_fit xs) e) f)

module _ (sheet names : List ℕ) where
  -- what is made has no literal but the node's
  abbrev Made : Resolved → Type 0
  Made r = making_fits r.making ≡ true

  either : (b : Bool) (x y : Resolved) → Made x → Made y → Made (cond b x y)
  either true x y h g = h
  either false x y h g = g

  named_made : (row : Option ℕ) (name : Name) (go : ℕ → Resolved) → ((number : ℕ) → Made (go number)) → Made (where_named names row name go)
  unfolding where_named making_fits
  named_made none name go h = refl
  named_made (some row) name go h = h (name_row_at names row).number

  path_made_lem : (row : Option ℕ) (name : Name) (c : Crossed) → Made (resolved_path names row name c)
  unfolding resolved_path path_made making_fits
  path_made_lem none name c = refl
  path_made_lem (some row) name c = refl

  ident_made : (row : Option ℕ) (m : Marked) (t mode many : ℕ) → Made (resolved_ident sheet names row m t mode many)
  unfolding resolved_ident making_fits
  ident_made none m t mode many = refl
  ident_made (some row) m t mode many =
      either (m.reference || m.mutable || leb 1 many) (refused_here m.called.at) (resolved_path names (some row) m.called (crossed sheet t mode)) refl
      (path_made_lem (some row) m.called (crossed sheet t mode))

  node_made : (n : Node) (many t mode : ℕ) → node_fits n ≡ true → Made (resolved_node sheet names n many t mode)
  unfolding resolved_node node_fits making_fits tuple_struct_as record_as
  node_made wildcard_node many t mode e = refl
  node_made rest_node many t mode e = refl
  node_made (literal_node v) many t mode e = e
  node_made (bound_node v) many t mode e = e
  node_made (bound_path_node n) many t mode e =
      named_made (row_for names as_constant n.bytes) n (λ number. resolved_to (operand_named number) unseen_parts) (λ number. refl)
  node_made (range_node lower upper dots) many t mode e = refl
  node_made (path_node n) many t mode e = path_made_lem (row_for names as_value n.bytes) n (crossed sheet t mode)
  node_made (ident_node r m n) many t mode e = ident_made (row_for names as_value n.bytes) (record { reference = r; mutable = m; called = n }) t mode many
  node_made (reference_node m) many t mode e = refl
  node_made (tuple_node before) many t mode e = refl
  node_made (tuple_struct_node n before) many t mode e =
      named_made (row_for names as_variant n.bytes) n (tuple_struct_as sheet (crossed sheet t mode) before many) (λ number. refl)
  node_made (slice_node before) many t mode e = refl
  node_made (record_node n) many t mode e = named_made (row_for names as_variant n.bytes) n (record_as (crossed sheet t mode)) (λ number. refl)
  node_made (field_node n) many t mode e = refl
  node_made or_node many t mode e = refl

  bound_rest_made : (row : Option ℕ) (m : Marked) (t others mode : ℕ) → Made (resolved_bound_rest sheet row m t others mode)
  unfolding resolved_bound_rest making_fits
  bound_rest_made none m t others mode = refl
  bound_rest_made (some row) m t others mode = refl

  rest_made_lem : (at : ℕ) (b : Option Marked) (t others mode : ℕ) → Made (resolved_rest sheet names at b t others mode)
  unfolding resolved_rest making_fits
  rest_made_lem at none t others mode = refl
  rest_made_lem at (some m) t others mode =
      either (rest_holds sheet t others) (resolved_bound_rest sheet (row_for names as_value m.called.bytes) m t others mode) (refused_here at)
      (bound_rest_made (row_for names as_value m.called.bytes) m t others mode) refl

  resolved_made : (at : ℕ) (n : Node) (many : ℕ) (context : Context) → node_fits n ≡ true → Made (resolved sheet names at n many context)
  unfolding resolved resolved_field making_fits
  resolved_made at n many (typed t mode) e = node_made n many t mode e
  resolved_made at n many (rest_among t others mode) e = rest_made_lem at (binds_in n) t others mode
  resolved_made at n many (field_at t v mode) e =
      named_made (row_for names (as_field_of v) (field_name n).bytes) (field_name n)
      (λ number. resolved_to (field_made number) (field_part (variant_fields_of sheet t v) mode number)) (λ number. refl)
  resolved_made at n many partless e = refl
  resolved_made at n many unseen e = refl

  mutual
    unfolding tree_fits parts_fit makings makings_among literals_fit

    pub tree_made : (w : Written) (context : Context) → tree_fits w ≡ true → literals_fit (makings sheet names w context) ≡ true
    tree_made (written at n ps) context e =
        let r = resolved sheet names at n (part_count ps) context in
        fit_both (makings_among sheet names ps r.reads) (closed_making r.making (part_count ps) ∷ [])
        (parts_made ps r.reads (and_right (node_fits n) (parts_fit ps) e))
        (and_true (making_fits r.making) true (resolved_made at n (part_count ps) context (and_left (node_fits n) (parts_fit ps) e)) refl)

    parts_made : (ps : Parts) (reads : PartsRead) → parts_fit ps ≡ true → literals_fit (makings_among sheet names ps reads) ≡ true
    parts_made no_parts reads e = refl
    parts_made (more ps w) reads e =
        let context = part_context sheet reads (part_count ps) in
        fit_both (makings_among sheet names ps reads) (makings sheet names w context)
        (parts_made ps reads (and_left (parts_fit ps) (tree_fits w) e)) (tree_made w context (and_right (parts_fit ps) (tree_fits w) e))

-- the tree of a text
text_fits : (text : List ℕ) (p : Pattern) → outcome (parsed text) ≡ tree_is p → tree_fits (reduced text p) ≡ true
unfolding parsed
text_fits text p h =
    let read = tree_read (parsed text) p (text_over text) h in
    by (ltb 16384 (length text)) read.0 read.1
  where
    by : (b : Bool) (e : Spot) → cond b (failed 16384) (feed (strictly text) (lexemes text) fresh) ≡ done p e → tree_fits (reduced text p) ≡ true
    by true e q =
        let z : ◌≡◌ {A = ℕ} 0 1 = cc in
        absurd (omega arith)
    by false e q = admitted_fits text p (read_admitted (strictly text) (lexemes text) p e q)

-- The theorem: no literal among what is made of a text's nodes is longer than 16 bytes.
pub text_literals_fit : (text : List ℕ) (p : Pattern) → TextLiteralsFit text p
text_literals_fit text p h sheet names context = tree_made sheet names (reduced text p) context (text_fits text p h)
