-- A draft only grows: what a pattern adds stands behind what is there. Assumes nothing.
use Prim.Native.Nat.{ℕ, ◌≤◌, ◌<◌}
use mathlib.Core.Path.{◌≡◌, refl, sym, ap, ◌∙◌}
use mathlib.Core.Bool.{Bool, true, false, cond}
use mathlib.Core.Option.{Option, none, some}
use mathlib.Core.List.{List, [], ◌∷◌, ◌++◌, append_assoc, append-nil}
use native.Mathlib.Omega.{arith}
use lib.Dec.{eqb}
use lib.ListN.{length, get_or, length-append, get_or-append}
use Rattle.image.specs.declared.rows.TypeRow.{TypeRow}
use Rattle.image.specs.declared.rows.PatRow.{PatRow}
use Rattle.image.specs.declared.rows.BindingRow.{BindingRow}
use Rattle.pattern_syntax.specs.Written.{LiteralValue, Written, written, Parts, no_parts, more, part_count}
use Rattle.pattern_typing.specs.Contexts.{Context, PartsRead, part_context}
use Rattle.pattern_typing.specs.Making.{BoundAt, bound_at_type, bound_at_array, Making, not_made, row_made, literal_made, operand_made, operand_named, range_made, bind_made, reference_made, list_made, slice_made, field_made}
use Rattle.pattern_typing.specs.Resolving.{resolved}
use Rattle.pattern_images.specs.Drafts.{Draft, add_type, add_pattern, add_binding, add_words, add_bytes, add_operand, add_unless, with_type, like_in, literal_bytes, binding_for}
use Rattle.pattern_images.specs.Emitting.{item_words, reference_row, array_row, with_bound_at, bound_type, with_mode, new_binding, with_binding, emit_node, emitted, emitted_parts}

-- a list begins with another
pub record Begins {A : Type 0} (xs ys : List A) : Type 0 where
  pub rest : List A
  pub is : ys ≡ xs ++ rest

module _ {A : Type 0} where
  pub begins_same : (xs : List A) → Begins xs xs
  begins_same xs = record { rest = []; is = sym (append-nil xs) }

  pub begins_more : (xs ys : List A) → Begins xs (xs ++ ys)
  begins_more xs ys = record { rest = ys; is = refl }

  pub begins_on : {xs ys zs : List A} → Begins xs ys → Begins ys zs → Begins xs zs
  begins_on {xs} {ys} {zs} f g =
      record { rest = f.rest ++ g.rest; is = g.is ∙ (ap (λ (l : List A). l ++ g.rest) f.is ∙ append_assoc xs f.rest g.rest) }

  pub begins_long : {xs ys : List A} → Begins xs ys → length xs ≤ length ys
  begins_long {xs} {ys} f = omega (arith, ap length f.is, length-append xs f.rest)

  pub begins_at : {xs ys : List A} → Begins xs ys → (i : ℕ) (other : A) → i < length xs → get_or ys i other ≡ get_or xs i other
  begins_at {xs} {ys} f i other lt = ap (λ (l : List A). get_or l i other) f.is ∙ get_or-append xs f.rest other i lt

-- each table of a draft begins with another's
pub record Extends (d e : Draft) : Type 0 where
  pub types : Begins d.types e.types
  pub patterns : Begins d.patterns e.patterns
  pub bindings : Begins d.bindings e.bindings
  pub words : Begins d.words e.words
  pub bytes : Begins d.bytes e.bytes

pub extends_same : (d : Draft) → Extends d d
extends_same d =
    record {
      types = begins_same d.types;
      patterns = begins_same d.patterns;
      bindings = begins_same d.bindings;
      words = begins_same d.words;
      bytes = begins_same d.bytes;
    }

pub extends_on : {d e f : Draft} → Extends d e → Extends e f → Extends d f
extends_on x y =
    record {
      types = begins_on x.types y.types;
      patterns = begins_on x.patterns y.patterns;
      bindings = begins_on x.bindings y.bindings;
      words = begins_on x.words y.words;
      bytes = begins_on x.bytes y.bytes;
    }

-- one more at a table's end
pub extends_type : (row : TypeRow) (d : Draft) → Extends d (add_type row d)
unfolding add_type
extends_type row d =
    record {
      types = begins_more d.types (row ∷ []);
      patterns = begins_same d.patterns;
      bindings = begins_same d.bindings;
      words = begins_same d.words;
      bytes = begins_same d.bytes;
    }

pub extends_pattern : (row : PatRow) (d : Draft) → Extends d (add_pattern row d)
unfolding add_pattern
extends_pattern row d =
    record {
      types = begins_same d.types;
      patterns = begins_more d.patterns (row ∷ []);
      bindings = begins_same d.bindings;
      words = begins_same d.words;
      bytes = begins_same d.bytes;
    }

pub extends_binding : (row : BindingRow) (name : List ℕ) (d : Draft) → Extends d (add_binding row name d)
unfolding add_binding
extends_binding row name d =
    record {
      types = begins_same d.types;
      patterns = begins_same d.patterns;
      bindings = begins_more d.bindings (row ∷ []);
      words = begins_same d.words;
      bytes = begins_same d.bytes;
    }

pub extends_words : (ws : List ℕ) (d : Draft) → Extends d (add_words ws d)
unfolding add_words
extends_words ws d =
    record {
      types = begins_same d.types;
      patterns = begins_same d.patterns;
      bindings = begins_same d.bindings;
      words = begins_more d.words ws;
      bytes = begins_same d.bytes;
    }

pub extends_bytes : (bs : List ℕ) (d : Draft) → Extends d (add_bytes bs d)
unfolding add_bytes
extends_bytes bs d =
    record {
      types = begins_same d.types;
      patterns = begins_same d.patterns;
      bindings = begins_same d.bindings;
      words = begins_same d.words;
      bytes = begins_more d.bytes bs;
    }

module _ (sheet : List ℕ) where
  pub extends_operand : (v : LiteralValue) (d : Draft) → Extends d (add_operand sheet v d)
  unfolding add_operand
  extends_operand v d = extends_on (extends_words _ d) (extends_bytes (literal_bytes v) _)

  pub extends_unless : (o : Option ℕ) (row : TypeRow) (d : Draft) → Extends d (add_unless o row d)
  unfolding add_unless
  extends_unless none row d = extends_type row d
  extends_unless (some t) row d = extends_same d

  pub extends_bound_at : (at : BoundAt) (d : Draft) → Extends d (with_bound_at sheet at d)
  unfolding with_bound_at
  extends_bound_at (bound_at_type t) d = extends_same d
  extends_bound_at (bound_at_array element many copy) d = extends_unless (like_in sheet d (array_row element many copy)) (array_row element many copy) d

  pub extends_mode : (mode t : ℕ) (d : Draft) → Extends d (with_mode sheet mode t d)
  unfolding with_mode
  extends_mode mode t d = by (eqb mode _)
    where
      by : (b : Bool) → Extends d (cond b d (with_type sheet (reference_row t mode) d))
      by true = extends_same d
      by false = extends_unless (like_in sheet d (reference_row t mode)) (reference_row t mode) d

  pub extends_with_binding : (o : Option ℕ) (mode : ℕ) (name : List ℕ) (at : BoundAt) (d : Draft) → Extends d (with_binding sheet o mode name at d)
  unfolding with_binding new_binding
  extends_with_binding none mode name at d =
      extends_on (extends_bound_at at d) (extends_on (extends_mode mode (bound_type sheet at d) (with_bound_at sheet at d)) (extends_binding _ name _))
  extends_with_binding (some b) mode name at d = extends_same d

  -- what is added for a node
  pub node_extends : (m : Making) (many : ℕ) (stands : List ℕ) (d : Draft) → Extends d (emit_node sheet m many stands d).draft
  unfolding emit_node
  node_extends not_made many stands d = extends_same d
  node_extends (row_made row) many stands d = extends_pattern row d
  node_extends (literal_made t derefs v) many stands d = extends_on (extends_operand v d) (extends_pattern _ _)
  node_extends (operand_made v) many stands d = extends_operand v d
  node_extends (operand_named o) many stands d = extends_same d
  node_extends (range_made t derefs lower upper dots) many stands d = extends_pattern _ d
  node_extends (bind_made t mode annotation name at) many stands d = extends_on (extends_with_binding (binding_for d name) mode name at d) (extends_pattern _ _)
  node_extends (reference_made t) many stands d = extends_pattern _ d
  node_extends (list_made row) many stands d = extends_on (extends_words stands d) (extends_pattern _ _)
  node_extends (slice_made t derefs before) many stands d = extends_on (extends_words (item_words before stands) d) (extends_pattern _ _)
  node_extends (field_made number) many stands d = extends_same d

  mutual
    unfolding emitted emitted_parts

    pub emitted_extends : (w : Written) (names : List ℕ) (c : Context) (d : Draft) → Extends d (emitted sheet names w c d).draft
    emitted_extends (written at n ps) names c d =
        extends_on (parts_extend ps names (resolved sheet names at n (part_count ps) c).reads d)
        (node_extends (resolved sheet names at n (part_count ps) c).making (part_count ps) _ _)

    pub parts_extend : (ps : Parts) (names : List ℕ) (reads : PartsRead) (d : Draft) → Extends d (emitted_parts sheet names ps reads d).draft
    parts_extend no_parts names reads d = extends_same d
    parts_extend (more ps w) names reads d =
        extends_on (parts_extend ps names reads d) (emitted_extends w names (part_context sheet reads (part_count ps)) (emitted_parts sheet names ps reads d).draft)
