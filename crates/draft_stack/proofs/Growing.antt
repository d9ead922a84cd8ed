-- A draft only grows, so what passes a limit stays past it. Assumes nothing.
use Prim.Native.Nat.{ℕ, ◌+◌, ◌-◌, ◌≤◌}
use mathlib.Core.Path.{◌≡◌, refl, sym, ◌∙◌}
use mathlib.Core.Bool.{Bool, true, false, cond, ◌&&◌, true≢false}
use mathlib.Core.Option.{Option, none, some}
use mathlib.Core.List.{List, [], ◌∷◌, ◌++◌}
use native.Mathlib.Omega.{arith}
use borrow.Author.Tests.{leb-true, le-leb}
use lib.Dec.{eqb, leb}
use lib.ListN.{length, length-append, drop}
use Rattle.image.specs.declared.rows.TypeRow.{TypeRow}
use Rattle.image.specs.declared.rows.PatRow.{PatRow}
use Rattle.image.specs.declared.rows.BindingRow.{BindingRow}
use Rattle.image.proofs.Bools.{and_left, and_right, and_true}
use Rattle.pattern_syntax.specs.Written.{LiteralValue}
use Rattle.pattern_typing.specs.Making.{BoundAt, bound_at_type, bound_at_array, Making, not_made, row_made, literal_made, operand_made, operand_named, range_made, bind_made, reference_made, list_made, slice_made, field_made}
use Rattle.pattern_typing.specs.Crossing.{by_value}
use Rattle.pattern_typing.specs.Closed.{ClosedMaking}
use Rattle.pattern_images.specs.Drafts.{Draft, next_type, next_pattern, next_binding, next_word, next_byte, add_type, add_pattern, add_binding, add_words, add_bytes, operand_kind_of, literal_bytes, add_operand, like_in, add_unless, binding_for}
use Rattle.pattern_images.specs.Emitting.{array_row, with_bound_at, bound_type, reference_row, with_mode, new_binding, with_binding, item_words, emit_node}
use Rattle.pattern_images.specs.Imaging.{derefs_within, within_image_limits}
use Rattle.draft_stack.specs.Stack.{words_taken, emit_one, emit_up}

-- no count is lower, and no row of a pattern is lost
pub record Grows (d e : Draft) : Type 0 where
  pub types : length d.types ≤ length e.types
  pub patterns : length d.patterns ≤ length e.patterns
  pub bindings : length d.bindings ≤ length e.bindings
  pub words : length d.words ≤ length e.words
  pub bytes : length d.bytes ≤ length e.bytes
  pub derefs : derefs_within e.patterns ≡ true → derefs_within d.patterns ≡ true

pub grows_same : (d : Draft) → Grows d d
grows_same d = record { types = omega arith; patterns = omega arith; bindings = omega arith; words = omega arith; bytes = omega arith; derefs = λ e. e }

pub grows_both : {d e f : Draft} → Grows d e → Grows e f → Grows d f
grows_both g h =
    record {
      types = omega (arith, g.types, h.types);
      patterns = omega (arith, g.patterns, h.patterns);
      bindings = omega (arith, g.bindings, h.bindings);
      words = omega (arith, g.words, h.words);
      bytes = omega (arith, g.bytes, h.bytes);
      derefs = λ e. g.derefs (h.derefs e);
    }

derefs_first : (rs qs : List PatRow) → derefs_within (rs ++ qs) ≡ true → derefs_within rs ≡ true
unfolding derefs_within
derefs_first [] qs e = refl
derefs_first (r ∷ rs) qs e =
    and_true (leb r.derefs 16) (derefs_within rs) (and_left (leb r.derefs 16) (derefs_within (rs ++ qs)) e)
    (derefs_first rs qs (and_right (leb r.derefs 16) (derefs_within (rs ++ qs)) e))

module _ (d : Draft) where
  pub grows_type : (row : TypeRow) → Grows d (add_type row d)
  unfolding add_type
  grows_type row = record { types = omega (arith, length-append d.types (row ∷ [])); patterns = omega arith; bindings = omega arith; words = omega arith; bytes = omega arith; derefs = λ e. e }

  pub grows_pattern : (row : PatRow) → Grows d (add_pattern row d)
  unfolding add_pattern
  grows_pattern row = record { types = omega arith; patterns = omega (arith, length-append d.patterns (row ∷ [])); bindings = omega arith; words = omega arith; bytes = omega arith; derefs = derefs_first d.patterns (row ∷ []) }

  pub grows_binding : (row : BindingRow) (name : List ℕ) → Grows d (add_binding row name d)
  unfolding add_binding
  grows_binding row name = record { types = omega arith; patterns = omega arith; bindings = omega (arith, length-append d.bindings (row ∷ [])); words = omega arith; bytes = omega arith; derefs = λ e. e }

  pub grows_words : (ws : List ℕ) → Grows d (add_words ws d)
  unfolding add_words
  grows_words ws = record { types = omega arith; patterns = omega arith; bindings = omega arith; words = omega (arith, length-append d.words ws); bytes = omega arith; derefs = λ e. e }

  pub grows_bytes : (bs : List ℕ) → Grows d (add_bytes bs d)
  unfolding add_bytes
  grows_bytes bs = record { types = omega arith; patterns = omega arith; bindings = omega arith; words = omega arith; bytes = omega (arith, length-append d.bytes bs); derefs = λ e. e }

  pub grows_unless : (o : Option ℕ) (row : TypeRow) → Grows d (add_unless o row d)
  unfolding add_unless
  grows_unless none row = grows_type row
  grows_unless (some t) row = grows_same d

module _ (sheet : List ℕ) where
  pub grows_operand : (v : LiteralValue) (d : Draft) → Grows d (add_operand sheet v d)
  unfolding add_operand
  grows_operand v d =
      let ws = operand_kind_of v ∷ next_byte sheet d ∷ length (literal_bytes v) ∷ [] in
      grows_both (grows_words d ws) (grows_bytes (add_words ws d) (literal_bytes v))

  pub grows_bound : (at : BoundAt) (d : Draft) → Grows d (with_bound_at sheet at d)
  unfolding with_bound_at
  grows_bound (bound_at_type t) d = grows_same d
  grows_bound (bound_at_array element many copy) d = grows_unless d (like_in sheet d (array_row element many copy)) (array_row element many copy)

  pub grows_mode : (mode t : ℕ) (d : Draft) → Grows d (with_mode sheet mode t d)
  unfolding with_mode
  grows_mode mode t d = by (eqb mode by_value)
    where
      by : (b : Bool) → Grows d (cond b d (add_unless (like_in sheet d (reference_row t mode)) (reference_row t mode) d))
      by true = grows_same d
      by false = grows_unless d (like_in sheet d (reference_row t mode)) (reference_row t mode)

  pub grows_with_binding : (o : Option ℕ) (mode : ℕ) (name : List ℕ) (at : BoundAt) (d : Draft) → Grows d (with_binding sheet o mode name at d)
  unfolding with_binding new_binding
  grows_with_binding none mode name at d =
      grows_both (grows_bound at d) (grows_both (grows_mode mode (bound_type sheet at d) (with_bound_at sheet at d)) (grows_binding (with_mode sheet mode (bound_type sheet at d) (with_bound_at sheet at d)) _ name))
  grows_with_binding (some b) mode name at d = grows_same d

  pub grows_node : (m : Making) (many : ℕ) (stands : List ℕ) (d : Draft) → Grows d (emit_node sheet m many stands d).draft
  unfolding emit_node
  grows_node not_made many stands d = grows_same d
  grows_node (row_made row) many stands d = grows_pattern d row
  grows_node (literal_made t derefs v) many stands d = grows_both (grows_operand v d) (grows_pattern (add_operand sheet v d) _)
  grows_node (operand_made v) many stands d = grows_operand v d
  grows_node (operand_named o) many stands d = grows_same d
  grows_node (range_made t derefs lower upper dots) many stands d = grows_pattern d _
  grows_node (bind_made t mode annotation name at) many stands d =
      grows_both (grows_with_binding (binding_for d name) mode name at d) (grows_pattern (with_binding sheet (binding_for d name) mode name at d) _)
  grows_node (reference_made t) many stands d = grows_pattern d _
  grows_node (list_made row) many stands d = grows_both (grows_words d stands) (grows_pattern (add_words stands d) _)
  grows_node (slice_made t derefs before) many stands d = grows_both (grows_words d (item_words before stands)) (grows_pattern (add_words (item_words before stands) d) _)
  grows_node (field_made number) many stands d = grows_same d

  pub grows_up : (ms : List ClosedMaking) (stack : List ℕ) (d : Draft) → Grows d (emit_up sheet ms stack d).draft
  unfolding emit_up emit_one
  grows_up [] stack d = grows_same d
  grows_up (m ∷ ms) stack d =
      grows_both (grows_node m.makes m.parts (drop (length stack - words_taken m) stack) d) (grows_up ms (emit_one sheet m stack d).stack (emit_one sheet m stack d).draft)

  -- the limits, one by one
  pub record WithinEach (d : Draft) : Type 0 where
    pub types : next_type sheet d ≤ 256
    pub patterns : next_pattern sheet d ≤ 512
    pub bindings : next_binding sheet d ≤ 256
    pub words : next_word sheet d ≤ 2048
    pub bytes : next_byte sheet d ≤ 16384
    pub derefs : derefs_within d.patterns ≡ true

  pub each_within : (d : Draft) → WithinEach d → within_image_limits sheet d ≡ true
  unfolding within_image_limits
  each_within d w =
      rw (le-leb (next_type sheet d) 256 w.types, le-leb (next_pattern sheet d) 512 w.patterns, le-leb (next_binding sheet d) 256 w.bindings, le-leb (next_word sheet d) 2048 w.words, le-leb (next_byte sheet d) 16384 w.bytes, w.derefs) refl

  pub within_each : (d : Draft) → within_image_limits sheet d ≡ true → WithinEach d
  unfolding within_image_limits
  within_each d e =
      let t = leb (next_type sheet d) 256 in
      let p = leb (next_pattern sheet d) 512 in
      let b = leb (next_binding sheet d) 256 in
      let l = leb (next_word sheet d) 2048 in
      let y = leb (next_byte sheet d) 16384 in
      let x = derefs_within d.patterns in
      let e5 = and_left (t && p && b && l && y) x e in
      let e4 = and_left (t && p && b && l) y e5 in
      let e3 = and_left (t && p && b) l e4 in
      let e2 = and_left (t && p) b e3 in
      record {
        types = leb-true (next_type sheet d) 256 (and_left t p e2);
        patterns = leb-true (next_pattern sheet d) 512 (and_right t p e2);
        bindings = leb-true (next_binding sheet d) 256 (and_right (t && p) b e3);
        words = leb-true (next_word sheet d) 2048 (and_right (t && p && b) l e4);
        bytes = leb-true (next_byte sheet d) 16384 (and_right (t && p && b && l) y e5);
        derefs = and_right (t && p && b && l && y) x e;
      }

  -- one limit that is passed is enough
  pub past_limit : (d : Draft) → (WithinEach d → ⊥) → within_image_limits sheet d ≡ false
  past_limit d never = by (within_image_limits sheet d) refl
    where
      by : (b : Bool) → within_image_limits sheet d ≡ b → b ≡ false
      by true e = absurd (never (within_each d e))
      by false e = refl

  -- and stays passed
  pub past_grows : {d e : Draft} → Grows d e → within_image_limits sheet d ≡ false → within_image_limits sheet e ≡ false
  past_grows {d} {e} g past =
      past_limit e (λ w. true≢false (sym (each_within d (record {
        types = omega (arith, w.types, g.types);
        patterns = omega (arith, w.patterns, g.patterns);
        bindings = omega (arith, w.bindings, g.bindings);
        words = omega (arith, w.words, g.words);
        bytes = omega (arith, w.bytes, g.bytes);
        derefs = g.derefs w.derefs;
      })) ∙ past))
