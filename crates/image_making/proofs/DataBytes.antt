-- Only literals add data, so the data are bytes. Assumes nothing.
use Prim.Native.Nat.{ℕ, ◌-◌}
use mathlib.Core.Path.{◌≡◌, refl, sym, subst, ◌∙◌}
use mathlib.Core.Bool.{Bool, true, false, cond}
use mathlib.Core.Option.{Option, none, some}
use mathlib.Core.List.{List, [], ◌∷◌}
use native.Mathlib.Omega.{arith}
use lib.Dec.{eqb}
use lib.ListN.{length, take, drop}
use lib.Seq.{get_or-take, get_or-drop}
use Rattle.image.specs.declared.rows.TypeRow.{TypeRow}
use Rattle.row_tables.specs.Rows.{AtMost}
use Rattle.pattern_syntax.specs.Written.{LiteralValue}
use Rattle.pattern_typing.specs.Making.{BoundAt, bound_at_type, bound_at_array, Making, not_made, row_made, literal_made, operand_made, operand_named, range_made, bind_made, reference_made, list_made, slice_made, field_made}
use Rattle.pattern_typing.specs.Closed.{ClosedMaking}
use Rattle.pattern_images.specs.Drafts.{Draft, empty_draft, add_type, add_pattern, add_binding, add_words, add_bytes, literal_bytes, add_operand, like_in, add_unless, with_type, binding_for}
use Rattle.pattern_images.specs.Emitting.{array_row, with_bound_at, bound_type, reference_row, with_mode, new_binding, with_binding, emit_node}
use Rattle.image_growth.specs.Growing.{IsBytes}
use Rattle.image_growth.proofs.Bytes.{bytes_none, bytes_join}
use Rattle.image_words.proofs.Lists.{literal_bytes_lem}
use Rattle.draft_stack.specs.Stack.{Stacked, words_taken, emit_one, emit_up}
use Rattle.draft_tables.specs.declared.DraftCounts.{DraftCounts}
use Rattle.draft_tables.specs.Layout.{draft_in, stacked_in}

-- types that are added leave the data
unless_bytes : (o : Option ℕ) (row : TypeRow) (d : Draft) → (add_unless o row d).bytes ≡ d.bytes
unfolding add_unless add_type
unless_bytes none row d = refl
unless_bytes (some t) row d = refl

bound_bytes : (sheet : List ℕ) (at : BoundAt) (d : Draft) → (with_bound_at sheet at d).bytes ≡ d.bytes
unfolding with_bound_at
bound_bytes sheet (bound_at_type t) d = refl
bound_bytes sheet (bound_at_array element many copy) d = unless_bytes (like_in sheet d (array_row element many copy)) (array_row element many copy) d

mode_bytes : (sheet : List ℕ) (mode t : ℕ) (d : Draft) → (with_mode sheet mode t d).bytes ≡ d.bytes
unfolding with_mode
mode_bytes sheet mode t d = by (eqb mode 0)
  where
    by : (b : Bool) → (cond b d (with_type sheet (reference_row t mode) d)).bytes ≡ d.bytes
    by true = refl
    by false = unless_bytes (like_in sheet d (reference_row t mode)) (reference_row t mode) d

-- so does a binding
binding_bytes_lem : (sheet : List ℕ) (o : Option ℕ) (mode : ℕ) (name : List ℕ) (at : BoundAt) (d : Draft) → (with_binding sheet o mode name at d).bytes ≡ d.bytes
unfolding with_binding new_binding add_binding
binding_bytes_lem sheet none mode name at d = mode_bytes sheet mode (bound_type sheet at d) (with_bound_at sheet at d) ∙ bound_bytes sheet at d
binding_bytes_lem sheet (some b) mode name at d = refl

operand_bytes_lem : (sheet : List ℕ) (v : LiteralValue) (d : Draft) → IsBytes d.bytes → IsBytes (add_operand sheet v d).bytes
unfolding add_operand add_bytes add_words
operand_bytes_lem sheet v d h = bytes_join d.bytes (literal_bytes v) h (literal_bytes_lem v)

node_bytes : (sheet : List ℕ) (m : Making) (many : ℕ) (stands : List ℕ) (d : Draft) → IsBytes d.bytes → IsBytes (emit_node sheet m many stands d).draft.bytes
unfolding emit_node add_pattern add_words
node_bytes sheet not_made many stands d h = h
node_bytes sheet (row_made row) many stands d h = h
node_bytes sheet (literal_made t derefs v) many stands d h = operand_bytes_lem sheet v d h
node_bytes sheet (operand_made v) many stands d h = operand_bytes_lem sheet v d h
node_bytes sheet (operand_named o) many stands d h = h
node_bytes sheet (range_made t derefs lower upper dots) many stands d h = h
node_bytes sheet (bind_made t mode annotation name at) many stands d h = subst IsBytes (sym (binding_bytes_lem sheet (binding_for d name) mode name at d)) h
node_bytes sheet (reference_made t) many stands d h = h
node_bytes sheet (list_made row) many stands d h = h
node_bytes sheet (slice_made t derefs before) many stands d h = h
node_bytes sheet (field_made number) many stands d h = h

up_bytes : (sheet : List ℕ) (ms : List ClosedMaking) (stack : List ℕ) (d : Draft) → IsBytes d.bytes → IsBytes (emit_up sheet ms stack d).draft.bytes
unfolding emit_up emit_one
up_bytes sheet [] stack d h = h
up_bytes sheet (m ∷ ms) stack d h =
    up_bytes sheet ms (emit_one sheet m stack d).stack (emit_one sheet m stack d).draft
    (node_bytes sheet m.makes m.parts (drop (length stack - words_taken m) stack) d h)

-- as they lie in the table
pub data_bytes_lem : (sheet names table : List ℕ) (c : DraftCounts) (ms : List ClosedMaking) → stacked_in names table c ≡ emit_up sheet ms [] empty_draft → AtMost 255 table 7936 c.bytes
unfolding stacked_in draft_in
data_bytes_lem sheet names table c ms holds k h =
    let all : IsBytes (take c.bytes (drop 7936 table)) = subst (λ (s : Stacked). IsBytes s.draft.bytes) (sym holds) (up_bytes sheet ms [] empty_draft bytes_none) in
    omega (arith, all k, get_or-take c.bytes (drop 7936 table) k 0 h, get_or-drop 7936 table k 0)
