-- A literal's operand is added, its parts' words are taken, and its row or its place stands instead. Assumes nothing.
use Prim.Native.Nat.{ℕ, ◌+◌, ◌-◌, ◌*◌, ◌≤◌}
use mathlib.Core.Path.{◌≡◌, refl, sym, ap, subst, ◌∙◌}
use mathlib.Core.Bool.{false}
use mathlib.Core.List.{List, [], ◌∷◌, ◌++◌}
use native.Mathlib.Omega.{arith}
use lib.ListN.{length, take}
use Rattle.image.specs.declared.Tables.{Tables}
use Rattle.image.specs.declared.rows.PatRow.{PatRow}
use Rattle.image.specs.Tables.{Whole}
use Rattle.pattern_syntax.specs.Written.{LiteralValue}
use Rattle.pattern_typing.specs.Making.{Making, literal_made, operand_made, pattern_row}
use Rattle.pattern_typing.specs.Closed.{closed_making}
use Rattle.pattern_images.specs.Drafts.{next_word, add_operand}
use Rattle.pattern_images.specs.Emitting.{with_pattern, emit_node}
use Rattle.pattern_images.specs.Imaging.{derefs_within, within_image_limits}
use Rattle.draft_stack.specs.Stack.{Stacked, words_each, words_taken, stacked_on, emit_one}
use Rattle.draft_stack.proofs.Growing.{grows_pattern}
use Rattle.draft_tables.specs.declared.DraftCounts.{DraftCounts}
use Rattle.draft_tables.specs.Results.{DraftStep}
use Rattle.draft_tables.specs.Layout.{stacked_in, WithinDraft, height_is, drafted, raised, HoldsStack}
use Rattle.draft_tables.specs.Room.{DraftRoom}
use Rattle.draft_tables.specs.Steps.{DraftHeld, DraftStepped}
use Rattle.draft_tables.proofs.Counted.{room_within, word_length, stack_length}
use Rattle.draft_tables.proofs.Chaining.{step_same, step_then, step_stops}
use Rattle.draft_rows.specs.Nodes.{row_step, node_step}
use Rattle.draft_rows.proofs.Lowering.{cut_to, lowered}

-- the counts when the words of the parts are taken
pub low_counts : (tables : Tables) (c added low : DraftCounts) (base many : ℕ) → DraftRoom tables added × (added.height ≡ c.height) → low ≡ height_is base added → base + many ≤ 16384 → DraftRoom tables low × (low.height + many ≤ 16384)
low_counts tables c added low base many known e h =
    subst (λ (d : DraftCounts). DraftRoom tables d × (d.height + many ≤ 16384)) (sym e)
    (record { types = known.0.types; patterns = known.0.patterns; bindings = known.0.bindings; words = known.0.words; bytes = known.0.bytes; height = omega arith }, h)

module _ (tables : Tables) (table : List ℕ) (size : length table ≡ 40704) (c : DraftCounts) (room : DraftRoom tables c) (parts : ℕ) (enough : parts ≤ c.height) (v : LiteralValue) (sheet : List ℕ) (whole : Whole sheet tables) where
  within : WithinDraft c
  within = room_within tables c room

  abbrev base : ℕ
  base = c.height - parts

  next_word_lem : (names : List ℕ) → tables.list.count + c.words ≡ next_word sheet (stacked_in names table c).draft
  unfolding stacked_in
  next_word_lem names = omega (arith, whole.list_count_lem, word_length names table c size within)

  cut_at : (making : Making) → words_each making ≡ 1 → (names : List ℕ) → base ≡ length (stacked_in names table c).stack - words_taken (closed_making making parts)
  unfolding words_taken
  cut_at making one names = omega (arith, stack_length names table c size within, ap (λ (k : ℕ). k * parts) one)

  cut_added : (added low : DraftCounts) (mid : List ℕ) → added.height ≡ c.height → DraftHeld tables table c (λ names s. drafted (add_operand sheet v) s) added mid → low ≡ height_is base added → DraftHeld tables table c (λ names s. cut_to base (drafted (add_operand sheet v) s)) low mid
  cut_added added low mid same held e =
      record {
        room = (low_counts tables c added low base 0 (held.room, same) e (omega (arith, room.height))).0;
        holds = λ names. cut names ∙ ap (cut_to base) (held.holds names);
        derefs = λ kept names. ap (λ (s : Stacked). derefs_within s.draft.patterns) (cut names) ∙ held.derefs kept names;
      }
    where
      cut : (names : List ℕ) → stacked_in names mid low ≡ cut_to base (stacked_in names mid added)
      cut names = ap (stacked_in names mid) e ∙ lowered names mid added base (omega arith)

  -- `put_literal`
  module _ (t derefs : ℕ) where
    abbrev row : PatRow
    row = pattern_row 10 t derefs (tables.list.count + c.words) 0 0 0

    literal_same : (names : List ℕ) → row_step row sheet names (cut_to base (drafted (add_operand sheet v) (stacked_in names table c))) ≡ node_step (literal_made t derefs v) parts sheet names (stacked_in names table c)
    unfolding emit_one emit_node
    literal_same names =
        let s = stacked_in names table c in
        let at = cut_at (literal_made t derefs v) (unfold words_each in refl) names in
        let word = next_word_lem names in
        λ i. stacked_on (take (at i) s.stack) (with_pattern sheet (pattern_row 10 t derefs (word i) 0 0 0) (add_operand sheet v s.draft))

    pub literal_stops : ((names : List ℕ) → within_image_limits sheet (add_operand sheet v (stacked_in names table c).draft) ≡ false) → (names : List ℕ) → within_image_limits sheet (node_step (literal_made t derefs v) parts sheet names (stacked_in names table c)).draft ≡ false
    unfolding emit_one emit_node
    literal_stops past =
        step_stops sheet tables table c (λ names s. drafted (add_operand sheet v) s) (node_step (literal_made t derefs v) parts sheet)
        (λ names. grows_pattern (add_operand sheet v (stacked_in names table c).draft) _) past

    pub literal_stepped : (added low : DraftCounts) (mid : List ℕ) (r : DraftStep) (after : List ℕ) → added.height ≡ c.height → DraftHeld tables table c (λ names s. drafted (add_operand sheet v) s) added mid → low ≡ height_is base added → DraftStepped sheet tables mid low (row_step row sheet) r after → DraftStepped sheet tables table c (node_step (literal_made t derefs v) parts sheet) r after
    literal_stepped added low mid r after same held e put =
        step_same sheet tables table c (λ names s. row_step row sheet names (cut_to base (drafted (add_operand sheet v) s))) (node_step (literal_made t derefs v) parts sheet) r after literal_same
        (step_then sheet tables table c (λ names s. cut_to base (drafted (add_operand sheet v) s)) (row_step row sheet) low mid r after (cut_added added low mid same held e) put)

  -- `put_operand`
  operand_same : (names : List ℕ) → raised ((tables.list.count + c.words) ∷ []) (cut_to base (drafted (add_operand sheet v) (stacked_in names table c))) ≡ node_step (operand_made v) parts sheet names (stacked_in names table c)
  unfolding emit_one emit_node
  operand_same names =
      let s = stacked_in names table c in
      let at = cut_at (operand_made v) (unfold words_each in refl) names in
      let word = next_word_lem names in
      λ i. record { stack = take (at i) s.stack ++ (word i ∷ []); draft = add_operand sheet v s.draft }

  pub operand_stops : ((names : List ℕ) → within_image_limits sheet (add_operand sheet v (stacked_in names table c).draft) ≡ false) → (names : List ℕ) → within_image_limits sheet (node_step (operand_made v) parts sheet names (stacked_in names table c)).draft ≡ false
  unfolding emit_one emit_node
  operand_stops past = past

  pub operand_put : (added low counts : DraftCounts) (mid after : List ℕ) → added.height ≡ c.height → DraftHeld tables table c (λ names s. drafted (add_operand sheet v) s) added mid → low ≡ height_is base added → base + 1 ≤ 16384 → counts ≡ height_is (low.height + 1) low → HoldsStack mid low ((tables.list.count + c.words) ∷ []) 1 after → DraftHeld tables table c (node_step (operand_made v) parts sheet) counts after
  operand_put added low counts mid after same held e fits f raise =
      let cut = cut_added added low mid same held e in
      record {
        room = subst (DraftRoom tables) (sym (f ∙ ap (λ (d : DraftCounts). height_is (d.height + 1) d) e)) (record { types = held.room.types; patterns = held.room.patterns; bindings = held.room.bindings; words = held.room.words; bytes = held.room.bytes; height = fits });
        holds = λ names. ap (stacked_in names after) f ∙ raise names ∙ ap (raised ((tables.list.count + c.words) ∷ [])) (cut.holds names) ∙ operand_same names;
        derefs = λ kept names. ap (λ (s : Stacked). derefs_within s.draft.patterns) (ap (stacked_in names after) f ∙ raise names) ∙ cut.derefs kept names;
      }
