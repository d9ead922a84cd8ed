-- A pattern that is put into the draft's table, and limits that it passes. Assumes nothing.
use Prim.Native.Nat.{ℕ, ◌+◌, ◌≤◌, ◌<◌}
use mathlib.Core.Path.{◌≡◌, refl, sym, ap, subst, ◌∙◌}
use mathlib.Core.Bool.{true, false}
use mathlib.Core.List.{List, [], ◌∷◌, ◌++◌}
use native.Mathlib.Omega.{arith}
use borrow.Author.Tests.{leb-true, le-leb}
use lib.Dec.{leb}
use lib.ListN.{length-append}
use Rattle.image.specs.declared.Tables.{Tables}
use Rattle.image.specs.declared.rows.PatRow.{PatRow}
use Rattle.image.specs.Tables.{Whole}
use Rattle.image.proofs.Bools.{and_left, and_right, and_true}
use Rattle.pattern_images.specs.Drafts.{next_pattern, add_pattern}
use Rattle.pattern_images.specs.Imaging.{derefs_within, within_image_limits}
use Rattle.draft_stack.specs.Stack.{Stacked}
use Rattle.draft_stack.proofs.Growing.{past_limit}
use Rattle.draft_tables.specs.declared.DraftCounts.{DraftCounts}
use Rattle.draft_tables.specs.Layout.{draft_in, stacked_in, WithinDraft, pattern_more, height_is, drafted, raised, HoldsPattern, HoldsStack}
use Rattle.draft_tables.specs.Room.{DraftRoom}
use Rattle.draft_tables.specs.Steps.{DraftHeld}
use Rattle.draft_tables.proofs.Counted.{pattern_length}
use Rattle.draft_rows.specs.Nodes.{row_step}

-- the derefs of the last row, and of rows with one more
last_derefs : (rows : List PatRow) (row : PatRow) → derefs_within (rows ++ (row ∷ [])) ≡ true → row.derefs ≤ 16
unfolding derefs_within
last_derefs [] row e = leb-true row.derefs 16 (and_left (leb row.derefs 16) true e)
last_derefs (r ∷ rows) row e = last_derefs rows row (and_right (leb r.derefs 16) (derefs_within (rows ++ (row ∷ []))) e)

more_derefs : (rows : List PatRow) (row : PatRow) → derefs_within rows ≡ true → row.derefs ≤ 16 → derefs_within (rows ++ (row ∷ [])) ≡ true
unfolding derefs_within
more_derefs [] row e h = and_true (leb row.derefs 16) true (le-leb row.derefs 16 h) refl
more_derefs (r ∷ rows) row e h =
    and_true (leb r.derefs 16) (derefs_within (rows ++ (row ∷ []))) (and_left (leb r.derefs 16) (derefs_within rows) e)
    (more_derefs rows row (and_right (leb r.derefs 16) (derefs_within rows) e) h)

-- the counts behind the row lie within the table, and there is room on the stack
pub pattern_within : (tables : Tables) (c added : DraftCounts) → DraftRoom tables c → added ≡ pattern_more c → tables.patterns.count + c.patterns < 512 → c.height < 16384 → WithinDraft added × (added.height + 1 ≤ 16384)
pattern_within tables c added room e h high =
    subst (λ (d : DraftCounts). WithinDraft d × (d.height + 1 ≤ 16384)) (sym e)
    (record { types = omega (arith, room.types); patterns = omega arith; bindings = omega (arith, room.bindings); words = omega (arith, room.words); bytes = omega (arith, room.bytes); height = room.height }, omega arith)

module _ (tables : Tables) (table : List ℕ) (c : DraftCounts) (room : DraftRoom tables c) (row : PatRow) (sheet : List ℕ) (whole : Whole sheet tables) where
  pub past_derefs : 16 < row.derefs → (names : List ℕ) → within_image_limits sheet (row_step row sheet names (stacked_in names table c)).draft ≡ false
  unfolding add_pattern stacked_in
  past_derefs h names =
      let d = draft_in names table c in
      past_limit sheet (add_pattern row d) (λ w. omega (arith, h, last_derefs d.patterns row w.derefs))

  pub past_patterns : 512 ≤ tables.patterns.count + c.patterns → (names : List ℕ) → within_image_limits sheet (row_step row sheet names (stacked_in names table c)).draft ≡ false
  unfolding add_pattern stacked_in
  past_patterns h names =
      let d = draft_in names table c in
      past_limit sheet (add_pattern row d) (λ w. omega (arith, h, w.patterns, whole.pattern_count_lem, pattern_length names table c, length-append d.patterns (row ∷ [])))

  pub pattern_held : (added counts : DraftCounts) (mid after : List ℕ) → row.derefs ≤ 16 → tables.patterns.count + c.patterns < 512 → c.height < 16384 → added ≡ pattern_more c → HoldsPattern table c row mid → counts ≡ height_is (added.height + 1) added → HoldsStack mid added ((tables.patterns.count + c.patterns) ∷ []) 1 after → DraftHeld tables table c (row_step row sheet) counts after
  unfolding add_pattern stacked_in
  pattern_held added counts mid after few h high first put second raise =
      record {
        room = subst (DraftRoom tables) (sym (second ∙ ap (λ (d : DraftCounts). height_is (d.height + 1) d) first)) (record { types = room.types; patterns = omega arith; bindings = room.bindings; words = room.words; bytes = room.bytes; height = omega arith });
        holds = holds;
        derefs = λ kept names. ap (λ (s : Stacked). derefs_within s.draft.patterns) (holds names) ∙ more_derefs (draft_in names table c).patterns row (kept names) few;
      }
    where
      number : (names : List ℕ) → tables.patterns.count + c.patterns ≡ next_pattern sheet (draft_in names table c)
      number names = omega (arith, whole.pattern_count_lem, pattern_length names table c)

      holds : (names : List ℕ) → stacked_in names after counts ≡ row_step row sheet names (stacked_in names table c)
      holds names =
          ap (stacked_in names after) second
          ∙ raise names
          ∙ ap (λ (d : DraftCounts). raised ((tables.patterns.count + c.patterns) ∷ []) (stacked_in names mid d)) first
          ∙ ap (raised ((tables.patterns.count + c.patterns) ∷ [])) (put names)
          ∙ ap (λ (k : ℕ). raised (k ∷ []) (drafted (add_pattern row) (stacked_in names table c))) (number names)
