-- An operand that is added to a draft's table, and limits that it passes. Assumes nothing.
use Prim.Native.Nat.{ℕ, ◌+◌, ◌≤◌, ◌<◌}
use mathlib.Core.Path.{◌≡◌, refl, sym, ap, subst, ◌∙◌}
use mathlib.Core.Bool.{false}
use mathlib.Core.List.{List, [], ◌∷◌}
use native.Mathlib.Omega.{arith}
use lib.ListN.{length, take, length-append}
use Rattle.image.specs.declared.Tables.{Tables}
use Rattle.image.specs.Tables.{Whole}
use Rattle.pattern_syntax.specs.Written.{LiteralValue}
use Rattle.pattern_images.specs.Drafts.{next_byte, add_words, add_bytes, operand_kind_of, literal_bytes, add_operand}
use Rattle.pattern_images.specs.Imaging.{derefs_within, within_image_limits}
use Rattle.draft_stack.specs.Stack.{Stacked}
use Rattle.draft_stack.proofs.Growing.{past_limit}
use Rattle.draft_tables.specs.declared.DraftCounts.{DraftCounts}
use Rattle.draft_tables.specs.Layout.{draft_in, stacked_in, WithinDraft, words_more, bytes_more, drafted, HoldsWords, HoldsBytes}
use Rattle.draft_tables.specs.Room.{DraftRoom}
use Rattle.draft_tables.specs.Steps.{DraftHeld}
use Rattle.draft_tables.proofs.Counted.{room_within, word_length, byte_length}
use Rattle.draft_operands.specs.declared.LiteralBytes.{LiteralBytes}
use Rattle.draft_operands.specs.Literals.{bytes_in, IsOperandOf}

-- within the table when the words are there
pub words_within : (tables : Tables) (c half : DraftCounts) → DraftRoom tables c → half ≡ words_more 3 c → (many : ℕ) → tables.list.count + c.words + 3 ≤ 2048 → tables.bytes.count + c.bytes + many ≤ 16384 → WithinDraft half × (half.bytes + many ≤ 16384)
words_within tables c half room e many words bytes =
    subst (λ (d : DraftCounts). WithinDraft d × (d.bytes + many ≤ 16384)) (sym e)
    (record { types = omega (arith, room.types); patterns = omega (arith, room.patterns); bindings = omega (arith, room.bindings); words = omega arith; bytes = omega (arith, room.bytes); height = room.height }, omega arith)

-- the counts when the bytes are there too
pub room_behind_lem : (tables : Tables) (c half counts : DraftCounts) (many : ℕ) → DraftRoom tables c → tables.list.count + c.words + 3 ≤ 2048 → tables.bytes.count + c.bytes + many ≤ 16384 → half ≡ words_more 3 c → counts ≡ bytes_more many half → DraftRoom tables counts × (counts.height ≡ c.height)
room_behind_lem tables c half counts many room words bytes first second =
    subst (λ (d : DraftCounts). DraftRoom tables d × (d.height ≡ c.height)) (sym (second ∙ ap (bytes_more many) first))
    (record { types = room.types; patterns = room.patterns; bindings = room.bindings; words = omega arith; bytes = omega arith; height = room.height }, refl)

module _ (tables : Tables) (table : List ℕ) (size : length table ≡ 40704) (c : DraftCounts) (room : DraftRoom tables c) (operand : LiteralBytes) (v : LiteralValue) (is : IsOperandOf v operand) (sheet : List ℕ) (whole : Whole sheet tables) where
  within : WithinDraft c
  within = room_within tables c room

  pub past_words : 2048 < tables.list.count + c.words + 3 → (names : List ℕ) → within_image_limits sheet (add_operand sheet v (stacked_in names table c).draft) ≡ false
  unfolding add_operand add_bytes add_words stacked_in
  past_words h names =
      let d = draft_in names table c in
      past_limit sheet (add_operand sheet v d)
      (λ w. omega (arith, h, w.words, whole.list_count_lem, word_length names table c size within, length-append d.words (operand_kind_of v ∷ next_byte sheet d ∷ length (literal_bytes v) ∷ [])))

  pub past_bytes : 16384 < tables.bytes.count + c.bytes + operand.count → (names : List ℕ) → within_image_limits sheet (add_operand sheet v (stacked_in names table c).draft) ≡ false
  unfolding add_operand add_bytes add_words stacked_in
  past_bytes h names =
      let d = draft_in names table c in
      past_limit sheet (add_operand sheet v d)
      (λ w. omega (arith, h, w.bytes, whole.data_count_lem, byte_length names table c size within, length-append d.bytes (literal_bytes v), is.count))

  pub operand_held : (half counts : DraftCounts) (mid after : List ℕ) → tables.list.count + c.words + 3 ≤ 2048 → tables.bytes.count + c.bytes + operand.count ≤ 16384 → half ≡ words_more 3 c → HoldsWords table c (operand.kind ∷ (tables.bytes.count + c.bytes) ∷ operand.count ∷ []) 3 mid → counts ≡ bytes_more operand.count half → HoldsBytes mid half (take operand.count operand.bytes) operand.count after → DraftHeld tables table c (λ names s. drafted (add_operand sheet v) s) counts after
  unfolding bytes_in add_operand add_bytes add_words stacked_in
  operand_held half counts mid after words bytes first listed second stored =
      record {
        room = (room_behind_lem tables c half counts operand.count room words bytes first second).0;
        holds = holds;
        derefs = λ kept names. ap (λ (s : Stacked). derefs_within s.draft.patterns) (holds names) ∙ kept names;
      }
    where
      named : (names : List ℕ) → operand.kind ∷ (tables.bytes.count + c.bytes) ∷ operand.count ∷ [] ≡ operand_kind_of v ∷ next_byte sheet (stacked_in names table c).draft ∷ length (literal_bytes v) ∷ []
      named names = λ i. is.kind i ∷ begins names i ∷ is.count i ∷ []
        where
          begins : (names : List ℕ) → tables.bytes.count + c.bytes ≡ next_byte sheet (stacked_in names table c).draft
          begins names = omega (arith, whole.data_count_lem, byte_length names table c size within)

      holds : (names : List ℕ) → stacked_in names after counts ≡ drafted (add_operand sheet v) (stacked_in names table c)
      holds names =
          ap (stacked_in names after) second
          ∙ stored names
          ∙ ap (λ (l : List ℕ). drafted (add_bytes l) (stacked_in names mid half)) is.bytes
          ∙ ap (λ (d : DraftCounts). drafted (add_bytes (literal_bytes v)) (stacked_in names mid d)) first
          ∙ ap (drafted (add_bytes (literal_bytes v))) (listed names)
          ∙ ap (λ (ws : List ℕ). drafted (λ d. add_bytes (literal_bytes v) (add_words ws d)) (stacked_in names table c)) (named names)
