-- What the draft's table holds when words are stored behind those of one of its parts: that part has them, and the others are as they were.
-- Assumes nothing.
use Prim.Native.Nat.{ℕ, ◌+◌, ◌*◌, ◌≤◌, ◌<◌}
use mathlib.Core.Path.{◌≡◌, refl, sym, ap, ◌∙◌}
use mathlib.Core.List.{List, [], ◌∷◌, ◌++◌, map, map-append}
use native.Mathlib.Omega.{arith}
use lib.ListN.{length, drop}
use Rattle.image.specs.declared.rows.TypeRow.{TypeRow}
use Rattle.image.specs.declared.rows.PatRow.{PatRow}
use Rattle.row_tables.specs.Rows.{rows_of, stored}
use Rattle.row_tables.proofs.Tables.{length_stored}
use Rattle.pattern_images.specs.Drafts.{add_type, add_pattern, add_binding, add_words, add_bytes}
use Rattle.draft_tables.specs.declared.DraftCounts.{DraftCounts}
use Rattle.draft_tables.specs.Layout.{type_of_words, pattern_of_words, binding_of_words, name_of_words, draft_in, stacked_in, WithinDraft, HoldsType, HoldsPattern, HoldsBinding, HoldsWords, HoldsBytes, HoldsStack}
use Rattle.draft_tables.proofs.Regions.{words_before, words_behind, rows_kept_before, rows_kept_behind, words_grown, rows_grown}

module _ (t : List ℕ) (size : length t ≡ 40704) (c : DraftCounts) (within : WithinDraft c) where
  pub holds_type : (r : TypeRow) → c.types < 256 → HoldsType t c r (stored t (5 * c.types) (r.kind ∷ r.a ∷ r.b ∷ r.c ∷ r.copy ∷ []))
  unfolding stacked_in draft_in type_of_words pattern_of_words add_type
  holds_type r h names =
      let row = r.kind ∷ r.a ∷ r.b ∷ r.c ∷ r.copy ∷ [] in
      let at = 5 * c.types in
      let begins : 0 + 5 * c.types ≡ 5 * c.types = omega arith in
      let bounds = within in
      let types' = ap (λ (rows : List (List ℕ)). map type_of_words rows) (ap (λ (k : ℕ). rows_of 5 (stored t k row) (c.types + 1)) (sym begins) ∙ rows_grown 5 t row 0 c.types refl (omega arith)) ∙ map-append type_of_words (rows_of 5 (drop 0 t) c.types) (row ∷ []) in
      let patterns' = ap (λ (rows : List (List ℕ)). map pattern_of_words rows) (rows_kept_behind 7 t at row 1280 c.patterns (omega arith) (omega arith)) in
      let bindings' = ap (λ (rows : List (List ℕ)). map binding_of_words rows) (rows_kept_behind 2 t at row 4864 c.bindings (omega arith) (omega arith)) in
      let called' = ap (λ (rows : List (List ℕ)). map (name_of_words names) rows) (rows_kept_behind 2 t at row 5376 c.bindings (omega arith) (omega arith)) in
      let words' = words_behind t at row 5888 c.words (omega arith) (omega arith) in
      let bytes' = words_behind t at row 7936 c.bytes (omega arith) (omega arith) in
      let stack' = words_behind t at row 24320 c.height (omega arith) (omega arith) in
      λ i. record {
        stack = stack' i;
        draft = record {
          types = types' i;
          patterns = patterns' i;
          bindings = bindings' i;
          called = called' i;
          words = words' i;
          bytes = bytes' i;
        };
      }

  pub holds_pattern : (r : PatRow) → c.patterns < 512 → HoldsPattern t c r (stored t (1280 + 7 * c.patterns) (r.kind ∷ r.ty ∷ r.derefs ∷ r.a ∷ r.b ∷ r.c ∷ r.d ∷ []))
  unfolding stacked_in draft_in type_of_words pattern_of_words add_pattern
  holds_pattern r h names =
      let row = r.kind ∷ r.ty ∷ r.derefs ∷ r.a ∷ r.b ∷ r.c ∷ r.d ∷ [] in
      let at = 1280 + 7 * c.patterns in
      let bounds = within in
      let types' = ap (λ (rows : List (List ℕ)). map type_of_words rows) (rows_kept_before 5 t at row 0 c.types (omega arith) (omega arith)) in
      let patterns' = ap (λ (rows : List (List ℕ)). map pattern_of_words rows) (rows_grown 7 t row 1280 c.patterns refl (omega arith)) ∙ map-append pattern_of_words (rows_of 7 (drop 1280 t) c.patterns) (row ∷ []) in
      let bindings' = ap (λ (rows : List (List ℕ)). map binding_of_words rows) (rows_kept_behind 2 t at row 4864 c.bindings (omega arith) (omega arith)) in
      let called' = ap (λ (rows : List (List ℕ)). map (name_of_words names) rows) (rows_kept_behind 2 t at row 5376 c.bindings (omega arith) (omega arith)) in
      let words' = words_behind t at row 5888 c.words (omega arith) (omega arith) in
      let bytes' = words_behind t at row 7936 c.bytes (omega arith) (omega arith) in
      let stack' = words_behind t at row 24320 c.height (omega arith) (omega arith) in
      λ i. record {
        stack = stack' i;
        draft = record {
          types = types' i;
          patterns = patterns' i;
          bindings = bindings' i;
          called = called' i;
          words = words' i;
          bytes = bytes' i;
        };
      }

  pub holds_words : (row : List ℕ) (many : ℕ) → length row ≡ many → c.words + many ≤ 2048 → HoldsWords t c row many (stored t (5888 + c.words) row)
  unfolding stacked_in draft_in add_words
  holds_words row many e h names =
      let at = 5888 + c.words in
      let bounds = within in
      let types' = ap (λ (rows : List (List ℕ)). map type_of_words rows) (rows_kept_before 5 t at row 0 c.types (omega arith) (omega arith)) in
      let patterns' = ap (λ (rows : List (List ℕ)). map pattern_of_words rows) (rows_kept_before 7 t at row 1280 c.patterns (omega arith) (omega arith)) in
      let bindings' = ap (λ (rows : List (List ℕ)). map binding_of_words rows) (rows_kept_before 2 t at row 4864 c.bindings (omega arith) (omega arith)) in
      let called' = ap (λ (rows : List (List ℕ)). map (name_of_words names) rows) (rows_kept_before 2 t at row 5376 c.bindings (omega arith) (omega arith)) in
      let words' = words_grown t row 5888 c.words many e (omega arith) in
      let bytes' = words_behind t at row 7936 c.bytes (omega arith) (omega arith) in
      let stack' = words_behind t at row 24320 c.height (omega arith) (omega arith) in
      λ i. record {
        stack = stack' i;
        draft = record {
          types = types' i;
          patterns = patterns' i;
          bindings = bindings' i;
          called = called' i;
          words = words' i;
          bytes = bytes' i;
        };
      }

  pub holds_bytes : (row : List ℕ) (many : ℕ) → length row ≡ many → c.bytes + many ≤ 16384 → HoldsBytes t c row many (stored t (7936 + c.bytes) row)
  unfolding stacked_in draft_in add_bytes
  holds_bytes row many e h names =
      let at = 7936 + c.bytes in
      let bounds = within in
      let types' = ap (λ (rows : List (List ℕ)). map type_of_words rows) (rows_kept_before 5 t at row 0 c.types (omega arith) (omega arith)) in
      let patterns' = ap (λ (rows : List (List ℕ)). map pattern_of_words rows) (rows_kept_before 7 t at row 1280 c.patterns (omega arith) (omega arith)) in
      let bindings' = ap (λ (rows : List (List ℕ)). map binding_of_words rows) (rows_kept_before 2 t at row 4864 c.bindings (omega arith) (omega arith)) in
      let called' = ap (λ (rows : List (List ℕ)). map (name_of_words names) rows) (rows_kept_before 2 t at row 5376 c.bindings (omega arith) (omega arith)) in
      let words' = words_before t at row 5888 c.words (omega arith) (omega arith) in
      let bytes' = words_grown t row 7936 c.bytes many e (omega arith) in
      let stack' = words_behind t at row 24320 c.height (omega arith) (omega arith) in
      λ i. record {
        stack = stack' i;
        draft = record {
          types = types' i;
          patterns = patterns' i;
          bindings = bindings' i;
          called = called' i;
          words = words' i;
          bytes = bytes' i;
        };
      }

  pub holds_stack : (row : List ℕ) (many : ℕ) → length row ≡ many → c.height + many ≤ 16384 → HoldsStack t c row many (stored t (24320 + c.height) row)
  unfolding stacked_in draft_in
  holds_stack row many e h names =
      let at = 24320 + c.height in
      let bounds = within in
      let types' = ap (λ (rows : List (List ℕ)). map type_of_words rows) (rows_kept_before 5 t at row 0 c.types (omega arith) (omega arith)) in
      let patterns' = ap (λ (rows : List (List ℕ)). map pattern_of_words rows) (rows_kept_before 7 t at row 1280 c.patterns (omega arith) (omega arith)) in
      let bindings' = ap (λ (rows : List (List ℕ)). map binding_of_words rows) (rows_kept_before 2 t at row 4864 c.bindings (omega arith) (omega arith)) in
      let called' = ap (λ (rows : List (List ℕ)). map (name_of_words names) rows) (rows_kept_before 2 t at row 5376 c.bindings (omega arith) (omega arith)) in
      let words' = words_before t at row 5888 c.words (omega arith) (omega arith) in
      let bytes' = words_before t at row 7936 c.bytes (omega arith) (omega arith) in
      let stack' = words_grown t row 24320 c.height many e (omega arith) in
      λ i. record {
        stack = stack' i;
        draft = record {
          types = types' i;
          patterns = patterns' i;
          bindings = bindings' i;
          called = called' i;
          words = words' i;
          bytes = bytes' i;
        };
      }

  -- a binding is stored in two parts
  pub holds_binding : (ty from to : ℕ) → c.bindings < 256 → HoldsBinding t c ty from to (stored (stored t (4864 + 2 * c.bindings) (ty ∷ 1 ∷ [])) (5376 + 2 * c.bindings) (from ∷ to ∷ []))
  unfolding stacked_in draft_in binding_of_words name_of_words add_binding
  holds_binding ty from to h names =
      let row = ty ∷ 1 ∷ [] in
      let range = from ∷ to ∷ [] in
      let at = 4864 + 2 * c.bindings in
      let next = 5376 + 2 * c.bindings in
      let bounds = within in
      let half = stored t at row in
      let long : length half ≡ 40704 = length_stored t at row (omega arith) ∙ size in
      let types' = ap (λ (rows : List (List ℕ)). map type_of_words rows) (rows_kept_before 5 half next range 0 c.types (omega arith) (omega arith) ∙ rows_kept_before 5 t at row 0 c.types (omega arith) (omega arith)) in
      let patterns' = ap (λ (rows : List (List ℕ)). map pattern_of_words rows) (rows_kept_before 7 half next range 1280 c.patterns (omega arith) (omega arith) ∙ rows_kept_before 7 t at row 1280 c.patterns (omega arith) (omega arith)) in
      let bindings' = ap (λ (rows : List (List ℕ)). map binding_of_words rows) (rows_kept_before 2 half next range 4864 (c.bindings + 1) (omega arith) (omega arith) ∙ rows_grown 2 t row 4864 c.bindings refl (omega arith)) ∙ map-append binding_of_words (rows_of 2 (drop 4864 t) c.bindings) (row ∷ []) in
      let called' = ap (λ (rows : List (List ℕ)). map (name_of_words names) rows) (rows_grown 2 half range 5376 c.bindings refl (omega arith) ∙ ap (λ (rows : List (List ℕ)). rows ++ (range ∷ [])) (rows_kept_behind 2 t at row 5376 c.bindings (omega arith) (omega arith))) ∙ map-append (name_of_words names) (rows_of 2 (drop 5376 t) c.bindings) (range ∷ []) in
      let words' = words_behind half next range 5888 c.words (omega arith) (omega arith) ∙ words_behind t at row 5888 c.words (omega arith) (omega arith) in
      let bytes' = words_behind half next range 7936 c.bytes (omega arith) (omega arith) ∙ words_behind t at row 7936 c.bytes (omega arith) (omega arith) in
      let stack' = words_behind half next range 24320 c.height (omega arith) (omega arith) ∙ words_behind t at row 24320 c.height (omega arith) (omega arith) in
      λ i. record {
        stack = stack' i;
        draft = record {
          types = types' i;
          patterns = patterns' i;
          bindings = bindings' i;
          called = called' i;
          words = words' i;
          bytes = bytes' i;
        };
      }
