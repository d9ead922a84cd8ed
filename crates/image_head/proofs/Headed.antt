-- The first 17 bytes are written when their three pieces are. Assumes nothing.
use Prim.Native.Nat.{ℕ, ◌+◌, ◌/◌, ◌%◌, ◌≤◌}
use mathlib.Core.Path.{◌≡◌, refl}
use mathlib.Core.List.{List, [], ◌∷◌}
use native.Mathlib.Omega.{arith}
use lib.ListN.{length}
use Rattle.image.specs.declared.Tables.{Tables}
use Rattle.row_tables.specs.Rows.{stored}
use Rattle.pattern_images.specs.Imaging.{word_bytes, words_bytes, long_bytes}
use Rattle.draft_tables.specs.declared.DraftCounts.{DraftCounts}
use Rattle.image_pieces.proofs.Joining.{three}
use Rattle.image_head.specs.Heads.{head_bytes}

-- `write_head`
pub head_written : (follow : ℕ) (tables : Tables) (c : DraftCounts) (t : List ℕ) (p q : ℕ) (t₁ t₂ t₃ : List ℕ) → 17 ≤ length t → p ≡ 4 → q ≡ 5 →
    t₁ ≡ stored t 0 (words_bytes (follow / 65536 ∷ follow % 65536 ∷ [])) →
    t₂ ≡ stored t₁ p (1 ∷ []) →
    t₃ ≡ stored t₂ q (words_bytes ((tables.types.count + c.types) ∷ tables.variants.count ∷ (tables.patterns.count + c.patterns) ∷ (tables.bindings.count + c.bindings) ∷ (tables.list.count + c.words) ∷ (tables.bytes.count + c.bytes) ∷ [])) →
    t₃ ≡ stored t 0 (head_bytes follow tables c)
unfolding head_bytes long_bytes words_bytes word_bytes
head_written follow tables c t p q t₁ t₂ t₃ long ep eq e₁ e₂ e₃ =
    let a = words_bytes (follow / 65536 ∷ follow % 65536 ∷ []) in
    let b = words_bytes ((tables.types.count + c.types) ∷ tables.variants.count ∷ (tables.patterns.count + c.patterns) ∷ (tables.bindings.count + c.bindings) ∷ (tables.list.count + c.words) ∷ (tables.bytes.count + c.bytes) ∷ []) in
    let la : length a ≡ 4 = refl in
    let lb : length b ≡ 12 = refl in
    let version : List ℕ = 1 ∷ [] in
    let lv : length version ≡ 1 = refl in
    three t 0 a version b p q t₁ t₂ t₃ e₁ e₂ e₃ (omega arith) (omega arith) (omega arith)
