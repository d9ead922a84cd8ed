-- The stack of parents that wait, in its table. Assumes nothing.
use Prim.Native.Nat.{ℕ, zero, suc, ◌+◌, ◌*◌, ◌-◌, ◌≤◌, ◌<◌}
use mathlib.Core.Path.{◌≡◌, refl, sym, ap, ◌∙◌}
use mathlib.Core.List.{List, [], ◌∷◌}
use native.Mathlib.Omega.{arith}
use native.Mathlib.Numerals.{add-one}
use lib.ListN.{length, get_or}
use Rattle.row_tables.specs.Rows.{row_at, stored}
use Rattle.row_tables.proofs.Tables.{row_of, rows_before, row_stored}
use Rattle.pattern_typing.specs.Contexts.{PartsRead, unseen, part_context}
use Rattle.pattern_typing.specs.Downward.{Waiting, wait_for, last_part, next_context, without_last, behind_next}
use Rattle.type_parts.specs.declared.PartsRow.{PartsRow}
use Rattle.type_parts.specs.Parts.{parts_of}
use Rattle.typing_state.specs.declared.tables.WaitingRow.{WaitingRow}
use Rattle.typing_state.specs.Parents.{waiting_words, waiting_row, waiting_of, stack_of, Stacked}

-- a parent that waits
abbrev parent : PartsRead → ℕ → Waiting
parent reads left = record { reads = reads; left = left }

-- the parents below a row that is stored
below : (t : List ℕ) (d : ℕ) (row : List ℕ) (k : ℕ) → k ≤ d → 7 * d ≤ length t → stack_of (stored t (7 * d) row) k ≡ stack_of t k
unfolding stack_of
below t d row zero h fits = refl
below t d row (suc k) h fits =
    let same : row_at 7 (stored t (7 * d) row) k ≡ row_at 7 t k =
    sym (row_of 7 (stored t (7 * d) row) d k (omega arith)) ∙ (ap (λ (r : List (List ℕ)). get_or r k []) (rows_before 7 t d row d (omega arith) fits) ∙ row_of 7 t d k (omega arith)) in
    let rest = below t d row k (omega arith) fits in
    rw (same, rest)

-- the parent that is stored on top
stored_top : (t : List ℕ) (d : ℕ) (reads : PartsRow) (left : ℕ) → 7 * d + 7 ≤ length t → stack_of (stored t (7 * d) (waiting_words reads left)) (suc d) ≡ parent (parts_of reads) left ∷ stack_of t d
unfolding stack_of
stored_top t d reads left fits =
    let row = row_stored 7 t d (waiting_words reads left) refl (omega arith) in
    let rest = below t d (waiting_words reads left) d (omega arith) (omega arith) in
    rw (row, rest)

-- the ways through `wait_for`
pub none_wait : (t : List ℕ) (depth : ℕ) (reads : PartsRow) (many : ℕ) → many ≡ 0 → Stacked t depth (wait_for (parts_of reads) many (stack_of t depth)) (depth + 1)
unfolding wait_for
none_wait t depth reads many e = rw e (record { same = refl; within = omega arith })

pub one_waits : (t : List ℕ) {s : List ℕ} (depth : ℕ) (reads : PartsRow) (many : ℕ) → length t ≡ 114695 → depth < 16385 → (many ≡ 0 → ⊥) → s ≡ stored t (7 * depth) (waiting_words reads many) → Stacked s (depth + 1) (wait_for (parts_of reads) many (stack_of t depth)) (depth + 1)
unfolding wait_for
one_waits t depth reads zero long h ne e = absurd (ne refl)
one_waits t depth reads (suc many) long h ne e =
    record { same = rw (e, add-one depth) (stored_top t depth reads (suc many) (omega arith)); within = omega arith }

-- the parent on top
abbrev top : List ℕ → ℕ → WaitingRow
top t depth = waiting_row (row_at 7 t (depth - 1))

top_of : (t : List ℕ) (depth : ℕ) (row : WaitingRow) → (depth ≡ 0 → ⊥) → row ≡ top t depth → stack_of t depth ≡ waiting_of row ∷ stack_of t (depth - 1)
unfolding stack_of
top_of t zero row ne e = absurd (ne refl)
top_of t (suc d) row ne e =
    let down : suc d - 1 ≡ d = omega arith in
    let same : waiting_row (row_at 7 t d) ≡ row = sym (e ∙ ap (λ (k : ℕ). waiting_row (row_at 7 t k)) down) in
    ap (λ (r : WaitingRow). waiting_of r ∷ stack_of t d) same ∙ rw down

module _ (t : List ℕ) (depth : ℕ) where
  -- the ways through `leave_part`
  pub none_left : depth ≡ 0 → Stacked t 0 (behind_next (stack_of t depth)) depth
  unfolding behind_next stack_of
  none_left e = rw e (record { same = refl; within = omega arith })

  pub parent_left : {row : WaitingRow} → (depth ≡ 0 → ⊥) → row ≡ top t depth → row.left ≤ 1 → Stacked t (depth - 1) (behind_next (stack_of t depth)) depth
  unfolding behind_next without_last wait_for
  parent_left {row} ne e h = record { same = rw (top_of t depth row ne e) (go row.left h); within = omega arith }
    where
      go : (left : ℕ) → left ≤ 1 → stack_of t (depth - 1) ≡ without_last (parts_of row.reads) left (stack_of t (depth - 1))
      go zero q = refl
      go (suc zero) q = refl
      go (suc (suc left)) q = absurd (omega arith)

  pub part_left : {s : List ℕ} {row : WaitingRow} → length t ≡ 114695 → depth ≤ 16385 → (depth ≡ 0 → ⊥) → row ≡ top t depth → 1 < row.left → s ≡ stored t (7 * (depth - 1)) (waiting_words row.reads (row.left - 1)) → Stacked s depth (behind_next (stack_of t depth)) depth
  unfolding behind_next without_last wait_for
  part_left {s} {row} long within ne e h told =
      let up : depth ≡ suc (depth - 1) = omega (arith, ne) in
      let now : stack_of s depth ≡ parent (parts_of row.reads) (row.left - 1) ∷ stack_of t (depth - 1) =
      ap (stack_of s) up ∙ rw told (stored_top t (depth - 1) row.reads (row.left - 1) (omega arith)) in
      record { same = now ∙ rw (top_of t depth row ne e) (go row.left h); within = omega arith }
    where
      go : (left : ℕ) → 1 < left → parent (parts_of row.reads) (left - 1) ∷ stack_of t (depth - 1) ≡ without_last (parts_of row.reads) left (stack_of t (depth - 1))
      go zero q = absurd (omega arith)
      go (suc zero) q = absurd (omega arith)
      go (suc (suc left)) q = let e : suc (suc left) - 1 ≡ suc left = omega arith in rw e

  -- the ways through `next_context`
  pub no_parent : (sheet : List ℕ) → depth ≡ 0 → unseen ≡ next_context sheet (stack_of t depth)
  unfolding next_context stack_of
  no_parent sheet e = rw e

  pub no_part : (sheet : List ℕ) {row : WaitingRow} → (depth ≡ 0 → ⊥) → row ≡ top t depth → row.left ≡ 0 → unseen ≡ next_context sheet (stack_of t depth)
  unfolding next_context last_part
  no_part sheet {row} ne e h = rw (top_of t depth row ne e, h)

  pub last_part_lem : (sheet : List ℕ) {row : WaitingRow} → (depth ≡ 0 → ⊥) → row ≡ top t depth → (row.left ≡ 0 → ⊥) → part_context sheet (parts_of row.reads) (row.left - 1) ≡ next_context sheet (stack_of t depth)
  unfolding next_context last_part
  last_part_lem sheet {row} ne e h = rw (top_of t depth row ne e) (go row.left h)
    where
      go : (left : ℕ) → (left ≡ 0 → ⊥) → part_context sheet (parts_of row.reads) (left - 1) ≡ last_part sheet (parts_of row.reads) left
      go zero q = absurd (q refl)
      go (suc left) q = let e : suc left - 1 ≡ left = omega arith in rw e
