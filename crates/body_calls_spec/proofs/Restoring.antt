-- After a refusal the rows below the counts are those that were found. Assumes nothing.
use Prim.Native.Nat.{ℕ, ◌+◌, ◌*◌, ◌-◌, ◌≤◌, ◌<◌}
use mathlib.Core.Path.{◌≡◌, sym, ap, ◌∙◌}
use mathlib.Core.List.{List, []}
use mathlib.Core.Logic.{⊎_elim}
use native.Mathlib.Nat.{eq-zero-or-pos}
use native.Mathlib.Omega.{arith}
use lib.ListN.{length, length-set, get_or, set, take}
use lib.Seq.{ext_get_or, get_or-set_same, get_or-set_other, get_or-take, take_all}
use Rattle.row_tables.specs.Rows.{row_at, rows_of, stored}
use Rattle.row_tables.proofs.Tables.{length_row, length_rows, row_of, rows_set, rows_same}
use Rattle.mir.specs.declared.Counts.{Counts}
use Rattle.mir.specs.Blocks.{block_width, block_words}
use Rattle.mir.specs.Statements.{statement_width}
use Rattle.state.specs.State.{Body, body, decode}
use Rattle.state.specs.Promises.{Kept}

-- the row of one block is put back, and the others were kept
rows_back : (bl bl₂ : List ℕ) (n current : ℕ) → current < n → block_width * n ≤ length bl → block_width * n ≤ length bl₂ →
    ((i : ℕ) → i < n → (i ≡ current → ⊥) → row_at block_width bl₂ i ≡ row_at block_width bl i) →
    rows_of block_width (stored bl₂ (block_width * current) (row_at block_width bl current)) n ≡ rows_of block_width bl n
rows_back bl bl₂ n current h fits fits₂ kept =
    let row = row_at block_width bl current in
    let rows = rows_of block_width bl n in
    let rows₂ = rows_of block_width bl₂ n in
    let long : length rows₂ ≡ n = length_rows 12 bl₂ n in
    let each : (i : ℕ) → i < length (set rows₂ current row) → get_or (set rows₂ current row) i [] ≡ get_or rows i [] =
    λ i below.
    let lt : i < n = omega (arith, below, length-set rows₂ current row, long) in
    ⊎_elim
    (λ (e : (i - current) + (current - i) ≡ 0).
    let same : i ≡ current = omega arith in
    rw same (get_or-set_same rows₂ current row [] (omega (arith, long)) ∙ sym (row_of 12 bl n current h)))
    (λ (p : 0 < (i - current) + (current - i)).
    let other : i ≡ current → ⊥ = λ e. omega arith in
    get_or-set_other rows₂ current i row [] other ∙ row_of 12 bl₂ n i lt ∙ kept i lt other ∙ sym (row_of 12 bl n i lt))
    (eq-zero-or-pos ((i - current) + (current - i))) in
    rows_set 12 bl₂ current row n (length_row 12 bl current (omega arith)) h fits₂
    ∙ ext_get_or [] (set rows₂ current row) rows (length-set rows₂ current row ∙ long ∙ sym (length_rows 12 bl n)) each

-- the blocks being as found, so is all that lies below the counts
pub kept_below : (c : Counts) (current : ℕ) (b b₂ : Body) (bl : List ℕ) → Kept c current b b₂ → rows_of block_width bl c.blocks ≡ rows_of block_width b.blocks c.blocks →
    decode (body bl b₂.statements b₂.locals b₂.scopes b₂.entries) c ≡ decode b c
unfolding decode
kept_below c current b b₂ bl K rows = λ i. record {
  blocks = rows i;
  statements = rows_same statement_width b₂.statements b.statements c.statements K.statements i;
  locals = K.locals i;
  scopes = K.scopes i;
  entries = K.entries i;
}

-- the row of the block is put back
pub put_back : (c : Counts) (current : ℕ) (b b₂ : Body) → current < c.blocks → c.blocks ≤ 512 → length b.blocks ≡ block_words → length b₂.blocks ≡ block_words → Kept c current b b₂ →
    decode (body (stored b₂.blocks (block_width * current) (row_at block_width b.blocks current)) b₂.statements b₂.locals b₂.scopes b₂.entries) c ≡ decode b c
put_back c current b b₂ h limit long long₂ K =
    kept_below c current b b₂ (stored b₂.blocks (block_width * current) (row_at block_width b.blocks current)) K
    (rows_back b.blocks b₂.blocks c.blocks current h (omega arith) (omega arith) K.blocks)

-- a table of which all words are kept
pub all_kept : (n : ℕ) (t t₂ : List ℕ) → length t ≤ n → length t₂ ≤ n → take n t₂ ≡ take n t → t₂ ≡ t
all_kept n t t₂ h h₂ e = sym (take_all n t₂ h₂) ∙ e ∙ take_all n t h

-- words below n, of tables that are the same there
pub same_word_lem : (n : ℕ) (t t₁ : List ℕ) (i : ℕ) → take n t₁ ≡ take n t → i < n → get_or t₁ i 0 ≡ get_or t i 0
same_word_lem n t t₁ i e h = sym (get_or-take n t₁ i 0 h) ∙ ap (λ (l : List ℕ). get_or l i 0) e ∙ get_or-take n t i 0 h
