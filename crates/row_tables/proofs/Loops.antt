-- A row that is stored, by a loop or whole, and a table that is cleared: the parts that are written, and the loops that look for zeros. Assumes nothing.
use Prim.Native.Nat.{ℕ, zero, suc, ◌+◌, ◌-◌, ◌≤◌, ◌<◌}
use mathlib.Core.Path.{◌≡◌, refl, sym, ap, ap₂, subst, ◌∙◌}
use mathlib.Core.List.{List, ◌∷◌, ◌++◌, append_assoc}
use mathlib.Core.Logic.{⊎_elim}
use native.Mathlib.Nat.{add-zero, add-suc, suc-add, eq-or-lt_of_le}
use native.Mathlib.Numerals.{add-one}
use native.Mathlib.Omega.{arith}
use lib.Bits.{bit_or, or_add_and, and_le_l, and_le_r}
use lib.ListN.{length, get_or, set, take, drop, replicate, length-set, drop_of_length-le, replicate-append-replicate}
use lib.Seq.{take-length, drop-cons, drop-drop, get_or-take, get_or-drop, paste, paste-zero, paste-suc}
use borrow.Rule.Slice.PartMut.{mid_of, put_mid, mid_len}
use Rattle.row_tables.specs.Rows.{zeros, stored, cleared, AtMost, ZerosFrom}
use Rattle.row_tables.proofs.Zeros.{length_zeros}

-- the first i numbers of the row are stored
pub record Storing (before : List ℕ) (at : ℕ) (row : List ℕ) (i : ℕ) (table : List ℕ) : Type 0 where
  pub pasted : table ≡ paste before at row i
  pub within : i ≤ length row
  pub kept : length table ≡ length before

-- where a loop that stores a row begins
pub store_start : {before : List ℕ} {at : ℕ} {row : List ℕ} → Storing before at row 0 before
store_start {before} {at} {row} = record { pasted = paste-zero before at row; within = omega arith; kept = refl }

module _ {before : List ℕ} {at : ℕ} {row : List ℕ} {i : ℕ} {table : List ℕ} (s : Storing before at row i table) where
  -- a turn stores one number more
  pub store_more : at + length row ≤ length before → i < length row → Storing before at row (i + 1) (set table (at + i) (get_or row i 0))
  store_more fits more =
      record {
        pasted = rw (s.pasted, add-one) (paste-suc before at row i 0 (omega arith) more);
        within = omega arith;
        kept = length-set table (at + i) (get_or row i 0) ∙ s.kept;
      }

  -- the loop's end
  pub store_end : length row ≤ i → table ≡ stored before at row
  unfolding stored
  store_end h =
      let all : i ≡ length row = omega arith in
      s.pasted ∙ rw (all, take-length row) (append_assoc (take at before) row (drop (at + length row) before))

-- a row put in the place of as many numbers is stored there
pub put_stored : (t : List ℕ) (at n : ℕ) (row : List ℕ) → n ≡ length row → put_mid at n t row ≡ stored t at row
unfolding stored
put_stored t at n row e = ap (λ (l : List ℕ). take at t ++ (row ++ l)) (drop-drop n at t ∙ ap (λ (k : ℕ). drop (at + k) t) e)

module _ (t : List ℕ) (from to : ℕ) (within : to ≤ length t) where
  -- a part filled with zeros
  pub put_zeros : (part : List ℕ) → part ≡ replicate (length (mid_of from (to - from) t)) 0 → put_mid from (to - from) t part ≡ stored t from (zeros (to - from))
  put_zeros part e =
      let all : part ≡ zeros (to - from) = e ∙ ap (λ (n : ℕ). zeros n) (mid_len from to t within) in
      rw all (put_stored t from (to - from) (zeros (to - from)) (sym (length_zeros (to - from))))

  -- a number of a part, by its place in the table
  pub number_of : (k : ℕ) → k < length (mid_of from (to - from) t) → get_or (mid_of from (to - from) t) k 0 ≡ get_or t (from + k) 0
  number_of k h = get_or-take (to - from) (drop from t) k 0 (rw (mid_len from to t within) at h) ∙ get_or-drop from t k 0

-- `|` is no less than either side
le_or_l : (a b : ℕ) → a ≤ bit_or a b
le_or_l a b = omega (arith, or_add_and a b, and_le_r a b)

le_or_r : (a b : ℕ) → b ≤ bit_or a b
le_or_r a b = omega (arith, or_add_and a b, and_le_l a b)

-- `bits_of`: the bits of one number more
pub bits_more : {bits : ℕ} (table : List ℕ) (at k : ℕ) → AtMost bits table at k → AtMost (bit_or bits (get_or table (at + k) 0)) table at (k + 1)
bits_more {bits} table at k most j h = ⊎_elim (λ (e : j ≡ k). last e) (λ (lt : j < k). earlier lt) (eq-or-lt_of_le (omega (arith, h)))
  where
    last : j ≡ k → get_or table (at + j) 0 ≤ bit_or bits (get_or table (at + k) 0)
    last e = rw e (le_or_r bits (get_or table (at + k) 0))

    earlier : j < k → get_or table (at + j) 0 ≤ bit_or bits (get_or table (at + k) 0)
    earlier lt = omega (arith, most j lt, le_or_l bits (get_or table (at + k) 0))

-- n numbers that are zeros, before zeros
zeros_before : (table : List ℕ) (from n : ℕ) → from + n ≤ length table → AtMost 0 table from n → drop (from + n) table ≡ zeros (length table - (from + n)) → drop from table ≡ zeros (length table - from)
zeros_before table from zero fits none e = rw (add-zero from) at e
zeros_before table from (suc n) fits none e =
    let here : get_or table from 0 ≡ 0 = omega (arith, rw (add-zero from) at (none 0 (omega arith))) in
    let rest = zeros_before table (suc from) n (omega arith) (λ k h. rw (suc-add from k, sym (add-suc from k)) (none (suc k) (omega arith))) (rw (suc-add from n, sym (add-suc from n)) e) in
    let more : suc (length table - suc from) ≡ length table - from = omega arith in
    drop-cons table from 0 (omega arith) ∙ ap₂ (λ (x : ℕ) (l : List ℕ). x ∷ l) here rest ∙ ap (λ (m : ℕ). zeros m) more

-- `set_to`: where the loop begins
pub zeros_start : (table : List ℕ) → ZerosFrom table (length table)
zeros_start table =
    let none : 0 ≡ length table - length table = omega arith in
    (omega arith, drop_of_length-le table {i = length table} (omega arith) ∙ ap (λ (m : ℕ). zeros m) none)

-- 512 zeros more
pub zeros_more : (table : List ℕ) (end : ℕ) {bits : ℕ} → 512 ≤ end → ZerosFrom table end → AtMost bits table (end - 512) 512 → bits ≡ 0 → ZerosFrom table (end - 512)
zeros_more table end {bits} h zs most is =
    let back : end - 512 + 512 ≡ end = omega arith in (
      omega (arith, zs.0),
      zeros_before table (end - 512) 512 (omega (arith, zs.0)) (subst (λ (b : ℕ). AtMost b table (end - 512) 512) is most) (rw back zs.1),
    )

-- `clear_from`: where zeros are stored up to other zeros, all is cleared
pub cleared_to : (table : List ℕ) (at end : ℕ) → at ≤ end → ZerosFrom table end → stored table at (zeros (end - at)) ≡ cleared table at
unfolding stored cleared
cleared_to table at end h zs =
    let long : at + length (zeros (end - at)) ≡ end = omega (arith, length_zeros (end - at)) in
    let all : end - at + (length table - end) ≡ length table - at = omega (arith, zs.0) in
    rw (long, zs.1, replicate-append-replicate {A = ℕ} (end - at) (length table - end) 0, all)
