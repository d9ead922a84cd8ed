-- What records are that are filled from the table of blocks: their count, those that are filled, those past them, and what they are read as. Assumes nothing.
use Prim.Native.Nat.{ℕ, zero, suc, ◌≤◌, ◌<◌}
use mathlib.Core.Path.{◌≡◌, refl, sym, ap, ◌∙◌, subst}
use mathlib.Core.Bool.{Bool, true, false, not, ◌&&◌}
use mathlib.Core.List.{List, [], ◌∷◌, ◌++◌, map, map-append, map-map}
use native.Mathlib.Nat.{not-suc-le-zero, le_of_suc-le-suc, le_of_lt, lt_irrefl, le_antisymm}
use lib.Dec.{T as Holds, eqb, leb, ltb, ltb→lt, nltb→le}
use lib.ListN.{length, get_or, set, take, drop, length-set}
use lib.Seq.{get_or-set_same, get_or-set_other, take-suc-set, drop-set-lt}
use borrow.Author.Tests.{eqb-true, leb-true}
use Rattle.image.proofs.Bools.{and_left, and_right}
use Rattle.row_tables.specs.Rows.{row_at, rows_of}
use Rattle.mir.specs.Blocks.{block_width, block_words}
use Rattle.views.specs.Views.{terminator_of}
use Rattle.block_records.specs.declared.Block.{Block}
use Rattle.block_records.specs.Records.{blank, terminator_in, record_of_row, record_at, terminators_of}
use Rattle.block_record_filling.specs.Fillings.{filled, fits, filled_where, Shown}
use Rattle.block_record_tables.proofs.Looking.{holds_true, fails_false}

-- no record is filled
pub filled_none : (rs : List Block) (t : List ℕ) → filled rs t 0 ≡ rs
unfolding filled
filled_none rs t = refl

-- filling changes no count
pub same_length : (rs : List Block) (t : List ℕ) (n : ℕ) → length (filled rs t n) ≡ length rs
unfolding filled
same_length rs t zero = refl
same_length rs t (suc n) = length-set (filled rs t n) n (record_at t n) ∙ same_length rs t n

-- each record that is filled is its row
pub filled_at : (rs : List Block) (t : List ℕ) (n k : ℕ) → k < n → n ≤ length rs → get_or (filled rs t n) k blank ≡ record_at t k
unfolding filled
filled_at rs t zero k l m = absurd (not-suc-le-zero l)
filled_at rs t (suc n) k l m = by_test (λ small. filled_at rs t n k small (le_of_lt m)) (ltb k n) refl
  where
    by_test : (k < n → get_or (filled rs t n) k blank ≡ record_at t k) → (z : Bool) → ltb k n ≡ z → get_or (set (filled rs t n) n (record_at t n)) k blank ≡ record_at t k
    by_test ih true e =
        let small = ltb→lt k n (subst Holds (sym e) tt) in
        get_or-set_other (filled rs t n) n k (record_at t n) blank (λ same. lt_irrefl n (subst (λ (j : ℕ). j < n) same small)) ∙ ih small
    by_test ih false e =
        let same = le_antisymm (le_of_suc-le-suc l) (nltb→le k n (subst (λ (z : Bool). Holds (not z)) (sym e) tt)) in
        subst (λ (j : ℕ). get_or (set (filled rs t n) n (record_at t n)) j blank ≡ record_at t j) (sym same)
        (get_or-set_same (filled rs t n) n (record_at t n) blank (subst (λ (j : ℕ). n < j) (sym (same_length rs t n)) m))

-- the records past them stay
pub filled_past : (rs : List Block) (t : List ℕ) (n k : ℕ) → n ≤ k → drop k (filled rs t n) ≡ drop k rs
unfolding filled
filled_past rs t zero k h = refl
filled_past rs t (suc n) k h = drop-set-lt k (filled rs t n) n (record_at t n) h ∙ filled_past rs t n k (le_of_lt h)

-- the first n records are the first n rows
pub filled_rows : (rs : List Block) (t : List ℕ) (n : ℕ) → n ≤ length rs → take n (filled rs t n) ≡ map record_of_row (rows_of block_width t n)
unfolding filled rows_of record_at
filled_rows rs t zero m = refl
filled_rows rs t (suc n) m =
    take-suc-set (filled rs t n) n (record_at t n) (subst (λ (j : ℕ). n < j) (sym (same_length rs t n)) m)
    ∙ ap (λ (l : List Block). l ++ (record_at t n ∷ [])) (filled_rows rs t n (le_of_lt m))
    ∙ sym (map-append record_of_row (rows_of block_width t n) (row_at block_width t n ∷ []))

-- they are read as the rows are
pub filled_shown : (rs : List Block) (t : List ℕ) (n : ℕ) → n ≤ length rs → map terminator_in (take n (filled rs t n)) ≡ terminators_of t n
unfolding terminators_of terminator_in terminator_of
filled_shown rs t n m = ap (map terminator_in) (filled_rows rs t n m) ∙ map-map terminator_in record_of_row (rows_of block_width t n)

-- what the test tells where it holds
pub fits_told : (words count room : ℕ) (z : Bool) → Holds z → z ≡ fits words count room → (words ≡ block_words) × (count ≤ 512) × (count ≤ room)
unfolding fits
fits_told words count room z h e =
    let all = sym e ∙ sym (holds_true z h) in
    let first = and_left (eqb words block_words && leb count 512) (leb count room) all in (
      eqb-true words block_words (and_left (eqb words block_words) (leb count 512) first),
      leb-true count 512 (and_right (eqb words block_words) (leb count 512) first),
      leb-true count room (and_right (eqb words block_words && leb count 512) (leb count room) all),
    )

-- what `blocks_as_records` says where it fills, and where it refuses
abbrev pub Says : Bool → List Block → List ℕ → ℕ → List Block → Type 0
Says r rs t count zs = (r ≡ fits (length t) count (length rs)) × (zs ≡ filled_where r rs t count) × Shown r zs t count

pub says_filled : (rs : List Block) (t : List ℕ) (count : ℕ) (zs : List Block) (z : Bool) → Holds z → z ≡ fits (length t) count (length rs) → zs ≡ filled rs t count → Says true rs t count zs
unfolding filled_where
says_filled rs t count zs z h e f =
    (holds_true z h ∙ e, f, ap (λ (l : List Block). map terminator_in (take count l)) f ∙ filled_shown rs t count (fits_told (length t) count (length rs) z h e).2)

pub says_refused : (rs : List Block) (t : List ℕ) (count : ℕ) (z : Bool) → Holds (not z) → z ≡ fits (length t) count (length rs) → Says false rs t count rs
unfolding filled_where
says_refused rs t count z h e = (fails_false z h ∙ e, refl, tt)
