-- The laws of tables of rows, of any width w: the rows that a table has after one is stored or what is past them is cleared,
-- and the zeros past them. Assumes nothing.
use Prim.Native.Nat.{ℕ, zero, suc, ◌+◌, ◌*◌, ◌-◌, ◌≤◌, ◌<◌}
use mathlib.Core.Path.{◌≡◌, refl, sym, ap, ap₂, ◌∙◌}
use mathlib.Core.List.{List, [], ◌∷◌, ◌++◌, append_assoc, append-nil}
use mathlib.Core.Logic.{◌⊎◌, ⊎_elim}
use native.Mathlib.Nat.{zero-add, suc-add, mul-zero, mul-suc, mul-le-mul_left, eq-or-lt_of_le}
use native.Mathlib.Numerals.{add-one}
use native.Mathlib.Omega.{arith}
use lib.ListN.{length, get_or, set, take, drop, length-append, length-take, length-drop, take-append-drop, get_or-append}
use lib.Seq.{length-take-le, take_all, take-nil, take-append-le, take-take, take-add, take_at, drop_at, drop-drop, get_or_at, set_at, set-append_left}
use Rattle.row_tables.specs.Rows.{zeros, row_at, rows_of, joined, encode_rows, stored, cleared, Blank}
use Rattle.row_tables.proofs.Zeros.{length_zeros, drop_zeros}

-- numbers past the first n are the last of the first n + m
take_drop : (n m : ℕ) (l : List ℕ) → take m (drop n l) ≡ drop n (take (n + m) l)
take_drop zero m l = ap (λ (k : ℕ). take k l) (sym (zero-add m))
take_drop (suc n) m [] = take-nil m ∙ sym (ap (drop (suc n)) (take-nil (suc n + m)))
take_drop (suc n) m (x ∷ l) = take_drop n m l ∙ sym (ap (λ (k : ℕ). drop (suc n) (take k (x ∷ l))) (suc-add n m))

-- lists with the same first numbers have fewer of them the same
pub take_less : (m n : ℕ) (t s : List ℕ) → m ≤ n → take n t ≡ take n s → take m t ≡ take m s
take_less m n t s h e = sym (take-take m n t h) ∙ ap (take m) e ∙ take-take m n s h

-- a row below n ends where row n begins, or before
row_ends : (w : ℕ) {i n : ℕ} → i < n → w * i + w ≤ w * n
row_ends w {i} {n} h = let next : suc i ≤ n = h in omega (arith, mul-suc w i, mul-le-mul_left w next)

-- a number below n + 1 is n, or below n
last_or_below : {i n : ℕ} → i < suc n → (i ≡ n) ⊎ (i < n)
last_or_below {i} {n} h = let le : i ≤ n = omega arith in eq-or-lt_of_le le

-- n rows are n
pub length_rows : (w : ℕ) (t : List ℕ) (n : ℕ) → length (rows_of w t n) ≡ n
unfolding rows_of
length_rows w t zero = refl
length_rows w t (suc n) = omega (arith, length-append (rows_of w t n) (row_at w t n ∷ []), length_rows w t n)

-- a row that lies in the table has w numbers
pub length_row : (w : ℕ) (t : List ℕ) (i : ℕ) → w * i + w ≤ length t → length (row_at w t i) ≡ w
unfolding row_at
length_row w t i h = length-take-le w (drop (w * i) t) (omega (arith, length-drop (w * i) t))

-- the row i of the first n
pub row_of : (w : ℕ) (t : List ℕ) (n i : ℕ) → i < n → get_or (rows_of w t n) i [] ≡ row_at w t i
unfolding rows_of
row_of w t zero i h = absurd (omega arith)
row_of w t (suc n) i h =
    ⊎_elim
    (λ (e : i ≡ n). get_or_at (rows_of w t n) (row_at w t n) [] [] i (length_rows w t n ∙ sym e) ∙ ap (row_at w t) (sym e))
    (λ (lt : i < n). get_or-append (rows_of w t n) (row_at w t n ∷ []) [] i (omega (arith, length_rows w t n)) ∙ row_of w t n i lt)
    (last_or_below h)

-- a row is the last w of the first numbers that hold it
row_last : (w : ℕ) (t : List ℕ) (n : ℕ) → row_at w t n ≡ drop (w * n) (take (w * suc n) t)
unfolding row_at
row_last w t n = take_drop (w * n) w t ∙ ap (λ (k : ℕ). drop (w * n) (take k t)) (sym (mul-suc w n))

-- n rows depend on the first w * n numbers only
pub rows_same : (w : ℕ) (t s : List ℕ) (n : ℕ) → take (w * n) t ≡ take (w * n) s → rows_of w t n ≡ rows_of w s n
unfolding rows_of
rows_same w t s zero e = refl
rows_same w t s (suc n) e =
    ap₂
    (λ (rows : List (List ℕ)) (row : List ℕ). rows ++ (row ∷ []))
    (rows_same w t s n (take_less (w * n) (w * suc n) t s (omega (arith, mul-suc w n)) e))
    (row_last w t n ∙ ap (drop (w * n)) e ∙ sym (row_last w s n))

-- fewer rows are the first of more
pub rows_cut : (w : ℕ) (t : List ℕ) (m n : ℕ) → m ≤ n → rows_of w t m ≡ take m (rows_of w t n)
unfolding rows_of
rows_cut w t m zero h = let none : m ≡ 0 = omega arith in rw none
rows_cut w t m (suc n) h =
    ⊎_elim
    (λ (e : m ≡ suc n). rw e (sym (take_all (suc n) (rows_of w t (suc n)) (omega (arith, length_rows w t (suc n))))))
    (λ (lt : m < suc n).
    let le : m ≤ n = omega arith in
    rows_cut w t m n le ∙ sym (take-append-le m (rows_of w t n) (row_at w t n ∷ []) (omega (arith, length_rows w t n))))
    (eq-or-lt_of_le h)

-- a row that is stored in the table leaves its length
pub length_stored : (t : List ℕ) (at : ℕ) (row : List ℕ) → at + length row ≤ length t → length (stored t at row) ≡ length t
unfolding stored
length_stored t at row h =
    let left = drop (at + length row) t in
    omega (
      arith,
      length-append (take at t) (row ++ left),
      length-append row left,
      length-take-le at t (omega arith),
      length-drop (at + length row) t,
    )

-- numbers that are cleared leave the length
pub length_cleared : (t : List ℕ) (at : ℕ) → at ≤ length t → length (cleared t at) ≡ length t
unfolding cleared
length_cleared t at h = omega (arith, length-append (take at t) (zeros (length t - at)), length-take-le at t h, length_zeros (length t - at))

-- the numbers before a stored row stay
pub before_stored : (t : List ℕ) (at : ℕ) (row : List ℕ) (k : ℕ) → k ≤ at → at ≤ length t → take k (stored t at row) ≡ take k t
unfolding stored
before_stored t at row k h fits =
    take-append-le k (take at t) (row ++ drop (at + length row) t) (omega (arith, length-take-le at t fits)) ∙ take-take k at t h

-- the numbers past a stored row stay
pub past_stored : (t : List ℕ) (at : ℕ) (row : List ℕ) (k : ℕ) → at + length row ≤ k → k ≤ length t → drop k (stored t at row) ≡ drop k t
unfolding stored
past_stored t at row k h fits =
    let first = take at t ++ row in
    let left = drop (at + length row) t in
    let split : k ≡ at + length row + (k - (at + length row)) = omega arith in
    let long : length first ≡ at + length row = omega (arith, length-append (take at t) row, length-take-le at t (omega arith)) in
    ap₂ (λ (j : ℕ) (l : List ℕ). drop j l) split (sym (append_assoc (take at t) row left))
    ∙ sym (drop-drop (k - (at + length row)) (at + length row) (first ++ left))
    ∙ ap (drop (k - (at + length row))) (drop_at first left (at + length row) long)
    ∙ drop-drop (k - (at + length row)) (at + length row) t
    ∙ ap (λ (j : ℕ). drop j t) (sym split)

-- the row that is stored
pub row_stored : (w : ℕ) (t : List ℕ) (i : ℕ) (row : List ℕ) → length row ≡ w → w * i ≤ length t → row_at w (stored t (w * i) row) i ≡ row
unfolding row_at stored
row_stored w t i row e h =
    let left = drop (w * i + length row) t in
    ap (take w) (drop_at (take (w * i) t) (row ++ left) (w * i) (length-take-le (w * i) t h)) ∙ take_at row left w e

-- a row past the one that is stored
pub row_kept : (w : ℕ) (t : List ℕ) (i j : ℕ) (row : List ℕ) → length row ≡ w → i < j → w * j ≤ length t →
    row_at w (stored t (w * i) row) j ≡ row_at w t j
unfolding row_at
row_kept w t i j row e h fits = ap (take w) (past_stored t (w * i) row (w * j) (omega (arith, row_ends w h)) fits)

-- the rows before one that is stored
pub rows_before : (w : ℕ) (t : List ℕ) (i : ℕ) (row : List ℕ) (n : ℕ) → n ≤ i → w * i ≤ length t →
    rows_of w (stored t (w * i) row) n ≡ rows_of w t n
rows_before w t i row n h fits =
    rows_same w (stored t (w * i) row) t n (before_stored t (w * i) row (w * n) (mul-le-mul_left w h) fits)

-- a row that is stored past the last one
pub rows_push : (w : ℕ) (t : List ℕ) (n : ℕ) (row : List ℕ) → length row ≡ w → w * n + w ≤ length t →
    rows_of w (stored t (w * n) row) (n + 1) ≡ rows_of w t n ++ (row ∷ [])
unfolding rows_of
rows_push w t n row e h =
    rw add-one
    (ap₂
    (λ (rows : List (List ℕ)) (last : List ℕ). rows ++ (last ∷ []))
    (rows_before w t n row n (omega arith) (omega arith))
    (row_stored w t n row e (omega arith)))

-- a row that is stored among the rows
pub rows_set : (w : ℕ) (t : List ℕ) (i : ℕ) (row : List ℕ) (n : ℕ) → length row ≡ w → i < n → w * n ≤ length t →
    rows_of w (stored t (w * i) row) n ≡ set (rows_of w t n) i row
unfolding rows_of
rows_set w t i row zero e h fits = absurd (omega arith)
rows_set w t i row (suc n) e h fits =
    ⊎_elim
    (λ (same : i ≡ n).
    ap₂
    (λ (rows : List (List ℕ)) (last : List ℕ). rows ++ (last ∷ []))
    (rows_before w t i row n (omega arith) (omega (arith, row_ends w h)))
    (ap (row_at w (stored t (w * i) row)) (sym same) ∙ row_stored w t i row e (omega (arith, row_ends w h)))
    ∙ sym (set_at (rows_of w t n) (row_at w t n) [] row i (length_rows w t n ∙ sym same)))
    (λ (lt : i < n).
    ap₂
    (λ (rows : List (List ℕ)) (last : List ℕ). rows ++ (last ∷ []))
    (rows_set w t i row n e lt (omega (arith, mul-suc w n)))
    (row_kept w t i n row e lt (omega (arith, mul-suc w n)))
    ∙ sym (set-append_left (rows_of w t n) (row_at w t n ∷ []) i row (omega (arith, length_rows w t n))))
    (last_or_below h)

-- the rows before what is cleared
pub rows_cleared : (w : ℕ) (t : List ℕ) (n m : ℕ) → n ≤ m → w * m ≤ length t → rows_of w (cleared t (w * m)) n ≡ rows_of w t n
unfolding cleared
rows_cleared w t n m h fits =
    let le = mul-le-mul_left w h in
    rows_same w (cleared t (w * m)) t n
    (take-append-le (w * n) (take (w * m) t) (zeros (length t - w * m)) (omega (arith, length-take-le (w * m) t fits)) ∙ take-take (w * n) (w * m) t le)

-- past rows that are kept when the rest is cleared there are zeros
pub blank_cleared : (w : ℕ) (t : List ℕ) (n : ℕ) → w * n ≤ length t → Blank w (cleared t (w * n)) n
unfolding cleared
blank_cleared w t n h =
    drop_at (take (w * n) t) (zeros (length t - w * n)) (w * n) (length-take-le (w * n) t h)
    ∙ ap (λ (k : ℕ). zeros (k - w * n)) (sym (length_cleared t (w * n) h))

-- zeros past n rows are zeros past more
pub blank_more : (w : ℕ) (t : List ℕ) (n m : ℕ) → n ≤ m → Blank w t n → Blank w t m
blank_more w t n m h blank =
    let le = mul-le-mul_left w h in
    let more = w * m - w * n in
    let split : w * m ≡ w * n + more = omega arith in
    let left : length t - w * n - more ≡ length t - w * m = omega arith in
    ap (λ (k : ℕ). drop k t) split
    ∙ sym (drop-drop more (w * n) t)
    ∙ ap (drop more) blank
    ∙ drop_zeros more (length t - w * n)
    ∙ ap (λ (k : ℕ). zeros k) left

-- zeros past n rows stay where a row below n is stored
pub blank_set : (w : ℕ) (t : List ℕ) (i : ℕ) (row : List ℕ) (n : ℕ) → length row ≡ w → i < n → w * n ≤ length t → Blank w t n →
    Blank w (stored t (w * i) row) n
blank_set w t i row n e h fits blank =
    let ends = row_ends w h in
    past_stored t (w * i) row (w * n) (omega arith) fits
    ∙ blank
    ∙ ap (λ (k : ℕ). zeros (k - w * n)) (sym (length_stored t (w * i) row (omega arith)))

-- zeros past n rows are zeros past one more where row n is stored
pub blank_push : (w : ℕ) (t : List ℕ) (n : ℕ) (row : List ℕ) → length row ≡ w → w * n + w ≤ length t → Blank w t n →
    Blank w (stored t (w * n) row) (n + 1)
blank_push w t n row e h blank =
    rw add-one
    (blank_set w t n row (suc n) e (omega arith) (omega (arith, mul-suc w n)) (blank_more w t n (suc n) (omega arith) blank))

-- rows and one more as numbers
joined_last : (rows : List (List ℕ)) (row : List ℕ) → joined (rows ++ (row ∷ [])) ≡ joined rows ++ row
unfolding joined
joined_last [] row = append-nil row
joined_last (first ∷ rows) row = ap (λ (l : List ℕ). first ++ l) (joined_last rows row) ∙ sym (append_assoc first (joined rows) row)

-- n rows as numbers are the first w * n numbers
pub joined_rows : (w : ℕ) (t : List ℕ) (n : ℕ) → joined (rows_of w t n) ≡ take (w * n) t
unfolding rows_of joined row_at
joined_rows w t zero = ap (λ (k : ℕ). take k t) (sym (mul-zero w))
joined_rows w t (suc n) =
    joined_last (rows_of w t n) (row_at w t n)
    ∙ ap (λ (l : List ℕ). l ++ row_at w t n) (joined_rows w t n)
    ∙ sym (take-add (w * n) w t)
    ∙ ap (λ (k : ℕ). take k t) (sym (mul-suc w n))

-- a table is its first n rows and what is past them
pub rows_then : (w : ℕ) (t : List ℕ) (n : ℕ) → t ≡ joined (rows_of w t n) ++ drop (w * n) t
rows_then w t n = rw joined_rows (sym (take-append-drop (w * n) t))

-- a table with zeros past its rows is their encoding
pub encoded : (w : ℕ) (t : List ℕ) (n : ℕ) → Blank w t n → t ≡ encode_rows (length t) (rows_of w t n)
unfolding encode_rows
encoded w t n blank =
    let left : length t - w * n ≡ length t - length (joined (rows_of w t n)) = omega (arith, ap length (joined_rows w t n), length-take (w * n) t) in
    rows_then w t n ∙ ap (λ (l : List ℕ). joined (rows_of w t n) ++ l) (blank ∙ ap (λ (k : ℕ). zeros k) left)
