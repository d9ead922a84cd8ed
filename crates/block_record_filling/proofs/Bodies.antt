-- Records and the body: the records' terminators are those of the body that tables and counts stand for, a terminator that is set is the one that is found, and a terminator set in the table of words and in its records leaves the two in step. Assumes nothing.
use Rattle.std.specs.Prelude.{Some, None}
use Prim.Native.Nat.{ℕ, zero, suc, ◌*◌, ◌≤◌, ◌<◌}
use mathlib.Core.Path.{◌≡◌, refl, sym, ap, ap₂, ◌∙◌, subst}
use mathlib.Core.Bool.{Bool, true, false, cond}
use mathlib.Core.List.{List, [], ◌∷◌, ◌++◌, map}
use native.Mathlib.Omega.{arith}
use native.Mathlib.Nat.{le_refl}
use borrow.Author.Tests.{lt-ltb}
use lib.Dec.{ltb}
use lib.ListN.{length, get_or, set, drop, length-set, length-map, take-append-drop, get_or-map}
use lib.Seq.{get_or-set_same, get_or-set_other, set-append_left}
use Rattle.row_tables.specs.Rows.{row_at, rows_of, stored}
use Rattle.row_tables.proofs.Tables.{row_of, length_rows, rows_set}
use Rattle.mir.specs.declared.Counts.{Counts}
use Rattle.mir.specs.declared.blocks.Terminator.{Terminator}
use Rattle.mir.specs.Blocks.{term_row, block_width}
use Rattle.state.specs.State.{Body, decode}
use Rattle.state.proofs.RowLengths.{term_length}
use Rattle.views.specs.Views.{terminator_of, mir_of}
use Rattle.views.specs.Growing.{terminator_at}
use Rattle.views.proofs.ReadBack.{Halved}
use Rattle.block_records.specs.declared.Block.{Block}
use Rattle.block_records.specs.Records.{blank, record_of, terminator_in, record_of_row, terminators_of}
use Rattle.block_record_tables.specs.Looks.{look_at, put_at}
use Rattle.block_record_filling.specs.Fillings.{filled}
use Rattle.block_records.proofs.Reading.{record_back, row_record}
use Rattle.block_record_filling.proofs.Filling.{same_length, filled_past, filled_rows}
use Rattle.block_record_filling.proofs.Through.{filled_look}

-- the terminators of a table's first blocks are those of the body that tables and counts stand for
pub body_terminators : (b : Body) (c : Counts) → terminators_of b.blocks c.blocks ≡ (mir_of (decode b c)).terminators
unfolding terminators_of mir_of decode
body_terminators b c = refl

-- each is its row's
terminator_row : (t : List ℕ) (n i : ℕ) → i < n → get_or (terminators_of t n) i Terminator.Open ≡ terminator_of (row_at block_width t i)
unfolding terminators_of terminator_of
terminator_row t n i h = get_or-map terminator_of (rows_of block_width t n) i [] ∙ ap terminator_of (row_of 12 t n i h)

-- what is found of a block in records that are filled is its terminator in that body
pub body_block : (rs : List Block) (b : Body) (c : Counts) (i : ℕ) → c.blocks ≤ length rs → i < c.blocks → look_at (filled rs b.blocks c.blocks) i ≡ Some (terminator_at (mir_of (decode b c)) i)
body_block rs b c i h k =
    filled_look rs b.blocks c.blocks i h k
    ∙ ap Some (sym (terminator_row b.blocks c.blocks i k) ∙ ap (λ (l : List Terminator). get_or l i Terminator.Open) (body_terminators b c))

-- the record that is there, with a terminator set
set_there : (rs : List Block) (i : ℕ) (t : Terminator) → i < length rs → put_at rs i t ≡ set rs i (record_of t)
unfolding put_at
set_there rs i t h = ap (λ (z : Bool). cond z (set rs i (record_of t)) rs) (lt-ltb i (length rs) h)

-- a look at a record that is there
look_there : (rs : List Block) (i : ℕ) → i < length rs → look_at rs i ≡ Some (terminator_in (get_or rs i blank))
unfolding look_at
look_there rs i h = ap (λ (z : Bool). cond z (Some (terminator_in (get_or rs i blank))) None) (lt-ltb i (length rs) h)

-- the terminator that was set is found
pub found_set : (rs : List Block) (i : ℕ) (t : Terminator) → i < length rs → look_at (put_at rs i t) i ≡ Some t
found_set rs i t h =
    ap (λ (l : List Block). look_at l i) (set_there rs i t h)
    ∙ look_there (set rs i (record_of t)) i (subst (λ (n : ℕ). i < n) (sym (length-set rs i (record_of t))) h)
    ∙ ap (λ (r : Block). Some (terminator_in r)) (get_or-set_same rs i (record_of t) blank h)
    ∙ ap Some (record_back t)

-- another record is found as it was
pub found_other : (rs : List Block) (i j : ℕ) (t : Terminator) → (j ≡ i → ⊥) → look_at (put_at rs i t) j ≡ look_at rs j
unfolding look_at put_at
found_other rs i j t other = by_test (ltb i (length rs))
  where
    by_test : (z : Bool) → look_at (cond z (set rs i (record_of t)) rs) j ≡ look_at rs j
    by_test true =
        ap₂ (λ (n : ℕ) (r : Block). cond (ltb j n) (Some (terminator_in r)) None) (length-set rs i (record_of t)) (get_or-set_other rs i j (record_of t) blank other)
    by_test false = refl

-- a list with one element put, mapped
map_set : {A B : Type 0} (f : A → B) (l : List A) (i : ℕ) (a : A) → map f (set l i a) ≡ set (map f l) i (f a)
map_set f [] i a = refl
map_set f (x ∷ l) zero a = refl
map_set {B} f (x ∷ l) (suc i) a = ap (λ (t : List B). f x ∷ t) (map_set f l i a)

-- records that are filled: the rows, and the records past them
filled_whole : (rs : List Block) (t : List ℕ) (n : ℕ) → n ≤ length rs → filled rs t n ≡ map record_of_row (rows_of block_width t n) ++ drop n rs
filled_whole rs t n m =
    sym (take-append-drop n (filled rs t n)) ∙ ap₂ (λ (l k : List Block). l ++ k) (filled_rows rs t n m) (filled_past rs t n n (le_refl n))

-- a terminator set in the table of words, and in the records that are filled from it: both leave the same records
pub in_step : (rs : List Block) (t : List ℕ) (b : ℕ) (x : Terminator) (n : ℕ) → Halved x → block_width * n ≤ length t → n ≤ length rs → b < n
    → filled rs (stored t (block_width * b) (term_row x)) n ≡ put_at (filled rs t n) b x
in_step rs t b x n half long room h =
    let rows = rows_of block_width t n in
    let count : length (map record_of_row rows) ≡ n = length-map rows record_of_row ∙ length_rows 12 t n in
    filled_whole rs (stored t (block_width * b) (term_row x)) n room
    ∙ ap (λ (l : List (List ℕ)). map record_of_row l ++ drop n rs) (rows_set 12 t b (term_row x) n (term_length x) h long)
    ∙ ap (λ (l : List Block). l ++ drop n rs) (map_set record_of_row rows b (term_row x) ∙ ap (set (map record_of_row rows) b) (row_record x half))
    ∙ sym (set-append_left (map record_of_row rows) (drop n rs) b (record_of x) (omega (arith, count)))
    ∙ ap (λ (l : List Block). set l b (record_of x)) (sym (filled_whole rs t n room))
    ∙ sym (set_there (filled rs t n) b x (omega (arith, same_length rs t n)))
