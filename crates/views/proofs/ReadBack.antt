-- The rows that were built are read back as what they were built of. Assumes nothing.
use Prim.Native.Nat.{ℕ, zero, suc, ◌+◌, ◌*◌, ◌/◌, ◌%◌, ◌≤◌, ◌<◌}
use mathlib.Core.Path.{◌≡◌, refl, sym, ap, ap₂, ◌∙◌}
use mathlib.Core.List.{List, [], ◌∷◌, map}
use native.Mathlib.Omega.{arith}
use lib.ListN.{length, take, drop}
use lib.Seq.{get_or-drop}
use Rattle.place.specs.declared.LocalId.{LocalId}
use Rattle.place.specs.declared.Place.{Place}
use Rattle.place.specs.declared.elems.ProjectionElem.{ProjectionElem}
use Rattle.place.specs.Elems.{elem_of}
use Rattle.place.specs.Places.{projection_of}
use Rattle.mir.specs.declared.BasicBlockId.{BasicBlockId}
use Rattle.mir.specs.declared.blocks.Terminator.{Terminator}
use Rattle.mir.specs.declared.rvalues.Constant.{Constant}
use Rattle.mir.specs.declared.rvalues.BinOp.{BinOp}
use Rattle.mir.specs.declared.rvalues.PlaceRvalue.{PlaceRvalue}
use Rattle.mir.specs.declared.rvalues.Left.{Left}
use Rattle.mir.specs.Blocks.{term_row}
use Rattle.mir.specs.Statements.{halves, place_words}
use Rattle.mir.specs.Rvalues.{constant_words, left_words, place_rvalue_kind, binary_kind, live_row, dead_row, place_rvalue_row, constant_row, binary_row}
use Rattle.views.specs.Views.{Path, of_place, of_constant, binary, live, dead, set, Line, word, elems_at, path_of, constant_at, left_of, line_of, terminator_of}

-- the four words of a number below 2^64
pub four_words_lem : (n : ℕ) → n < 18446744073709551616 →
    n % 65536 + 65536 * (n / 65536 % 65536) + 4294967296 * (n / 4294967296 % 65536) + 281474976710656 * (n / 281474976710656 % 65536) ≡ n
four_words_lem n h =
    let a : n / 4294967296 ≡ n / 65536 / 65536 = omega arith in
    let b : n / 281474976710656 ≡ n / 4294967296 / 65536 = omega arith in
    let c : n / 281474976710656 % 65536 ≡ n / 281474976710656 = omega arith in
    omega arith

-- a terminator whose value has 16 bytes
abbrev pub Halved : Terminator → Type 0
Halved Terminator.Open = Unit
Halved (Terminator.Goto b) = Unit
Halved (Terminator.Switch l low high then else) = (low < 18446744073709551616) × (high < 18446744073709551616)
Halved Terminator.Unreachable = Unit
Halved (Terminator.Drop l b) = Unit

-- a terminator is read back
pub terminator_back : (t : Terminator) → Halved t → terminator_of (term_row t) ≡ t
unfolding terminator_of term_row
terminator_back Terminator.Open h = refl
terminator_back (Terminator.Goto b) h = refl
terminator_back (Terminator.Switch l low high then else) h =
    ap₂ (λ (x y : ℕ). Terminator.Switch l x y then else) (four_words_lem low h.0) (four_words_lem high h.1)
terminator_back Terminator.Unreachable h = refl
terminator_back (Terminator.Drop l b) h = refl

-- a live mark is read back
pub live_back : (block : BasicBlockId) (l : LocalId) → line_of (live_row block l) ≡ record { block = block.0; statement = live l.0 }
unfolding line_of live_row
live_back block l = refl

-- a dead mark is read back
pub dead_back : (block : BasicBlockId) (l : LocalId) → line_of (dead_row block l) ≡ record { block = block.0; statement = dead l.0 }
unfolding line_of dead_row
dead_back block l = refl

-- elements further on in a row
elems_further : (n k m : ℕ) (row : List ℕ) → elems_at row (k + m) n ≡ elems_at (drop k row) m n
unfolding elems_at
elems_further zero k m row = refl
elems_further (suc n) k m row =
    let one : k + m + 1 ≡ k + (m + 1) = omega arith in
    let two : k + m + 2 ≡ k + (m + 2) = omega arith in
    ap₂ (λ (x y : ℕ). elem_of (x + 65536 * y) ∷ elems_at row (k + m + 2) n) (sym (get_or-drop k row m 0)) (ap (word row) one ∙ sym (get_or-drop k row (m + 1) 0))
    ∙ ap (λ (l : List ProjectionElem). elem_of (word (drop k row) m + 65536 * word (drop k row) (m + 1)) ∷ l)
    (ap (λ (j : ℕ). elems_at row j n) two ∙ elems_further n k (m + 2) row)

-- elements that are stored as halves
elems_of_halves : (n : ℕ) (xs : List ℕ) → n ≤ length xs → elems_at (halves xs) 0 n ≡ map elem_of (take n xs)
unfolding elems_at halves
elems_of_halves zero xs h = refl
elems_of_halves (suc n) [] h = absurd (omega arith)
elems_of_halves (suc n) (x ∷ xs) h =
    let whole : x % 65536 + 65536 * (x / 65536) ≡ x = omega arith in
    ap₂ (λ (w : ℕ) (l : List ProjectionElem). elem_of w ∷ l) whole
    (elems_further n 2 0 (x % 65536 ∷ x / 65536 ∷ halves xs) ∙ elems_of_halves n xs (omega arith))

-- the path of a place
abbrev pub path_to : Place → Path
path_to place = record { local = place.local.0; elems = projection_of place }

-- a place that is stored from the word 15 of a row on is read back
path_back : (row : List ℕ) (place : Place) → word row 15 ≡ place.local.0 → word row 16 ≡ place.len → drop 17 row ≡ halves place.elems →
    place.len ≤ 16 → length place.elems ≡ 16 → path_of row ≡ path_to place
unfolding path_of projection_of
path_back row place l n e h k =
    ap₂ (λ (x : ℕ) (es : List ProjectionElem). record { local = x; elems = es }) l
    (ap (elems_at row 17) n
    ∙ elems_further place.len 17 0 row
    ∙ ap (λ (t : List ℕ). elems_at t 0 place.len) e
    ∙ elems_of_halves place.len place.elems (omega arith))

-- what is made of a place is read back
pub place_rvalue_back : (block : BasicBlockId) (target : LocalId) (rvalue : PlaceRvalue) (place : Place) → place.len ≤ 16 → length place.elems ≡ 16 →
    line_of (place_rvalue_row block target rvalue place) ≡ record { block = block.0; statement = set target.0 (of_place rvalue (path_to place)) }
unfolding line_of place_rvalue_row place_rvalue_kind place_words
place_rvalue_back block target rvalue place h k = by rvalue
  where
    line : PlaceRvalue → Path → Line
    line rvalue path = record { block = block.0; statement = set target.0 (of_place rvalue path) }

    by : (rvalue : PlaceRvalue) → line_of (place_rvalue_row block target rvalue place) ≡ record { block = block.0; statement = set target.0 (of_place rvalue (path_to place)) }
    by PlaceRvalue.Copy = ap (λ (path : Path). line PlaceRvalue.Copy path) (path_back (place_rvalue_row block target PlaceRvalue.Copy place) place refl refl refl h k)
    by PlaceRvalue.Ref = ap (λ (path : Path). line PlaceRvalue.Ref path) (path_back (place_rvalue_row block target PlaceRvalue.Ref place) place refl refl refl h k)
    by PlaceRvalue.Mut = ap (λ (path : Path). line PlaceRvalue.Mut path) (path_back (place_rvalue_row block target PlaceRvalue.Mut place) place refl refl refl h k)
    by PlaceRvalue.Len = ap (λ (path : Path). line PlaceRvalue.Len path) (path_back (place_rvalue_row block target PlaceRvalue.Len place) place refl refl refl h k)
    by PlaceRvalue.Discr = ap (λ (path : Path). line PlaceRvalue.Discr path) (path_back (place_rvalue_row block target PlaceRvalue.Discr place) place refl refl refl h k)

-- a constant of 16 bytes
abbrev pub Small : Constant → Type 0
Small c = (c.low < 18446744073709551616) × (c.high < 18446744073709551616)

-- a constant is read back
pub constant_back : (block : BasicBlockId) (target : LocalId) (c : Constant) → Small c →
    line_of (constant_row block target c) ≡ record { block = block.0; statement = set target.0 (of_constant c) }
unfolding line_of constant_row constant_words constant_at
constant_back block target c h =
    ap₂ (λ (x y : ℕ). record { block = block.0; statement = set target.0 (of_constant (record { count = c.count; ty = c.ty; offset = c.offset; low = x; high = y })) })
    (four_words_lem c.low h.0) (four_words_lem c.high h.1)

-- a left operand whose constant has 16 bytes
abbrev pub SmallLeft : Left → Type 0
SmallLeft (Left.Local l) = Unit
SmallLeft (Left.Constant c) = Small c

-- the left operand of a row is read back
left_back : (block : BasicBlockId) (target : LocalId) (op : BinOp) (left : Left) (place : Place) → SmallLeft left → left_of (binary_row block target op left place) ≡ left
unfolding left_of binary_row left_words constant_words constant_at
left_back block target op (Left.Local l) place h = refl
left_back block target op (Left.Constant c) place h =
    ap₂ (λ (x y : ℕ). Left.Constant (record { count = c.count; ty = c.ty; offset = c.offset; low = x; high = y })) (four_words_lem c.low h.0) (four_words_lem c.high h.1)

-- the place of the row of an operator is read back
right_back : (block : BasicBlockId) (target : LocalId) (op : BinOp) (left : Left) (place : Place) → place.len ≤ 16 → length place.elems ≡ 16 →
    path_of (binary_row block target op left place) ≡ path_to place
unfolding binary_row left_words constant_words place_words
right_back block target op (Left.Local l) place h k = path_back (binary_row block target op (Left.Local l) place) place refl refl refl h k
right_back block target op (Left.Constant c) place h k = path_back (binary_row block target op (Left.Constant c) place) place refl refl refl h k

-- what an operator makes is read back
pub binary_back : (block : BasicBlockId) (target : LocalId) (op : BinOp) (left : Left) (place : Place) → SmallLeft left → place.len ≤ 16 → length place.elems ≡ 16 →
    line_of (binary_row block target op left place) ≡ record { block = block.0; statement = set target.0 (binary op left (path_to place)) }
unfolding line_of binary_row binary_kind
binary_back block target op left place s h k = by op ∙ ap₂ (line op) (left_back block target op left place s) (right_back block target op left place h k)
  where
    line : BinOp → Left → Path → Line
    line op left path = record { block = block.0; statement = set target.0 (binary op left path) }

    by : (op : BinOp) → line_of (binary_row block target op left place) ≡ line op (left_of (binary_row block target op left place)) (path_of (binary_row block target op left place))
    by BinOp.Eq = refl
    by BinOp.Le = refl
    by BinOp.Ge = refl
    by BinOp.Gt = refl
