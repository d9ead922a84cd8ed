-- Where the words of a row stand. Assumes nothing.
use Prim.Native.Nat.{ℕ, ◌+◌, ◌*◌}
use mathlib.Core.Path.{◌≡◌, ap}
use mathlib.Core.List.{List}
use native.Mathlib.Omega.{arith}
use lib.ListN.{get_or}
use Rattle.mir.specs.Statements.{statement_width}
use Rattle.body_row_rules.specs.Bodies.{word_of}

-- a row begins with its first word
pub first_word : (w : ℕ) (table : List ℕ) (i : ℕ) → word_of w table i 0 ≡ get_or table (w * i) 0
first_word w table i = let same : w * i + 0 ≡ w * i = omega arith in ap (λ k. get_or table k 0) same

-- an element's two words, in the order of the code's additions
pub elem_word : (table : List ℕ) (i j : ℕ) →
    get_or table (statement_width * i + 17 + 2 * j) 0 + 65536 * get_or table (statement_width * i + 17 + 2 * j + 1) 0 ≡ word_of statement_width table i (17 + 2 * j) + 65536 * word_of statement_width table i (18 + 2 * j)
elem_word table i j =
    let low : statement_width * i + 17 + 2 * j ≡ statement_width * i + (17 + 2 * j) = omega arith in
    let high : statement_width * i + (17 + 2 * j) + 1 ≡ statement_width * i + (18 + 2 * j) = omega arith in
    rw (low, high)
