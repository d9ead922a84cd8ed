-- The search for the row of a size. Assumes nothing.
use Prim.Native.Nat.{ℕ, ◌+◌, ◌/◌, ◌^◌, ◌≤◌, ◌<◌}
use mathlib.Core.Path.{◌≡◌, refl, sym, ap, ◌∙◌}
use mathlib.Core.Bool.{Bool, true, false, not, ◌&&◌, ◌||◌}
use mathlib.Core.List.{[], ◌∷◌}
use native.Mathlib.Nat.{add-mod_right}
use native.Mathlib.Omega.{arith}
use borrow.Author.Tests.{eqb-true, eqb-false, not-true, not-false, leb-true, lt-ltb, le-ltb}
use lib.Dec.{eqb, leb, ltb}
use Rattle.std.specs.Prelude.{◌==◌}
use Rattle.std.specs.List.{position}
use Rattle.std.specs.Option.{unwrap_or}
use Rattle.image.specs.Integers.{value_count}
use Rattle.image.specs.Lists.{all_below}
use Rattle.image.specs.Rules.{is_integer_size}
use Rattle.image.proofs.Bools.{and_left, and_right, below_at}
use Rattle.integer_rows.specs.IntegerRows.{row_size, row_signed}

-- the signed row of the size
pub record SignedRow (size : ℕ) : Type 0 where
  pub place : ℕ
  pub few : place ≤ 4
  pub is : row_size place ≡ size

-- one of two tests holds
either : {C : Type 0} (a b : Bool) → (a ≡ true → C) → (b ≡ true → C) → a || b ≡ true → C
either true b f g e = f refl
either false b f g e = g e

-- every integer size has a row
pub some_row : (size : ℕ) → is_integer_size size ≡ true → SignedRow size
unfolding is_integer_size row_size
some_row size =
    let here : (place : ℕ) → place ≤ 4 → eqb size (row_size place) ≡ true → SignedRow size = λ place h q. record { place = place; few = h; is = sym (eqb-true size (row_size place) q) } in
    either (eqb size 1 || eqb size 2 || eqb size 4 || eqb size 8) (eqb size 16)
    (either (eqb size 1 || eqb size 2 || eqb size 4) (eqb size 8)
    (either (eqb size 1 || eqb size 2) (eqb size 4) (either (eqb size 1) (eqb size 2) (here 0 (omega arith)) (here 1 (omega arith))) (here 2 (omega arith))) (here 3 (omega arith)))
    (here 4 (omega arith))

-- the number of the first of the four smaller sizes that is this one, and 4 where none is
abbrev searched : ℕ → ℕ
searched size = unwrap_or (position (λ x. x == size) (1 ∷ 2 ∷ 4 ∷ 8 ∷ [])) 4

-- the search finds the row of each size
searched_at : (place size : ℕ) → place ≤ 4 → row_size place ≡ size → searched size ≡ place
unfolding row_size all_below
searched_at place size h e = rw (sym e) (eqb-true (searched (row_size place)) place (below_at (λ k. eqb (searched (row_size k)) k) 5 place refl (omega arith)))

pub found : (size row : ℕ) → is_integer_size size ≡ true → row ≡ searched size → (row ≤ 4) × (row_size row ≡ size)
found size row known e =
    let a = some_row size known in
    let here : row ≡ a.place = e ∙ searched_at a.place size a.few a.is in
    (omega (arith, here, a.few), ap row_size here ∙ a.is)

-- the signed row of the size, and five behind it the unsigned one
module _ {size row : ℕ} (here : (row ≤ 4) × (row_size row ≡ size)) {signed : Bool} where
  pub signed_row : signed ≡ true → (row < 10) × (row_size row ≡ size) × (row_signed row ≡ signed)
  unfolding row_signed
  signed_row e = (omega (arith, here.0), here.1, lt-ltb row 5 (omega (arith, here.0)) ∙ sym e)

  pub unsigned_row : signed ≡ false → (row + 5 < 10) × (row_size (row + 5) ≡ size) × (row_signed (row + 5) ≡ signed)
  unfolding row_signed row_size
  unsigned_row e =
      (omega (arith, here.0), ap (λ (n : ℕ). 2 ^ n) (add-mod_right row 5) ∙ here.1, le-ltb (row + 5) 5 (omega arith) ∙ sym e)

-- half of the values of a size: no fewer than of a byte, and no more than of 16. A test, computed at each of the sizes
halved : ℕ → Bool
halved size = leb 128 (value_count size / 2) && leb (value_count size / 2) (value_count 16 / 2)

pub some_few : (size : ℕ) → is_integer_size size ≡ true → (128 ≤ value_count size / 2) × (value_count size / 2 ≤ value_count 16 / 2)
unfolding row_size all_below halved
some_few size e =
    let a = some_row size e in
    let h : halved size ≡ true = rw (sym a.is) (below_at (λ place. halved (row_size place)) 5 a.place refl (omega (arith, a.few))) in
    (leb-true 128 (value_count size / 2) (and_left (leb 128 (value_count size / 2)) (leb (value_count size / 2) (value_count 16 / 2)) h), leb-true (value_count size / 2) (value_count 16 / 2) (and_right (leb 128 (value_count size / 2)) (leb (value_count size / 2) (value_count 16 / 2)) h))
