-- The bytes of a constant as two halves. Assumes nothing.
use Prim.Native.Nat.{ℕ, ◌+◌, ◌-◌, ◌≤◌, ◌<◌}
use mathlib.Core.Path.{◌≡◌, ap, ◌∙◌}
use mathlib.Core.List.{List}
use native.Mathlib.Omega.{arith}
use lib.ListN.{length, take, drop, drop_of_length-le}
use lib.Seq.{length-take-le, take_all, take-take, take-add, drop_at}
use Rattle.image.specs.Bytes.{little_endian}
use Rattle.mir.specs.declared.rvalues.Constant.{Constant}
use Rattle.literals.specs.Literals.{constant_of}

-- the first n + m numbers without the first n
drop_take : (n m : ℕ) (l : List ℕ) → n ≤ length l → drop n (take (n + m) l) ≡ take m (drop n l)
drop_take n m l h = ap (drop n) (take-add n m l) ∙ drop_at (take n l) (take m (drop n l)) n (length-take-le n l h)

module _ (ty count : ℕ) (bytes : List ℕ) (fits : count ≤ length bytes) where
  -- `constant_of`: one half
  pub constant_short : {low : ℕ} → count ≤ 8 → low ≡ little_endian (take count bytes) →
      ◌≡◌ {A = Constant} (record { count = count; ty = ty; offset = 0; low = low; high = 0 }) (constant_of ty (take count bytes))
  unfolding constant_of little_endian
  constant_short few e =
      let long = length-take-le count bytes fits in
      rw (e, long, take_all 8 (take count bytes) (omega arith), drop_of_length-le (take count bytes) {i = 8} (omega arith))

  -- `constant_of`: two halves
  pub constant_long : {low high : ℕ} → 8 < count → low ≡ little_endian (take 8 bytes) → high ≡ little_endian (take (count - 8) (drop 8 bytes)) →
      ◌≡◌ {A = Constant} (record { count = count; ty = ty; offset = 0; low = low; high = high }) (constant_of ty (take count bytes))
  unfolding constant_of
  constant_long many d e =
      let all : 8 + (count - 8) ≡ count = omega arith in
      let behind : drop 8 (take count bytes) ≡ take (count - 8) (drop 8 bytes) = rw all at (drop_take 8 (count - 8) bytes (omega arith)) in
      rw (d, e, length-take-le count bytes fits, take-take 8 count bytes (omega arith), behind)
