-- Bytes between two positions: cut in two, known from the bytes below, and known to stand nowhere else. Assumes nothing.
use Prim.Native.Nat.{ℕ, zero, suc, ◌+◌, ◌-◌, ◌<◌, ◌≤◌}
use mathlib.Core.Path.{◌≡◌, refl, sym, ap, ap₂, ◌∙◌}
use mathlib.Core.List.{List, [], ◌∷◌, ◌++◌}
use native.Mathlib.Omega.{arith}
use lib.ListN.{length, get_or, take, drop, length-drop}
use lib.Seq.{length-take-le, take-nil, take-take, take-add, drop-drop, get_or-take, get_or-drop}
use Rattle.pattern_syntax.specs.Reduced.{bytes_from}

-- the bytes up to the second position, without those up to the first
cut : (a b : ℕ) (x : List ℕ) → take (b - a) (drop a x) ≡ drop a (take b x)
cut zero b x = let z : b - 0 ≡ b = omega arith in ap (λ k. take k x) z
cut (suc a) zero [] = take-nil (0 - suc a)
cut (suc a) zero (y ∷ x) = let z : 0 - suc a ≡ 0 = omega arith in ap (λ k. take k (drop a x)) z
cut (suc a) (suc b) [] = take-nil (suc b - suc a)
cut (suc a) (suc b) (y ∷ x) = let z : suc b - suc a ≡ b - a = omega arith in ap (λ k. take k (drop a x)) z ∙ cut a b x

pub take_fewer : (m n : ℕ) (x y : List ℕ) → m ≤ n → take n x ≡ take n y → take m x ≡ take m y
take_fewer m n x y h e = sym (take-take m n x h) ∙ (ap (take m) e ∙ take-take m n y h)

-- two tables that are the same up to a position have the same bytes below it
pub bytes_below : (n : ℕ) (x y : List ℕ) (a b : ℕ) → b ≤ n → take n x ≡ take n y → bytes_from x a b ≡ bytes_from y a b
unfolding bytes_from
bytes_below n x y a b h e = cut a b x ∙ (ap (drop a) (take_fewer b n x y h e) ∙ sym (cut a b y))

-- cut in two
pub bytes_split : (x : List ℕ) (a b c : ℕ) → a ≤ b → b ≤ c → bytes_from x a c ≡ bytes_from x a b ++ bytes_from x b c
unfolding bytes_from
bytes_split x a b c h g =
    let p : c - a ≡ (b - a) + (c - b) = omega arith in
    let q : a + (b - a) ≡ b = omega arith in
    ap (λ k. take k (drop a x)) p
    ∙ (take-add (b - a) (c - b) (drop a x)
    ∙ ap (λ (l : List ℕ). take (b - a) (drop a x) ++ take (c - b) l) (drop-drop (b - a) a x ∙ ap (λ k. drop k x) q))

-- and without the first k
pub bytes_later : (x : List ℕ) (a k b : ℕ) → bytes_from x (a + k) b ≡ drop k (bytes_from x a b)
unfolding bytes_from
bytes_later x a k b =
    let p : b - (a + k) ≡ (b - a) - k = omega arith in
    ap₂ take p (sym (drop-drop k a x)) ∙ cut k (b - a) (drop a x)

-- the numbers from one on
count_from : ℕ → ℕ → List ℕ
count_from at zero = []
count_from at (suc n) = at ∷ count_from (suc at) n

count_long : (at n : ℕ) → length (count_from at n) ≡ n
unfolding count_from
count_long at zero = refl
count_long at (suc n) = ap suc (count_long (suc at) n)

count_at : (at n i : ℕ) → i < n → get_or (count_from at n) i 0 ≡ at + i
unfolding count_from
count_at at zero i h = absurd (omega arith)
count_at at (suc n) zero h = omega arith
count_at at (suc n) (suc i) h = let e = count_at (suc at) n i (omega arith) in omega (arith, e)

-- bytes that are those between two positions, whatever the table is, are between the same
pub same_range : (a b c d : ℕ) → a < b → ((x : List ℕ) → bytes_from x c d ≡ bytes_from x a b) → (c ≡ a) × (d ≡ b)
unfolding bytes_from
same_range a b c d h same =
    let n : ℕ = a + b + (c + d) + 1 in
    let x : List ℕ = count_from 0 n in
    let e : take (d - c) (drop c x) ≡ take (b - a) (drop a x) = same x in
    let l = count_long 0 n in
    let p = length-take-le (d - c) (drop c x) (omega (arith, length-drop c x, l)) in
    let q = length-take-le (b - a) (drop a x) (omega (arith, length-drop a x, l)) in
    let s : d - c ≡ b - a = sym p ∙ (ap length e ∙ q) in
    let f = get_or-take (d - c) (drop c x) 0 0 (omega arith) ∙ get_or-drop c x 0 0 in
    let g = get_or-take (b - a) (drop a x) 0 0 (omega arith) ∙ get_or-drop a x 0 0 in
    let i = count_at 0 n (c + 0) (omega arith) in
    let j = count_at 0 n (a + 0) (omega arith) in
    let k : c ≡ a = omega (arith, sym f ∙ (ap (λ (y : List ℕ). get_or y 0 0) e ∙ g), i, j) in
    (k, omega arith)
