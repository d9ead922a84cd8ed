-- The parts of an input lie in it. Assumes nothing.
use Prim.Native.Nat.{ℕ, ◌+◌, ◌-◌, ◌*◌, ◌<◌, ◌≤◌}
use mathlib.Core.Path.{◌≡◌, refl}
use mathlib.Core.Bool.{Bool, true, false, cond}
use mathlib.Core.List.{List}
use native.Mathlib.Omega.{arith}
use lib.Dec.{ltb}
use lib.ListN.{length}
use borrow.Author.Tests.{ltb-false}
use Rattle.image.specs.Bytes.{word_at}
use Rattle.reading_input.specs.declared.InputParts.{InputParts}
use Rattle.reading_input.specs.Parts.{past_or_end, part_end, word_or0, parts_of, InputParted}

pub past_within : (end from many : ℕ) → from ≤ end → (from ≤ past_or_end end from many) × (past_or_end end from many ≤ end)
unfolding past_or_end
past_within end from many h = by (ltb (end - from) many) refl
  where
    by : (b : Bool) → ltb (end - from) many ≡ b → (from ≤ cond b end (from + many)) × (cond b end (from + many) ≤ end)
    by true e = (h, omega arith)
    by false e = (omega arith, let g = ltb-false (end - from) many e in omega (arith, g, h))

pub part_within : (input : List ℕ) (from : ℕ) → from ≤ length input → (from ≤ part_end input from) × (part_end input from ≤ length input)
unfolding part_end
part_within input from h = by (ltb (length input - from) 4) refl
  where
    end : ℕ
    end = past_or_end (length input) (from + 4) (word_at input from * 65536 + word_at input (from + 2))

    by : (b : Bool) → ltb (length input - from) 4 ≡ b → (from ≤ cond b (length input) end) × (cond b (length input) end ≤ length input)
    by true e = (h, omega arith)
    by false e =
        let g = ltb-false (length input - from) 4 e in
        let w = past_within (length input) (from + 4) (word_at input from * 65536 + word_at input (from + 2)) (omega (arith, g, h)) in
        (omega (arith, w.0), w.1)

-- the same of numbers that are these
pub end_in : (input : List ℕ) (from : ℕ) {end : ℕ} → end ≡ part_end input from → from ≤ length input → (from ≤ end) × (end ≤ length input)
end_in input from e h = rw e (part_within input from h)

pub past_in : (end from many : ℕ) {place : ℕ} → place ≡ past_or_end end from many → from ≤ end → (from ≤ place) × (place ≤ end)
past_in end from many e h = rw e (past_within end from many h)

-- all parts
module _ (input : List ℕ) {sheet names expected from end text : ℕ} (s : sheet ≡ part_end input 0) (n : names ≡ part_end input sheet) (w : expected ≡ word_or0 input names) (f : from ≡ past_or_end (length input) names 2) (e : end ≡ part_end input from) (t : text ≡ past_or_end end from 4) where
  pub parted : InputParted input (record { sheet = sheet; names = names; expected = expected; text = text; end = end })
  parted =
      let a = end_in input 0 s (omega arith) in
      let b = end_in input sheet n a.1 in
      let c = past_in (length input) names 2 f b.1 in
      let d = end_in input from e c.1 in
      record { same = rw t (rw e (rw f (rw w (rw n (rw s refl))))); sheet = b.0; names = b.1; text = (past_in end from 4 t d.0).1; end = d.1 }
