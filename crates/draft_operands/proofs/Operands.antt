-- The ways through the code that makes a literal's bytes: each is the operand that the definitions say. Assumes nothing.
use Rattle.decimal_values.specs.Results.{Value}
use Rattle.std.specs.Prelude.{Some, None}
use Prim.Native.Nat.{ℕ, zero, suc, ◌+◌, ◌*◌, ◌-◌, ◌/◌, ◌%◌, ◌^◌, ◌<◌}
use mathlib.Core.Path.{◌≡◌, refl, sym, ap, ap₂, subst, ◌∙◌}
use mathlib.Core.Bool.{true}
use mathlib.Core.List.{List, ◌++◌}
use mathlib.Core.Logic.{⊎_elim}
use native.Mathlib.Omega.{arith}
use native.Mathlib.Nat.{mod-lt, eq-or-lt_of_le}
use borrow.Author.Tests.{ltb-true, lt-ltb, ne_eqb}
use lib.Dec.{ltb}
use lib.Pow as pow
use Rattle.decimal_values.specs.Values.{decimal_from, in_halves, integer_value}
use Rattle.pattern_syntax.specs.Written.{LiteralValue, whole_value, minus_value}
use Rattle.pattern_syntax.specs.Reduced.{bytes_from}
use Rattle.node_rows.specs.Nodes.{literal_in}
use Rattle.pattern_images.specs.Drafts.{little_endian_bytes, operand_kind_of, literal_bytes}
use Rattle.draft_operands.specs.Literals.{literal_fits, bytes_in, operand_with, IsOperandOf}
use Rattle.draft_operands.proofs.Halving.{in_halves_lem}

module _ (text : List ℕ) (from to : ℕ) where
  pub as_bool : (sort : ℕ) → sort < 2 → IsOperandOf (literal_in text sort from to) (operand_with 4 sort 0 1)
  unfolding literal_in bytes_in little_endian_bytes operand_kind_of literal_bytes
  as_bool zero h = record { kind = refl; bytes = refl; count = refl; few = omega arith; long = refl }
  as_bool (suc zero) h = record { kind = refl; bytes = refl; count = refl; few = omega arith; long = refl }
  as_bool (suc (suc sort)) h = absurd (omega arith)

  pub as_char : (sort : ℕ) → sort ≡ 2 → IsOperandOf (literal_in text sort from to) (operand_with 3 (to * 65536 + from) 0 4)
  unfolding literal_in bytes_in little_endian_bytes operand_kind_of literal_bytes
  as_char sort e = subst (λ (s : ℕ). IsOperandOf (literal_in text s from to) (operand_with 3 (to * 65536 + from) 0 4)) (sym e) (record { kind = refl; bytes = refl; count = refl; few = omega arith; long = refl })

  abbrev value : ℕ
  value = decimal_from 0 (bytes_from text from to)

  -- an integer, whole or behind a minus
  whole_is : (sort : ℕ) → sort ≡ 3 → literal_in text sort from to ≡ whole_value value
  unfolding literal_in
  whole_is sort e = ap (λ (s : ℕ). literal_in text s from to) e

  minus_is : (sort : ℕ) → 3 < sort → literal_in text sort from to ≡ minus_value value
  unfolding literal_in
  minus_is sort h =
      rw (ne_eqb sort 0 (λ (e : sort ≡ 0). omega (arith, h)), ne_eqb sort 1 (λ (e : sort ≡ 1). omega (arith, h)), ne_eqb sort 2 (λ (e : sort ≡ 2). omega (arith, h)), ne_eqb sort 3 (λ (e : sort ≡ 3). omega (arith, h))) refl

-- a value below the bound is its halves
value_halves : (v low high : ℕ) → ltb v (2 ^ 128) ≡ true → Some (low, high) ≡ in_halves v → (v ≡ high * 2 ^ 64 + low) × ((low < 2 ^ 64) × (high < 2 ^ 64))
unfolding in_halves
value_halves v low high fits e =
    let small : v / 2 ^ 64 < 2 ^ 64 = pow.shr_lt 64 64 (ltb-true v (2 ^ 128) fits) in
    let same : ◌≡◌ {A = Value} (Some (low, high)) (Some (v % 2 ^ 64, v / 2 ^ 64)) = rw (lt-ltb (v / 2 ^ 64) (2 ^ 64) small) at e in
    let halves : ◌≡◌ {A = ℕ × ℕ} (low, high) (v % 2 ^ 64, v / 2 ^ 64) = cc in
    let l : low ≡ v % 2 ^ 64 = ap (λ (pair : ℕ × ℕ). pair.0) halves in
    let h : high ≡ v / 2 ^ 64 = ap (λ (pair : ℕ × ℕ). pair.1) halves in
    (sym (pow.split v 64) ∙ ap₂ (λ (a b : ℕ). a * 2 ^ 64 + b) (sym h) (sym l), (subst (λ (k : ℕ). k < 2 ^ 64) (sym l) (mod-lt v {m = 2 ^ 64} (omega arith)), subst (λ (k : ℕ). k < 2 ^ 64) (sym h) small))

-- and never over
value_not_over : (v : ℕ) → ltb v (2 ^ 128) ≡ true → None ≡ in_halves v → ⊥
unfolding in_halves
value_not_over v fits e =
    let small : v / 2 ^ 64 < 2 ^ 64 = pow.shr_lt 64 64 (ltb-true v (2 ^ 128) fits) in
    let same : ◌≡◌ {A = Value} None (Some (v % 2 ^ 64, v / 2 ^ 64)) = rw (lt-ltb (v / 2 ^ 64) (2 ^ 64) small) at e in
    let z : ◌≡◌ {A = ℕ} 0 1 = cc in
    omega arith

-- all sixteen bytes
all_bytes : (kind low high : ℕ) → bytes_in (operand_with kind low high 16) ≡ little_endian_bytes 8 low ++ little_endian_bytes 8 high
unfolding bytes_in little_endian_bytes
all_bytes kind low high = refl

as_whole : (v low high : ℕ) → ltb v (2 ^ 128) ≡ true → Some (low, high) ≡ in_halves v → IsOperandOf (whole_value v) (operand_with 2 low high 16)
unfolding operand_kind_of literal_bytes
as_whole v low high fits e =
    let known = value_halves v low high fits e in
    record {
      kind = refl;
      bytes = all_bytes 2 low high ∙ sym (ap (little_endian_bytes 16) known.0 ∙ in_halves_lem low high known.1.0);
      count = unfold little_endian_bytes in refl;
      few = omega arith;
      long = unfold little_endian_bytes in refl;
    }

as_minus : (v low high lower upper : ℕ) → ltb v (2 ^ 128) ≡ true → Some (low, high) ≡ in_halves v → little_endian_bytes 8 lower ++ little_endian_bytes 8 upper ≡ little_endian_bytes 16 (2 ^ 128 - (high * 2 ^ 64 + low)) → IsOperandOf (minus_value v) (operand_with 1 lower upper 16)
unfolding operand_kind_of literal_bytes
as_minus v low high lower upper fits e minus =
    let known = value_halves v low high fits e in
    record {
      kind = refl;
      bytes = all_bytes 1 lower upper ∙ minus ∙ ap (λ (k : ℕ). little_endian_bytes 16 (2 ^ 128 - k)) (sym known.0);
      count = unfold little_endian_bytes in refl;
      few = omega arith;
      long = unfold little_endian_bytes in refl;
    }

-- `literal_bytes`
module _ (text : List ℕ) (from to sort : ℕ) (fits : literal_fits (literal_in text sort from to) ≡ true) where
  pub whole_way : (low high : ℕ) → sort ≡ 3 → Some (low, high) ≡ integer_value text from to → IsOperandOf (literal_in text sort from to) (operand_with 2 low high 16)
  unfolding literal_fits integer_value bytes_from
  whole_way low high e found =
      let is = whole_is text from to sort e in
      subst (λ (v : LiteralValue). IsOperandOf v (operand_with 2 low high 16)) (sym is) (as_whole (value text from to) low high (sym (ap literal_fits is) ∙ fits) found)

  pub minus_way : (low high lower upper : ℕ) → 3 < sort → Some (low, high) ≡ integer_value text from to → little_endian_bytes 8 lower ++ little_endian_bytes 8 upper ≡ little_endian_bytes 16 (2 ^ 128 - (high * 2 ^ 64 + low)) → IsOperandOf (literal_in text sort from to) (operand_with 1 lower upper 16)
  unfolding literal_fits integer_value bytes_from
  minus_way low high lower upper h found minus =
      let is = minus_is text from to sort h in
      subst (λ (v : LiteralValue). IsOperandOf v (operand_with 1 lower upper 16)) (sym is) (as_minus (value text from to) low high lower upper (sym (ap literal_fits is) ∙ fits) found minus)

  pub never_over : 2 < sort → None ≡ integer_value text from to → ⊥
  unfolding literal_fits integer_value bytes_from
  never_over h found =
      ⊎_elim
      (λ (e : 3 ≡ sort). value_not_over (value text from to) (sym (ap literal_fits (whole_is text from to sort (sym e))) ∙ fits) found)
      (λ (more : 3 < sort). value_not_over (value text from to) (sym (ap literal_fits (minus_is text from to sort more)) ∙ fits) found)
      (eq-or-lt_of_le (omega arith))
