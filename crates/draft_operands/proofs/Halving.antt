-- The bytes of a number in two halves, and of two's complement. Assumes nothing.
use Prim.Native.Nat.{ℕ, zero, suc, ◌+◌, ◌*◌, ◌-◌, ◌/◌, ◌%◌, ◌^◌, ◌<◌, ◌≤◌}
use mathlib.Core.Path.{◌≡◌, refl, sym, ap, ap₂, ◌∙◌}
use mathlib.Core.List.{List, ◌∷◌, ◌++◌}
use native.Mathlib.Nat.{mul_assoc, add-mul}
use native.Mathlib.Omega.{arith}
use Rattle.pattern_images.specs.Drafts.{little_endian_bytes}

-- what the byte behind so many is worth
abbrev worth : ℕ → ℕ
worth zero = 1
worth (suc a) = 256 * worth a

split : (a b n high low : ℕ) → n ≡ a + b → low < worth a → little_endian_bytes n (worth a * high + low) ≡ little_endian_bytes a low ++ little_endian_bytes b high
unfolding little_endian_bytes
split zero b n high low e h =
    let same : n ≡ b = omega arith in
    let value : 1 * high + low ≡ high = omega arith in
    ap₂ little_endian_bytes same value
split (suc a) b n high low e h =
    let rest = worth a * high in
    let more : n ≡ suc (a + b) = omega arith in
    let value : 256 * worth a * high + low ≡ 256 * rest + low = ap (λ (k : ℕ). k + low) (mul_assoc 256 (worth a) high) in
    let byte : (256 * rest + low) % 256 ≡ low % 256 = omega arith in
    let behind : (256 * rest + low) / 256 ≡ rest + low / 256 = omega arith in
    ap₂ little_endian_bytes more value
    ∙ ap₂ (λ (b : ℕ) (l : List ℕ). b ∷ l) byte
    (ap (little_endian_bytes (a + b)) behind ∙ split a b (a + b) high (low / 256) refl (omega arith))

-- sixteen bytes are eight of each half
pub in_halves_lem : (low high : ℕ) → low < 2 ^ 64 → little_endian_bytes 16 (high * 2 ^ 64 + low) ≡ little_endian_bytes 8 low ++ little_endian_bytes 8 high
in_halves_lem low high h =
    let value : high * 2 ^ 64 + low ≡ 2 ^ 64 * high + low = omega arith in
    ap (little_endian_bytes 16) value ∙ split 8 8 16 high low refl h

-- a square less so many rows and a part of one
square_less : (w high left low : ℕ) → w ≡ high + left + 1 → 0 < low → low ≤ w → w * w - (high * w + low) ≡ left * w + (w - low)
square_less w high left low e some fits =
    let all : w * w ≡ high * w + left * w + 1 * w = ap (λ (k : ℕ). k * w) e ∙ add-mul (high + left) 1 w ∙ ap (λ (k : ℕ). k + 1 * w) (add-mul high left w) in
    omega (arith, all)

square_rows : (w high left : ℕ) → w ≡ high + left → w * w - (high * w + 0) ≡ left * w + 0
square_rows w high left e =
    let all : w * w ≡ high * w + left * w = ap (λ (k : ℕ). k * w) e ∙ add-mul high left w in
    omega (arith, all)

-- `minus_halves`
module _ (low high : ℕ) (l : low < 2 ^ 64) (h : high < 2 ^ 64) where
  pub minus_low : (low ≡ 0 → ⊥) → little_endian_bytes 8 (0xFFFFFFFFFFFFFFFF - low + 1) ++ little_endian_bytes 8 (0xFFFFFFFFFFFFFFFF - high) ≡ little_endian_bytes 16 (2 ^ 128 - (high * 2 ^ 64 + low))
  minus_low e =
      let part : 2 ^ 64 - low ≡ 0xFFFFFFFFFFFFFFFF - low + 1 = omega arith in
      let value : 2 ^ 128 - (high * 2 ^ 64 + low) ≡ (0xFFFFFFFFFFFFFFFF - high) * 2 ^ 64 + (0xFFFFFFFFFFFFFFFF - low + 1) =
      square_less (2 ^ 64) high (0xFFFFFFFFFFFFFFFF - high) low (omega arith) (omega arith) (omega arith) ∙ ap (λ (k : ℕ). (0xFFFFFFFFFFFFFFFF - high) * 2 ^ 64 + k) part in
      sym (ap (little_endian_bytes 16) value ∙ in_halves_lem (0xFFFFFFFFFFFFFFFF - low + 1) (0xFFFFFFFFFFFFFFFF - high) (omega arith))

  pub minus_high : low ≡ 0 → (high ≡ 0 → ⊥) → little_endian_bytes 8 0 ++ little_endian_bytes 8 (0xFFFFFFFFFFFFFFFF - high + 1) ≡ little_endian_bytes 16 (2 ^ 128 - (high * 2 ^ 64 + low))
  minus_high z e =
      let value : 2 ^ 128 - (high * 2 ^ 64 + low) ≡ (0xFFFFFFFFFFFFFFFF - high + 1) * 2 ^ 64 + 0 =
      ap (λ (k : ℕ). 2 ^ 128 - (high * 2 ^ 64 + k)) z ∙ square_rows (2 ^ 64) high (0xFFFFFFFFFFFFFFFF - high + 1) (omega arith) in
      sym (ap (little_endian_bytes 16) value ∙ in_halves_lem 0 (0xFFFFFFFFFFFFFFFF - high + 1) (omega arith))

  pub minus_none : low ≡ 0 → high ≡ 0 → little_endian_bytes 8 0 ++ little_endian_bytes 8 0 ≡ little_endian_bytes 16 (2 ^ 128 - (high * 2 ^ 64 + low))
  unfolding little_endian_bytes
  minus_none z y = sym (ap₂ (λ (a b : ℕ). little_endian_bytes 16 (2 ^ 128 - (a * 2 ^ 64 + b))) y z)
