-- The variant of an enum, by the ways through the code. Assumes nothing.
use Rattle.std.specs.Prelude.{Some, None, Ok, Err}
use mathlib.Core.Path.{◌≡◌, refl, ap, ◌∙◌}
use mathlib.Core.Bool.{true}
use mathlib.Core.List.{List, [], ◌∷◌}
use Prim.Native.Nat.{ℕ, zero, suc, ◌+◌, ◌*◌, ◌^◌, ◌%◌, ◌/◌, ◌≤◌, ◌<◌}
use native.Mathlib.Nat.{pow-zero, pow-suc}
use native.Mathlib.Omega.{arith}
use borrow.Author.Tests.{leb-true}
use lib.ListN.{length, length-drop, get_or, take, drop}
use lib.Seq.{length-take-le, take_all, get_or-drop}
use Rattle.refusals.specs.declared.MirLowerError.{MirLowerError}
use Rattle.image.specs.declared.Tables.{Tables}
use Rattle.image.specs.declared.PatId.{PatId}
use Rattle.image.specs.declared.rows.VariantRow.{VariantRow}
use Rattle.image.specs.Bytes.{little_endian}
use Rattle.image.specs.Tables.{Whole, variant_count, data_at, data_count}
use Rattle.image.specs.Rows.{variant_at, operand_bytes}
use Rattle.image.specs.Rules.{in_table, types_listed, variant_holds}
use Rattle.image.specs.Types.{variant_of}
use Rattle.image.specs.Valid.{valid}
use Rattle.image.proofs.Bools.{and_right}
use Rattle.image.proofs.Known.{variant_holds_lem}
use Rattle.place.specs.declared.LocalId.{LocalId}
use Rattle.place.specs.declared.Place.{Place}
use Rattle.mir.specs.declared.BasicBlockId.{BasicBlockId}
use Rattle.mir.specs.declared.Counts.{Counts}
use Rattle.mir.specs.declared.rvalues.PlaceRvalue.{PlaceRvalue}
use Rattle.mir.specs.Rvalues.{place_rvalue_row}
use Rattle.mir.specs.Statements.{new_statement, statements_after}
use Rattle.state.proofs.RowLengths.{place_rvalue_length}
use Rattle.lower_spec.specs.Results.{OptBlock}
use Rattle.lower_spec.specs.Temps.{discr_temp_place}
use Rattle.body_tables.specs.Layout.{with_statements}
use Rattle.body_temps.specs.Promises.{Makes}
use Rattle.pattern_matching.specs.Walking.{Ctx, Out, Walk}
use Rattle.pattern_matching.specs.Variants.{discriminant_test}
use Rattle.pattern_walk_spec.specs.Results.{Lowered}
use Rattle.pattern_walk_spec.specs.Answers.{Begins, Lowers}
use Rattle.pattern_walk_spec.proofs.Sequences.{lowers_by}
use Rattle.pattern_switching.specs.Switching.{then_switch}
use Rattle.pattern_tests.proofs.Assigning.{assign_no_local, assign_full, assign_then}
use Rattle.state.specs.State.{Body}
use Rattle.state.specs.Promises.{Ready}

-- a number is its first n bytes and, so much higher, the others
little_split : (n : ℕ) (bytes : List ℕ) → little_endian (take n bytes) + 256 ^ n * little_endian (drop n bytes) ≡ little_endian bytes
unfolding little_endian
little_split zero bytes = rw (pow-zero 256) (omega arith)
little_split (suc n) [] = omega arith
little_split (suc n) (b ∷ bytes) = let e = little_split n bytes in rw pow-suc (omega arith)

-- n bytes are a number below 256 ^ n
little_small : (n : ℕ) (bytes : List ℕ) → ((i : ℕ) → get_or bytes i 0 < 256) → little_endian (take n bytes) < 256 ^ n
unfolding little_endian
little_small zero bytes h = rw (pow-zero 256) (omega arith)
little_small (suc n) [] h = let p = little_small n [] h in rw pow-suc (omega arith)
little_small (suc n) (b ∷ bytes) h = let p = little_small n bytes (λ i. h (suc i)) in let q = h 0 in rw pow-suc (omega arith)

-- the lower eight bytes and the others
parts : (low high all : ℕ) → low + 18446744073709551616 * high ≡ all → low < 18446744073709551616 → (low ≡ all % 18446744073709551616) × (high ≡ all / 18446744073709551616)
parts low high all e h = (omega arith, omega arith)

-- bytes of an image are bytes
taken : (n : ℕ) (bytes : List ℕ) → ((i : ℕ) → get_or bytes i 0 < 256) → (i : ℕ) → get_or (take n bytes) i 0 < 256
taken zero bytes h i = omega arith
taken (suc n) [] h i = h i
taken (suc n) (b ∷ bytes) h zero = h 0
taken (suc n) (b ∷ bytes) h (suc i) = taken n bytes (λ j. h (suc j)) i

-- the 16 bytes of a variant's discriminant lie in the data
pub discriminant_lies : (image : List ℕ) (v : ℕ) {row : VariantRow} → valid image ≡ true → v < variant_count image → row ≡ variant_at image v → row.discriminant + 16 ≤ data_count image
unfolding variant_holds
discriminant_lies image v e h at =
    let at_row = variant_at image v in
    rw at (leb-true (at_row.discriminant + 16) (data_count image) (and_right (types_listed image at_row.fields at_row.count) (in_table at_row.discriminant 16 (data_count image)) (variant_holds_lem image v e h)))

module _ (image : List ℕ) (row : VariantRow) {bytes : List ℕ} (read : bytes ≡ operand_bytes image (record { kind = 0; offset = row.discriminant; count = 16 })) where
  -- there are 16 of them
  pub discriminant_long : {tables : Tables} → Whole image tables → row.discriminant + 16 ≤ data_count image → length bytes ≡ 16
  unfolding operand_bytes
  discriminant_long whole lies =
      let all = whole.within in
      rw read (length-take-le 16 (drop (data_at image + row.discriminant) image) (omega (arith, length-drop (data_at image + row.discriminant) image)))

  -- in two halves they are the discriminant
  pub discriminant_halves : (v : ℕ) {low high : ℕ} → row ≡ variant_at image v → length bytes ≡ 16 → ((i : ℕ) → get_or image i 0 < 256) → low ≡ little_endian (take 8 bytes) → high ≡ little_endian (take 8 (drop 8 bytes)) →
      (low ≡ (variant_of image v).discriminant % 18446744073709551616) × (high ≡ (variant_of image v).discriminant / 18446744073709551616)
  unfolding variant_of operand_bytes
  discriminant_halves v {low = low} {high = high} at long known d e =
      let all : bytes ≡ take 16 (drop (data_at image + (variant_at image v).discriminant) image) = rw at at read in
      let few : (i : ℕ) → get_or bytes i 0 < 256 = λ i. rw read (taken 16 (drop (data_at image + row.discriminant) image) (λ j. rw (get_or-drop (data_at image + row.discriminant) image j 0) (known (data_at image + row.discriminant + j))) i) in
      let above : high ≡ little_endian (drop 8 bytes) = e ∙ ap little_endian (take_all 8 (drop 8 bytes) (omega (arith, length-drop 8 bytes))) in
      let split : low + 18446744073709551616 * high ≡ little_endian bytes = rw (d, above) (little_split 8 bytes) in
      parts low high _ (split ∙ ap little_endian all) (rw d (little_small 8 bytes few))

-- `discriminant_test`; b₀ is the body at entry
module _ (image : List ℕ) (b₀ : Body) (c : Counts) (p : PatId) (v : ℕ) (current : BasicBlockId) (els : OptBlock) (place : Place) where
  abbrev Tested : Lowered → Body → Type 0
  Tested = Lowers (λ ctx. discriminant_test image p.0 v ctx current els place) c current els b₀

  abbrev row : LocalId → List ℕ
  row m = place_rvalue_row current m PlaceRvalue.Discr place

  abbrev switches : ℕ → ℕ → LocalId → Ctx → Walk Out
  switches low high m ctx = then_switch p.0 m low high ctx current els

  abbrev both : LocalId → Ctx → Walk Out
  both = switches ((variant_of image v).discriminant % 18446744073709551616) ((variant_of image v).discriminant / 18446744073709551616)

  -- there is no local
  pub discriminant_no_temp : {err : MirLowerError} {b : Body} → Makes (λ st. discr_temp_place image st current) c b₀ (Err err) b → Tested (Err (err, p)) b
  unfolding discriminant_test then_switch
  discriminant_no_temp M = assign_no_local b₀ p els row both M

  module _ {c₁ : Counts} {m : LocalId} {b₁ b₂ : Body} (long : length place.elems ≡ 16) (M : Makes (λ st. discr_temp_place image st current) c b₀ (Ok (c₁, m)) b₁)
      (after : b₂ ≡ with_statements b₁ (statements_after c₁ b₁.statements (row m))) where
    -- there is no room for the statement
    pub discriminant_full : None ≡ new_statement c₁ → Tested (Err (MirLowerError.Limit, p)) b₂
    unfolding discriminant_test then_switch
    discriminant_full full = assign_full b₀ p els row both M (place_rvalue_length current m PlaceRvalue.Discr place long) after full

    -- the block goes on by the local
    pub discriminant_switches : {c₂ : Counts} {r : Lowered} {b : Body} {low high : ℕ} →
        (low ≡ (variant_of image v).discriminant % 18446744073709551616) × (high ≡ (variant_of image v).discriminant / 18446744073709551616) →
        Some c₂ ≡ new_statement c₁ → Ready b₀ c → Begins c current els →
        Lowers (switches low high m) c₂ current els b₂ r b → Tested r b
    unfolding discriminant_test then_switch
    discriminant_switches {low = low} {high = high} halves is P h W =
        assign_then b₀ p els row both M (place_rvalue_length current m PlaceRvalue.Discr place long) after is P h
        (lowers_by {defined = switches low high m} (λ ctx. rw (halves.0, halves.1) refl) W)
