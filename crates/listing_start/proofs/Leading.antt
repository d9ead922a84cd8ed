-- The type of local 0: where the derefs of a type lead, and the types that are tried one after the other. Assumes nothing.
use Prim.Native.Nat.{ℕ, zero, suc, ◌+◌, ◌-◌, ◌≤◌, ◌<◌}
use mathlib.Core.Path.{◌≡◌, refl, sym, ap, ◌∙◌}
use mathlib.Core.Bool.{Bool, true, false, cond}
use mathlib.Core.Option.{none, some}
use mathlib.Core.List.{List}
use native.Mathlib.Omega.{arith}
use borrow.Author.Tests.{ltb-true}
use lib.Dec.{eqb}
use Rattle.image.specs.declared.rows.TypeRow.{TypeRow}
use Rattle.image.specs.declared.rows.PatRow.{PatRow}
use Rattle.image.specs.Tables.{type_count}
use Rattle.image.specs.Kinds.{type_kind}
use Rattle.image.specs.Rows.{type_at, pat_at}
use Rattle.image.specs.Rules.{type_shape_holds}
use Rattle.image.specs.Types.{shape_by, ty_of}
use Rattle.image.specs.Valid.{valid}
use Rattle.image.proofs.Known.{shape_holds}
use Rattle.cases_spec.specs.Cases.{referent}
use Rattle.meaning.specs.Typing.{TypeNumber}
use Rattle.meaning.specs.Fit.{behind, is_type}
use Rattle.meaning.proofs.Crossing.{behind_none}
use Rattle.listing_start.specs.Started.{last_pattern, lowest_type, start_type}

-- only a type of the kind 7 refers to another
no_referent : (image : List ℕ) (row : TypeRow) (k : ℕ) → (k ≡ 7 → ⊥) → referent (shape_by (type_kind k) image row) ≡ none
unfolding shape_by referent
no_referent image row zero n = refl
no_referent image row (suc zero) n = refl
no_referent image row (suc (suc zero)) n = refl
no_referent image row (suc (suc (suc zero))) n = refl
no_referent image row (suc (suc (suc (suc zero)))) n = refl
no_referent image row (suc (suc (suc (suc (suc zero))))) n = refl
no_referent image row (suc (suc (suc (suc (suc (suc zero)))))) n = refl
no_referent image row (suc (suc (suc (suc (suc (suc (suc zero))))))) n = absurd (n refl)
no_referent image row (suc (suc (suc (suc (suc (suc (suc (suc zero)))))))) n = refl
no_referent image row (suc (suc (suc (suc (suc (suc (suc (suc (suc zero))))))))) n = refl
no_referent image row (suc (suc (suc (suc (suc (suc (suc (suc (suc (suc k)))))))))) n = refl

module _ (image : List ℕ) where
  -- where a deref leads
  behind_row : (d t : ℕ) (row : TypeRow) → row ≡ type_at image t → behind image (suc d) (some t) ≡ behind image d (referent (shape_by (type_kind row.kind) image row))
  unfolding behind ty_of
  behind_row d t row e = ap (λ (r : TypeRow). behind image d (referent (shape_by (type_kind r.kind) image r))) (sym e)

  behind_reference_lem : (d t : ℕ) (row : TypeRow) → row ≡ type_at image t → row.kind ≡ 7 → behind image (suc d) (some t) ≡ behind image d (some row.a)
  unfolding shape_by referent
  behind_reference_lem d t row e k = behind_row d t row e ∙ ap (λ (n : ℕ). behind image d (referent (shape_by (type_kind n) image row))) k

  behind_other : (d t : ℕ) (row : TypeRow) → row ≡ type_at image t → (row.kind ≡ 7 → ⊥) → behind image (suc d) (some t) ≡ none
  behind_other d t row e n = behind_row d t row e ∙ ap (behind image d) (no_referent image row row.kind n) ∙ behind_none image d

  -- what a reference refers to is a type of the table
  referred : (t : ℕ) (row : TypeRow) → valid image ≡ true → t < type_count image → row ≡ type_at image t → row.kind ≡ 7 → row.a < type_count image
  unfolding type_shape_holds
  referred t row v h e k =
      let held : type_shape_holds (type_kind row.kind) image row ≡ true = rw e (shape_holds image t v h) in
      ltb-true row.a (type_count image) (rw k at held)

-- all but the first i of the derefs are left, from the type `here` on
pub record Leading (image : List ℕ) (t derefs here i : ℕ) : Type 0 where
  pub same : behind image derefs (some t) ≡ behind image (derefs - i) (some here)
  pub there : here < type_count image

-- `leads_to`: where the loop begins
pub lead_start : {image : List ℕ} {t derefs : ℕ} → t < type_count image → Leading image t derefs t 0
lead_start {image} {t} {derefs} h =
    let all : derefs ≡ derefs - 0 = omega arith in
    record { same = ap (λ (d : ℕ). behind image d (some t)) all; there = h }

module _ {image : List ℕ} {t derefs here i : ℕ} (L : Leading image t derefs here i) where
  -- a turn crosses a reference
  pub lead_more : {row : TypeRow} → valid image ≡ true → i < derefs → row ≡ type_at image here → row.kind ≡ 7 → Leading image t derefs row.a (i + 1)
  lead_more {row} v h e k =
      let more : derefs - i ≡ suc (derefs - (i + 1)) = omega arith in
      record {
        same = L.same ∙ ap (λ (d : ℕ). behind image d (some here)) more ∙ behind_reference_lem image (derefs - (i + 1)) here row e k;
        there = referred image here row v L.there e k;
      }

  -- a type that is no reference
  pub lead_stops : {row : TypeRow} (ty : ℕ) → i < derefs → row ≡ type_at image here → (row.kind ≡ 7 → ⊥) → false ≡ is_type (behind image derefs (some t)) ty
  lead_stops {row} ty h e n =
      let more : derefs - i ≡ suc (derefs - (i + 1)) = omega arith in
      ap (λ (u : TypeNumber). is_type u ty) (sym (L.same ∙ ap (λ (d : ℕ). behind image d (some here)) more ∙ behind_other image (derefs - (i + 1)) here row e n))

  -- the loop's end
  pub lead_end : (ty : ℕ) → derefs ≤ i → eqb here ty ≡ is_type (behind image derefs (some t)) ty
  unfolding behind
  lead_end ty h =
      let none_left : derefs - i ≡ 0 = omega arith in
      ap (λ (u : TypeNumber). is_type u ty) (sym (L.same ∙ ap (λ (d : ℕ). behind image d (some here)) none_left))

-- the types from t on are left to be tried
pub record Trying (image : List ℕ) (row : PatRow) (t : ℕ) : Type 0 where
  pub same : start_type image ≡ lowest_type image row.derefs row.ty t (type_count image - t)
  pub within : t ≤ type_count image

-- `start_type`: where the loop begins
pub try_start : {image : List ℕ} {row : PatRow} {p : ℕ} → row ≡ pat_at image p → p ≡ last_pattern image → Trying image row 0
unfolding start_type
try_start {image} {row} {p} e last =
    let is = e ∙ ap (pat_at image) last in
    let all : type_count image ≡ type_count image - 0 = omega arith in
    record {
      same = ap (λ (r : PatRow). lowest_type image r.derefs r.ty 0 (type_count image)) (sym is) ∙ ap (lowest_type image row.derefs row.ty 0) all;
      within = omega arith;
    }

module _ {image : List ℕ} {row : PatRow} {t : ℕ} (T : Trying image row t) where
  -- the type t is tried
  tried : {b : Bool} → t < type_count image → b ≡ is_type (behind image row.derefs (some t)) row.ty →
      start_type image ≡ cond b (some t) (lowest_type image row.derefs row.ty (t + 1) (type_count image - (t + 1)))
  unfolding lowest_type
  tried h e =
      let more : type_count image - t ≡ suc (type_count image - (t + 1)) = omega arith in
      T.same
      ∙ ap (lowest_type image row.derefs row.ty t) more
      ∙ ap (λ (x : Bool). cond x (some t) (lowest_type image row.derefs row.ty (t + 1) (type_count image - (t + 1)))) (sym e)

  -- a turn tries one type more
  pub try_more : t < type_count image → false ≡ is_type (behind image row.derefs (some t)) row.ty → Trying image row (t + 1)
  try_more h e = record { same = tried h e; within = omega arith }

  -- a type that leads to the pattern's
  pub try_found : t < type_count image → true ≡ is_type (behind image row.derefs (some t)) row.ty → some t ≡ start_type image
  try_found h e = sym (tried h e)

  -- the loop's end
  pub try_end : type_count image ≤ t → none ≡ start_type image
  unfolding lowest_type
  try_end h =
      let none_left : type_count image - t ≡ 0 = omega arith in
      sym (T.same ∙ ap (lowest_type image row.derefs row.ty t) none_left)
