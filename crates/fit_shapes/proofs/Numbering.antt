-- Types at places, by the ways through the code. Assumes nothing.
use Rattle.std.specs.Prelude.{Some, None}
use Prim.Native.Nat.{ℕ, zero, suc, ◌-◌, ◌<◌}
use mathlib.Core.Path.{◌≡◌, refl, sym, ap, ◌∙◌}
use mathlib.Core.Bool.{true, false}
use mathlib.Core.Option.{Option, none, some}
use mathlib.Core.List.{List}
use native.Mathlib.Omega.{arith}
use borrow.Author.Tests.{ltb-true, lt-ltb}
use lib.Dec.{eqb}
use Rattle.image.specs.declared.rows.TypeRow.{TypeRow}
use Rattle.image.specs.Tables.{type_count}
use Rattle.image.specs.Rows.{type_at}
use Rattle.image.specs.Rules.{names_type}
use Rattle.image.specs.Types.{ty_of}
use Rattle.image.specs.Valid.{valid}
use Rattle.cases_spec.specs.Cases.{referent}
use Rattle.meaning.specs.Typing.{element_type}
use Rattle.meaning.specs.Fit.{behind, is_type}
use Rattle.fit_literals.proofs.Shapes.{reference_of, refers_inside}
use Rattle.fit_shapes.specs.Results.{TypeNumber}
use Rattle.fit_shapes.specs.Numbers.{type_number, names_type?, Numbers}
use Rattle.fit_shapes.proofs.Shaped.{array_of_lem, slice_of, no_referent, no_element, array_named, slice_named}

-- no number
pub numbers_none : (image : List ℕ) {t : Option ℕ} → t ≡ none → Numbers image None t
numbers_none image e = record { is = sym e; named = rw e }

-- a number that names a type
pub numbers_some : (image : List ℕ) (n : ℕ) {t : Option ℕ} → t ≡ some n → names_type image n ≡ true → Numbers image (Some n) t
numbers_some image n e h = record { is = sym e; named = rw e h }

-- a number of the code names a type as the definition's does
pub number_named : {image : List ℕ} {r : TypeNumber} {t : Option ℕ} → Numbers image r t → names_type? image (type_number r) ≡ true
number_named {image} n = ap (names_type? image) n.is ∙ n.named

pub some_inside : (image : List ℕ) {place : TypeNumber} {t : ℕ} → place ≡ Some t → names_type? image (type_number place) ≡ true → t < type_count image
some_inside image {place} {t} e h = ltb-true t (type_count image) (sym (ap (λ (p : TypeNumber). names_type? image (type_number p)) e) ∙ h)

module _ (image : List ℕ) (t : ℕ) {row : TypeRow} (at : row ≡ type_at image t) (holds : valid image ≡ true) (inside : t < type_count image) where
  -- `referent_of`
  pub referent_other : (row.kind ≡ 7 → ⊥) → Numbers image None (referent (ty_of image t).shape)
  referent_other h = numbers_none image (no_referent image t at holds inside h)

  pub referent_here : row.kind ≡ 7 → Numbers image (Some row.a) (referent (ty_of image t).shape)
  unfolding referent
  referent_here e = numbers_some image row.a (ap referent (reference_of image t at e)) (lt-ltb row.a (type_count image) (refers_inside image t at holds inside e))

  -- `element_type`
  pub element_array : row.kind ≡ 8 → Numbers image (Some row.a) (element_type (ty_of image t).shape)
  unfolding element_type
  element_array e = numbers_some image row.a (ap element_type (array_of_lem image t at e)) (array_named image t at holds inside e)

  pub element_slice : row.kind ≡ 9 → Numbers image (Some row.a) (element_type (ty_of image t).shape)
  unfolding element_type
  element_slice e = numbers_some image row.a (ap element_type (slice_of image t at e)) (slice_named image t at holds inside e)

  pub element_other : (row.kind ≡ 8 → ⊥) → (row.kind ≡ 9 → ⊥) → Numbers image None (element_type (ty_of image t).shape)
  element_other h k = numbers_none image (no_element image t at holds inside h k)

-- `type_behind`
module _ (image : List ℕ) where
  pub behind_here : (d : ℕ) (t : Option ℕ) → d ≡ 0 → t ≡ behind image d t
  unfolding behind
  behind_here d t e = rw e

  pub behind_none : (d : ℕ) {t : Option ℕ} → (d ≡ 0 → ⊥) → t ≡ none → none ≡ behind image d t
  unfolding behind
  behind_none zero h e = absurd (h refl)
  behind_none (suc d) h e = rw e

  pub behind_more : (d n : ℕ) {t u : Option ℕ} → (d ≡ 0 → ⊥) → t ≡ some n → u ≡ referent (ty_of image n).shape → behind image (d - 1) u ≡ behind image d t
  unfolding behind
  behind_more zero n h e q = absurd (h refl)
  behind_more (suc d) n h e q = let one : suc d - 1 ≡ d = omega arith in rw (e, q, one)

-- `type_is_the_places`
pub is_none_lem : (u : ℕ) {r : TypeNumber} {b : Option ℕ} → r ≡ None → type_number r ≡ b → false ≡ is_type b u
is_none_lem u e h = ap (λ (o : Option ℕ). is_type o u) (sym (ap type_number e) ∙ h)

pub is_some : (u t : ℕ) {r : TypeNumber} {b : Option ℕ} → r ≡ Some t → type_number r ≡ b → eqb t u ≡ is_type b u
is_some u t e h = ap (λ (o : Option ℕ). is_type o u) (sym (ap type_number e) ∙ h)
