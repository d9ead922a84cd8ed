-- A list of parameters, from one of them on. Assumes nothing.
use Prim.Native.Nat.{ℕ, zero, suc, ◌+◌, ◌*◌, ◌-◌, ◌<◌}
use mathlib.Core.Path.{◌≡◌, refl, sym, ap, ap₂, ◌∙◌}
use mathlib.Core.Bool.{true, ◌&&◌}
use mathlib.Core.List.{List, [], ◌∷◌}
use native.Mathlib.Omega.{arith}
use borrow.Author.Tests.{ltb-true, eqb-true}
use lib.Dec.{eqb, ltb, leb}
use lib.ListN.{length, get_or, take, drop}
use lib.Seq.{split_at, get_or_at, length-take-le}
use Rattle.image.specs.Tables.{type_count, pattern_count}
use Rattle.image.proofs.Bools.{and_left, and_right}
use Rattle.params_spec.specs.Results.{SelfParam}
use Rattle.params_spec.specs.Params.{Param}
use Rattle.params_spec.specs.Calls.{params_from, param_count, params_of, params_named, list_formed, receiver_apart, list_holds}

-- within a list it does not matter what there would be outside
pub word_within : (words : List ℕ) (i d d' : ℕ) → i < length words → get_or words i d ≡ get_or words i d'
word_within words i d d' h =
    sym (get_or_at (take i words) (get_or words i d) (drop (suc i) words) d' i (length-take-le i words (omega arith)))
    ∙ sym (ap (λ (l : List ℕ). get_or l i d') (split_at words i d h))

-- the parameter at the word k
abbrev pub param_at : List ℕ → ℕ → Param
param_at words k = record { pattern = get_or words k 0; ty = get_or words (k + 1) 0 }

-- no parameter is left
pub params_none : (words : List ℕ) (k left : ℕ) → left ≡ 0 → params_from words k left ≡ []
unfolding params_from
params_none words k left e = rw e

-- the parameter at the word k, and then those behind it
pub params_more : (words : List ℕ) (k left : ℕ) → k + 2 * left ≡ length words → (left ≡ 0 → ⊥) → params_from words k left ≡ param_at words k ∷ params_from words (k + 2) (left - 1)
unfolding params_from
params_more words k zero fits some = absurd (some refl)
params_more words k (suc n) fits some =
    let behind : n ≡ suc n - 1 = omega arith in
    ap₂ (λ (q : Param) (m : ℕ). q ∷ params_from words (k + 2) m)
    (λ i. record { pattern = word_within words k 65535 0 (omega arith) i; ty = word_within words (k + 1) 65535 0 (omega arith) i })
    behind

-- so many parameters from the word k on end the list, and each names a pattern and a type
pub record Listed (image words : List ℕ) (k left : ℕ) : Type 0 where
  pub fits : k + 2 * left ≡ length words
  pub named : params_named image (params_from words k left) ≡ true

-- a well-formed list
pub list_taken : (image words : List ℕ) → list_formed image words ≡ true → Listed image words 0 (param_count words)
unfolding list_formed
list_taken image words e =
    let few = leb (param_count words) 64 in
    let even = eqb (2 * param_count words) (length words) in
    let named = params_named image (params_of words) in
    let both = eqb-true (2 * param_count words) (length words) (and_right few even (and_left (few && even) named e)) in
    record { fits = omega arith; named = and_right (few && even) named e }

-- a list that is taken is well formed
pub taken_formed : (image words : List ℕ) (self : SelfParam) → list_holds image self words ≡ true → list_formed image words ≡ true
unfolding list_holds
taken_formed image words self e = and_left (list_formed image words) (receiver_apart image self (params_of words)) e

module _ {image words : List ℕ} {k left : ℕ} (L : Listed image words k left) (some : left ≡ 0 → ⊥) where
  -- the tests of the first one, and of the others
  first_named : ltb (get_or words k 0) (pattern_count image) && ltb (get_or words (k + 1) 0) (type_count image) && params_named image (params_from words (k + 2) (left - 1)) ≡ true
  unfolding params_named
  first_named = sym (ap (params_named image) (params_more words k left L.fits some)) ∙ L.named

  -- its pattern
  pub first_pattern : get_or words k 0 < pattern_count image
  first_pattern =
      let a = ltb (get_or words k 0) (pattern_count image) in
      let b = ltb (get_or words (k + 1) 0) (type_count image) in
      ltb-true _ _ (and_left a b (and_left (a && b) (params_named image (params_from words (k + 2) (left - 1))) first_named))

  -- its words stand in the list
  pub first_words : k + 1 < length words
  first_words = omega (arith, L.fits, some)

  -- those behind it
  pub listed_behind : Listed image words (k + 2) (left - 1)
  listed_behind =
      let a = ltb (get_or words k 0) (pattern_count image) in
      let b = ltb (get_or words (k + 1) 0) (type_count image) in
      record { fits = omega (arith, L.fits, some); named = and_right (a && b) (params_named image (params_from words (k + 2) (left - 1))) first_named }
