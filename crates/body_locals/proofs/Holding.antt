-- Whether an open scope holds a local, entry by entry. Assumes nothing.
use Prim.Native.Nat.{ℕ, ◌+◌, ◌≤◌, ◌<◌}
use native.Mathlib.Numerals.{add-one}
use mathlib.Core.Path.{◌≡◌, refl, sym, ap, ◌∙◌}
use mathlib.Core.Bool.{Bool, true, false, ◌||◌}
use mathlib.Core.List.{List, [], ◌∷◌}
use borrow.Author.Tests.{eq-eqb, ne_eqb}
use lib.Dec.{eqb}
use lib.ListN.{length, get_or, take, drop}
use lib.Seq.{drop-cons}
use Rattle.std.proofs.lemmas.List.{drop_all}
use Rattle.image.specs.Lists.{member}

-- the local is among the words: it was met before i, or stands from there on
abbrev pub Meets : ℕ → List ℕ → Bool → ℕ → Type 0
Meets l words held i = member l words ≡ (held || member l (drop i words))

pub meets_first : (l : ℕ) (words : List ℕ) → Meets l words false 0
meets_first l words = refl

-- the word i, and those behind it
meets_split : (l : ℕ) (words : List ℕ) (i : ℕ) → i < length words → member l (drop i words) ≡ (eqb l (get_or words i 0) || member l (drop (i + 1) words))
unfolding member
meets_split l words i within = rw (drop-cons words i 0 within, add-one i) refl

or_true : (b c : Bool) → (b || (true || c)) ≡ true
or_true true c = refl
or_true false c = refl

or_false : (b : Bool) → (b || false) ≡ b
or_false true = refl
or_false false = refl

module _ (l : ℕ) (words : List ℕ) (held : Bool) (i : ℕ) (so_far : Meets l words held i) where
  module _ (more : i < length words) where
    -- the word is the local
    pub meets_it : get_or words i 0 ≡ l → Meets l words true (i + 1)
    meets_it e =
        so_far ∙ ap (λ (b : Bool). held || b) (meets_split l words i more)
        ∙ ap (λ (b : Bool). held || (b || member l (drop (i + 1) words))) (eq-eqb l (get_or words i 0) (sym e))
        ∙ or_true held (member l (drop (i + 1) words))

    -- it is another
    pub meets_another : (get_or words i 0 ≡ l → ⊥) → Meets l words held (i + 1)
    meets_another n =
        so_far ∙ ap (λ (b : Bool). held || b) (meets_split l words i more)
        ∙ ap (λ (b : Bool). held || (b || member l (drop (i + 1) words))) (ne_eqb l (get_or words i 0) (λ e. n (sym e)))

  -- no word is left
  pub meets_end : length words ≤ i → held ≡ member l words
  unfolding member
  meets_end h = sym (so_far ∙ ap (λ (xs : List ℕ). held || member l xs) (drop_all i words h) ∙ or_false held)
