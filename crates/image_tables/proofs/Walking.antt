-- The ways through the tests of the rows, over all rows. Assumes nothing.
use Prim.Native.Nat.{ℕ, zero, suc, ◌+◌, ◌<◌}
use mathlib.Core.Path.{◌≡◌, refl, sym, ◌∙◌}
use mathlib.Core.Bool.{Bool, true, false, ◌&&◌, and_assoc, and-true, true≢false, false≢true}
use mathlib.Core.List.{List}
use native.Mathlib.Nat.{zero-add, add-zero, add-suc, suc-add}
use native.Mathlib.Numerals.{add-one}
use Rattle.std.specs.List.{list_all, range_with_len}
use Rattle.image.specs.Tables.{type_count, variant_count, pattern_count, binding_count}
use Rattle.image.specs.Lists.{all_below, all_true}
use Rattle.image.specs.Rules.{type_holds, variant_holds, binding_holds}
use Rattle.image.specs.Patterns.{pattern_holds, subpatterns_below, used_once}
use Rattle.image.proofs.Bools.{and_true, and_false_left, and_false_right, below_false}
use Rattle.image_tables.specs.Parts.{rows_hold}

-- the tests of the numbers from a on, and of one more
list_all_next : (f : ℕ → Bool) (a n : ℕ) → list_all f (range_with_len a (suc n)) ≡ list_all f (range_with_len a n) && f (a + n)
list_all_next f a zero = rw (and-true (f a), add-zero a) refl
list_all_next f a (suc n) = rw (list_all_next f (a + 1) n, add-one a, suc-add a n, ← add-suc a n) (sym (and_assoc (f a) (list_all f (range_with_len (suc a) n)) (f (a + suc n))))

-- the tests of the numbers of a range from 0 on
pub range_tested : (f : ℕ → Bool) (n : ℕ) → list_all f (range_with_len 0 n) ≡ all_below f n
unfolding all_below
range_tested f zero = refl
range_tested f (suc n) = list_all_next f 0 n ∙ rw (range_tested f n, zero-add n) refl

module _ (image : List ℕ) where
  -- the rules on single rows of types, variants and bindings
  abbrev pub types : Bool
  types = all_below (type_holds image) (type_count image)

  abbrev pub variants : Bool
  variants = all_below (variant_holds image) (variant_count image)

  abbrev pub bindings : Bool
  bindings = all_below (binding_holds image) (binding_count image)

  -- the rules on patterns: on their rows, and on subpatterns' numbers
  abbrev pub shapes : Bool
  shapes = all_below (pattern_holds image) (pattern_count image)

  abbrev pub uses : Bool
  uses = all_below (subpatterns_below image) (pattern_count image) && used_once image

  abbrev pub patterns : Bool
  patterns = shapes && uses

  -- the ways through the tests of the rows
  pub types_fail : types && variants ≡ false → false ≡ rows_hold image
  unfolding rows_hold all_true
  types_fail e = go types variants bindings e
    where
      go : (a b c : Bool) → a && b ≡ false → false ≡ a && (b && (c && true))
      go true true c e = absurd (true≢false e)
      go true false c e = refl
      go false b c e = refl

  pub rows_left : types && variants ≡ true → rows_hold image ≡ bindings
  unfolding rows_hold all_true
  rows_left e = go types variants bindings e
    where
      go : (a b c : Bool) → a && b ≡ true → a && (b && (c && true)) ≡ c
      go true true true e = refl
      go true true false e = refl
      go true false c e = absurd (false≢true e)
      go false b c e = absurd (false≢true e)

  -- the ways through the walk over the patterns
  pub shape_fails : (p : ℕ) → p < pattern_count image → pattern_holds image p ≡ false → false ≡ patterns
  shape_fails p h e = sym (and_false_left shapes uses (below_false (pattern_holds image) (pattern_count image) p h e))

  pub use_fails : false ≡ uses → false ≡ patterns
  use_fails e = sym (and_false_right shapes uses (sym e))

  pub patterns_end : (p : ℕ) → p ≡ pattern_count image → all_below (pattern_holds image) p ≡ true → true ≡ uses → true ≡ patterns
  patterns_end p same e u = sym (and_true shapes uses (rw same at e) (sym u))
