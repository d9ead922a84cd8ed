-- The walk over the patterns, and each way through a loop that makes it. Assumes nothing.
use Prim.Native.Nat.{ℕ, ◌+◌, ◌-◌, ◌≤◌, ◌<◌}
use mathlib.Core.Path.{◌≡◌, ◌∙◌}
use mathlib.Core.Bool.{Bool, true, false, ◌&&◌}
use mathlib.Core.List.{List}
use native.Mathlib.Omega.{arith}
use Rattle.image.specs.Tables.{pattern_count}
use Rattle.image.specs.Lists.{all_below}
use Rattle.image.specs.Subpatterns.{subpatterns}
use Rattle.image.specs.Patterns.{subpatterns_below, used_once}
use Rattle.marks.specs.Marks.{Taken}
use Rattle.image_marks.proofs.Fresh.{zeros}
use Rattle.image_marks.proofs.Walk.{walk, walk_more, walk_refused, walk_end, walk_from_zeros}

-- the walk over the patterns, each the bound of its subpatterns
abbrev pub uses_from : List ℕ → ℕ → ℕ → List ℕ → Bool
uses_from image p n marks = walk (λ p. p) (subpatterns image) p n marks

-- The theorem: the walk over all patterns tells whether each subpattern is below its parent and none is used twice.
uses_all : (image : List ℕ) → pattern_count image ≤ 512 →
    uses_from image 0 (pattern_count image) (zeros 512) ≡ all_below (subpatterns_below image) (pattern_count image) && used_once image
unfolding subpatterns_below used_once
uses_all image h = walk_from_zeros (λ p. p) (subpatterns image) 512 (pattern_count image) (λ k lt. omega arith)

-- In such a loop: the walk that is left from p on tells the answer.
abbrev pub UsesLeft : List ℕ → ℕ → List ℕ → Type 0
UsesLeft image p marks = uses_from image p (pattern_count image - p) marks ≡ all_below (subpatterns_below image) (pattern_count image) && used_once image

-- where the loop begins
pub uses_start : (image : List ℕ) {marks : List ℕ} → marks ≡ zeros 512 → pattern_count image ≤ 512 → UsesLeft image 0 marks
uses_start image e h = let all : pattern_count image - 0 ≡ pattern_count image = omega arith in rw (all, e) (uses_all image h)

module _ (image : List ℕ) (p : ℕ) (marks : List ℕ) (left : UsesLeft image p marks) where
  -- a turn that takes the subpatterns of p
  pub uses_more : {next : List ℕ} {r : Bool} → p < pattern_count image → r ≡ true → Taken p marks next (subpatterns image p) r → UsesLeft image (p + 1) next
  uses_more {next} h e t = walk_more (λ p. p) (subpatterns image) p (pattern_count image) marks next h (rw e at t) ∙ left

  -- a turn that refuses them
  pub uses_refused : {next : List ℕ} {r : Bool} → p < pattern_count image → r ≡ false → Taken p marks next (subpatterns image p) r →
      false ≡ all_below (subpatterns_below image) (pattern_count image) && used_once image
  uses_refused {next} h e t = walk_refused (λ p. p) (subpatterns image) p (pattern_count image) marks next h (rw e at t) ∙ left

  -- the loop's end
  pub uses_end : pattern_count image ≤ p → true ≡ all_below (subpatterns_below image) (pattern_count image) && used_once image
  uses_end h = walk_end (λ p. p) (subpatterns image) p (pattern_count image) marks h ∙ left
