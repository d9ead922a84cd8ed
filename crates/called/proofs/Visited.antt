-- The words of the visits' table are the counts of visits: none is so great that a word could not hold it. Assumes nothing.
use Prim.Native.Nat.{ℕ, suc, ◌<◌}
use mathlib.Core.Path.{◌≡◌, refl, ap₂, ◌∙◌}
use mathlib.Core.List.{List, [], ◌∷◌, map}
use native.Mathlib.Omega.{arith}
use borrow.Author.Tests.{lt-ltb}
use lib.ListN.{length, get_or}
use Rattle.row_tables.proofs.Zeros.{length_zeros, zero_at}
use Rattle.pattern_matching.specs.Walking.{Out, ok}
use Rattle.pattern_matching.specs.Variants.{place_ty}
use Rattle.pattern_walk_spec.specs.Answers.{visit_word}
use Rattle.counting.proofs.Whole.{counted, visits_kept}
use Rattle.counting.proofs.Ors.{visits_few}
use Rattle.called.specs.Call.{Call, before, pattern_of, start_of}
use Rattle.called.proofs.Walked.{walk_of}
use Rattle.called.proofs.Given.{Given}

-- a lesser count is its own word
word_same : (n : ℕ) → n < 65535 → visit_word n ≡ n
unfolding visit_word
word_same n h = rw (lt-ltb n 65535 h)

pub words_same : (xs : List ℕ) → ((i : ℕ) → i < length xs → get_or xs i 0 < 65535) → map visit_word xs ≡ xs
words_same [] h = refl
words_same (x ∷ xs) h = ap₂ (λ (y : ℕ) (ys : List ℕ). y ∷ ys) (word_same x (h 0 (omega arith))) (words_same xs (λ i l. h (suc i) (omega (arith, l))))

-- of a call that came to the walk, and what the walk gave
module _ (call : Call) (G : Given call) (r : Out) (gave : walk_of call ≡ ok r) where
  -- there is a count for each of 512 patterns
  pub visits_512 : length r.ctx.visits ≡ 512
  visits_512 =
      visits_kept call.image call.bindings (pattern_of call) (start_of call) call.start call.else call.place r G.root call.elements gave ∙ length_zeros 512

  -- none of them is above 513
  pub visits_small : (i : ℕ) → i < length r.ctx.visits → get_or r.ctx.visits i 0 < 65535
  visits_small i h =
      let ty = place_ty call.image (before call) call.place in
      let n = visits_512 in
      let l = length_zeros 512 in
      let z = zero_at 512 i (omega (arith, h, n)) in
      let v = (counted call.image call.bindings (pattern_of call) (start_of call) call.start call.else call.place r G.root call.elements gave).visits i (omega (arith, h, n, l)) in
      let few = visits_few call.image call.pattern ty i G.image_valid G.there in
      let there = G.there in
      let most = G.few in
      omega (arith, v, z, few, there, most)
