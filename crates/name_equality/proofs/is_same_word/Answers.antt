use mathlib.Core.Path.{◌≡◌, refl, ap}
use mathlib.Core.Bool.{Bool, ◌&&◌}
use mathlib.Core.List.{List, [], ◌∷◌}
use Prim.Native.Nat.{ℕ}
use lib.Dec.{eqb}
use lib.Pointwise.{pointwise}
use Rattle.pattern_words.specs.Words.{same_word}
use Rattle.name_equality.proofs.is_same_word.Goals as goal

-- `==` compares length and bytes as the definition does
compared : (a b : List ℕ) → pointwise eqb a b ≡ same_word a b
unfolding same_word
compared [] [] = refl
compared [] (c ∷ cs) = refl
compared (b ∷ bs) [] = refl
compared (b ∷ bs) (c ∷ cs) = ap (λ (r : Bool). eqb b c && r) (compared bs cs)

pub returns : goal.returns
returns c = cc (compared c.args.a.now c.args.b.now)
