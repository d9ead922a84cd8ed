-- What holds of a walk's answer if it is accepted, and of a step's. Assumes nothing.
use mathlib.Core.Path.{◌≡◌, refl, subst}
use Prim.Native.Nat.{ℕ}
use native.Mathlib.Omega.{arith}
use Rattle.refusals.specs.declared.MirLowerError.{MirLowerError}
use Rattle.refusals.specs.Refusals.{Result, and_then}
use Rattle.refusals.specs.Refusals.{done, stopped}
use Rattle.pattern_matching.specs.Walking.{Walk, ok, refused, next, step}

-- P holds of the answer, if there is one
pub record Holds {A : Type 0} (P : A → Type 0) (w : Walk A) : Type 0 where
  pub at : (a : A) → w ≡ ok a → P a

pub record Gives {A : Type 0} (P : A → Type 0) (x : Result A) : Type 0 where
  pub at : (a : A) → x ≡ done a → P a

-- accepted answers are the same
ok_same : {A : Type 0} {a b : A} → ◌≡◌ {A = Walk A} (ok a) (ok b) → a ≡ b
ok_same e = cc

-- so are those of steps
done_same : {A : Type 0} {a b : A} → ◌≡◌ {A = Result A} (done a) (done b) → a ≡ b
done_same e = cc

-- an answer
pub holds : {A : Type 0} (P : A → Type 0) (a : A) → P a → Holds P (ok a)
holds P a p = record { at = λ b e. subst P (ok_same e) p }

-- a step's answer
pub gives : {A : Type 0} (P : A → Type 0) (a : A) → P a → Gives P (done a)
gives P a p = record { at = λ b e. subst P (done_same e) p }

-- of a refusal anything holds
pub refuses : {A : Type 0} (P : A → Type 0) (e : MirLowerError) (p : ℕ) → Holds P (refused e p)
refuses P e p = record { at = λ b q. absurd (apart q) }
  where
    apart : {A : Type 0} {b : A} → ◌≡◌ {A = Walk A} (refused e p) (ok b) → ⊥
    apart q = let z : ◌≡◌ {A = ℕ} 0 1 = cc in omega arith

-- a step that refuses
pub stops : {A : Type 0} (P : A → Type 0) (e : MirLowerError) → Gives P (stopped e)
stops P e = record { at = λ b q. absurd (apart q) }
  where
    apart : {A : Type 0} {b : A} → ◌≡◌ {A = Result A} (stopped e) (done b) → ⊥
    apart q = let z : ◌≡◌ {A = ℕ} 0 1 = cc in omega arith

-- a walk, and then what follows it
pub holds_next : {A B : Type 0} {P : A → Type 0} {Q : B → Type 0} (w : Walk A) (k : A → Walk B) → Holds P w → ((a : A) → P a → Holds Q (k a)) → Holds Q (next w k)
holds_next (ok a) k h then = then a (h.at a refl)
holds_next {Q = Q} (refused e p) k h then = refuses Q e p

-- a step, and then what follows it
pub holds_step : {A B : Type 0} {P : A → Type 0} {Q : B → Type 0} (p : ℕ) (x : Result A) (k : A → Walk B) → Gives P x → ((a : A) → P a → Holds Q (k a)) → Holds Q (step p x k)
holds_step p (done a) k h then = then a (h.at a refl)
holds_step {Q = Q} p (stopped e) k h then = refuses Q e p

-- a step, and then another
pub gives_then : {A B : Type 0} {P : A → Type 0} {Q : B → Type 0} (x : Result A) (k : A → Result B) → Gives P x → ((a : A) → P a → Gives Q (k a)) → Gives Q (and_then x k)
gives_then (done a) k h then = then a (h.at a refl)
gives_then {Q = Q} (stopped e) k h then = stops Q e

-- what follows from what holds
pub holds_as : {A : Type 0} {P Q : A → Type 0} {w : Walk A} → ((a : A) → P a → Q a) → Holds P w → Holds Q w
holds_as f h = record { at = λ a e. f a (h.at a e) }
