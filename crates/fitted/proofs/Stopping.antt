-- Walks and steps that refuse only as a fitting pattern may be refused. Assumes nothing.
use mathlib.Core.Path.{◌≡◌, refl, subst}
use mathlib.Core.Logic.{◌⊎◌, inl, inr}
use mathlib.Core.Bool.{Bool, true, false, cond}
use Prim.Native.Nat.{ℕ}
use native.Mathlib.Omega.{arith}
use Rattle.refusals.specs.declared.MirLowerError.{MirLowerError}
use Rattle.refusals.specs.Refusals.{number_of, Result, and_then}
use Rattle.refusals.specs.Refusals.{done, stopped}
use Rattle.pattern_matching.specs.Walking.{Walk, ok, refused, next, step}
use Rattle.counting.proofs.Holding.{Holds, Gives}

-- A limit is passed (11), or no scope is open (14). Where a pattern fits its place, every projection applies, so that 12 is not met either.
abbrev pub OnlyLimits : MirLowerError → Type 0
OnlyLimits MirLowerError.IncompletePattern = ⊥
OnlyLimits (MirLowerError.TypeError reason) = ⊥
OnlyLimits MirLowerError.UnresolvedField = ⊥
OnlyLimits MirLowerError.NotSupported = ⊥
OnlyLimits MirLowerError.Ellipsis = ⊥
OnlyLimits MirLowerError.UnsizedTemporary = ⊥
OnlyLimits MirLowerError.InaccessibleLocal = ⊥
OnlyLimits MirLowerError.Expr = ⊥
OnlyLimits MirLowerError.Limit = Unit
OnlyLimits MirLowerError.PlaceType = ⊥
OnlyLimits MirLowerError.UnresolvedName = ⊥
OnlyLimits MirLowerError.NoScope = Unit

-- by their numbers
pub limit_numbers : (e : MirLowerError) → OnlyLimits e → (number_of e ≡ 11) ⊎ (number_of e ≡ 14)
unfolding number_of
limit_numbers MirLowerError.IncompletePattern k = absurd k
limit_numbers (MirLowerError.TypeError reason) k = absurd k
limit_numbers MirLowerError.UnresolvedField k = absurd k
limit_numbers MirLowerError.NotSupported k = absurd k
limit_numbers MirLowerError.Ellipsis k = absurd k
limit_numbers MirLowerError.UnsizedTemporary k = absurd k
limit_numbers MirLowerError.InaccessibleLocal k = absurd k
limit_numbers MirLowerError.Expr k = absurd k
limit_numbers MirLowerError.Limit k = inl refl
limit_numbers MirLowerError.PlaceType k = absurd k
limit_numbers MirLowerError.UnresolvedName k = absurd k
limit_numbers MirLowerError.NoScope k = inr refl

-- Q holds of a walk's answer, if there is one, and its refusal is one of those
pub record Fine {A : Type 0} (Q : A → Type 0) (w : Walk A) : Type 0 where
  pub at : (a : A) → w ≡ ok a → Q a
  pub stop : (e : MirLowerError) (p : ℕ) → w ≡ refused e p → OnlyLimits e

-- the same of a step
pub record Fair {A : Type 0} (Q : A → Type 0) (x : Result A) : Type 0 where
  pub at : (a : A) → x ≡ done a → Q a
  pub stop : (e : MirLowerError) → x ≡ stopped e → OnlyLimits e

-- accepted answers are the same
ok_same : {A : Type 0} {a b : A} → ◌≡◌ {A = Walk A} (ok a) (ok b) → a ≡ b
ok_same e = cc

-- so are those of steps
done_same : {A : Type 0} {a b : A} → ◌≡◌ {A = Result A} (done a) (done b) → a ≡ b
done_same e = cc

-- what is accepted is not refused
ok_refused : {A : Type 0} {a : A} {e : MirLowerError} {p : ℕ} → ◌≡◌ {A = Walk A} (ok a) (refused e p) → ⊥
ok_refused q = let z : ◌≡◌ {A = ℕ} 0 1 = cc in omega arith

-- nor the other way round
refused_ok : {A : Type 0} {a : A} {e : MirLowerError} {p : ℕ} → ◌≡◌ {A = Walk A} (refused e p) (ok a) → ⊥
refused_ok q = let z : ◌≡◌ {A = ℕ} 0 1 = cc in omega arith

-- so it is of steps
done_stopped : {A : Type 0} {a : A} {e : MirLowerError} → ◌≡◌ {A = Result A} (done a) (stopped e) → ⊥
done_stopped q = let z : ◌≡◌ {A = ℕ} 0 1 = cc in omega arith

-- and the other way round
stopped_done : {A : Type 0} {a : A} {e : MirLowerError} → ◌≡◌ {A = Result A} (stopped e) (done a) → ⊥
stopped_done q = let z : ◌≡◌ {A = ℕ} 0 1 = cc in omega arith

-- refusals are the same
refused_same : {A : Type 0} {e e' : MirLowerError} {p p' : ℕ} → ◌≡◌ {A = Walk A} (refused e p) (refused e' p') → e ≡ e'
refused_same q = cc

-- so are those of steps
stopped_same : {A : Type 0} {e e' : MirLowerError} → ◌≡◌ {A = Result A} (stopped e) (stopped e') → e ≡ e'
stopped_same q = cc

-- an answer
pub fine_ok : {A : Type 0} (Q : A → Type 0) (a : A) → Q a → Fine Q (ok a)
fine_ok Q a q = record { at = λ b e. subst Q (ok_same e) q; stop = λ e p r. absurd (ok_refused r) }

-- a refusal
pub fine_refused : {A : Type 0} (Q : A → Type 0) (e : MirLowerError) (p : ℕ) → OnlyLimits e → Fine Q (refused e p)
fine_refused Q e p l = record { at = λ a r. absurd (refused_ok r); stop = λ e' p' r. subst OnlyLimits (refused_same r) l }

-- a step's answer
pub fair_done : {A : Type 0} (Q : A → Type 0) (a : A) → Q a → Fair Q (done a)
fair_done Q a q = record { at = λ b e. subst Q (done_same e) q; stop = λ e r. absurd (done_stopped r) }

-- a step's refusal
pub fair_stopped : {A : Type 0} (Q : A → Type 0) (e : MirLowerError) → OnlyLimits e → Fair Q (stopped e)
fair_stopped Q e l = record { at = λ a r. absurd (stopped_done r); stop = λ e' r. subst OnlyLimits (stopped_same r) l }

-- a walk, and then what follows it
pub fine_next : {A B : Type 0} {P : A → Type 0} {Q : B → Type 0} (w : Walk A) (k : A → Walk B) → Fine P w → ((a : A) → P a → Fine Q (k a)) → Fine Q (next w k)
fine_next (ok a) k h then = then a (h.at a refl)
fine_next {Q = Q} (refused e p) k h then = fine_refused Q e p (h.stop e p refl)

-- a step, and then what follows it
pub fine_step : {A B : Type 0} {P : A → Type 0} {Q : B → Type 0} (p : ℕ) (x : Result A) (k : A → Walk B) → Fair P x → ((a : A) → P a → Fine Q (k a)) → Fine Q (step p x k)
fine_step p (done a) k h then = then a (h.at a refl)
fine_step {Q = Q} p (stopped e) k h then = fine_refused Q e p (h.stop e refl)

-- a step, and then another
pub fair_then : {A B : Type 0} {P : A → Type 0} {Q : B → Type 0} (x : Result A) (k : A → Result B) → Fair P x → ((a : A) → P a → Fair Q (k a)) → Fair Q (and_then x k)
fair_then (done a) k h then = then a (h.at a refl)
fair_then {Q = Q} (stopped e) k h then = fair_stopped Q e (h.stop e refl)

-- what follows from what holds
pub fine_as : {A : Type 0} {P Q : A → Type 0} {w : Walk A} → ((a : A) → P a → Q a) → Fine P w → Fine Q w
fine_as f h = record { at = λ a e. f a (h.at a e); stop = h.stop }

-- the same of a step
pub fair_as : {A : Type 0} {P Q : A → Type 0} {x : Result A} → ((a : A) → P a → Q a) → Fair P x → Fair Q x
fair_as f h = record { at = λ a e. f a (h.at a e); stop = h.stop }

-- what holds of every answer holds of one that is fine
pub fine_and : {A : Type 0} {P Q : A → Type 0} {w : Walk A} → Fine P w → Holds Q w → Fine (λ a. P a × Q a) w
fine_and h k = record { at = λ a e. (h.at a e, k.at a e); stop = h.stop }

-- the same of a step
pub fair_by : {A : Type 0} {P Q : A → Type 0} {x : Result A} → Fair P x → Gives Q x → Fair Q x
fair_by h k = record { at = λ a e. k.at a e; stop = h.stop }

-- a test that refuses with one of those, or what follows
pub fair_cond : {A : Type 0} {Q : A → Type 0} (b : Bool) (e : MirLowerError) (x : Result A) → OnlyLimits e → Fair Q x → Fair Q (cond b (stopped e) x)
fair_cond {Q = Q} true e x l h = fair_stopped Q e l
fair_cond false e x l h = h
