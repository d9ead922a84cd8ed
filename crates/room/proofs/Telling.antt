-- What a refusal tells of the room and the scopes that there were. Assumes nothing.
use mathlib.Core.Path.{◌≡◌, refl, subst}
use mathlib.Core.List.{List}
use Prim.Native.Nat.{ℕ}
use native.Mathlib.Omega.{arith}
use lib.ListN.{length}
use Rattle.refusals.specs.declared.MirLowerError.{MirLowerError}
use Rattle.refusals.specs.Refusals.{Result, and_then}
use Rattle.refusals.specs.Refusals.{done, stopped}
use Rattle.pattern_matching.specs.Walking.{Ctx, Walk, ok, refused, next, step}
use Rattle.counting.proofs.Holding.{Holds, Gives}

-- what a walk starts from: a context, and the bindings' table
pub record Origin : Type 0 where
  pub ctx : Ctx
  pub bindings : List ℕ

-- Of a walk that started from `base`, where A says that there is room, a refusal tells that there was none (11), or that no scope was open (14).
abbrev pub Tells : Type 0 → Origin → MirLowerError → Type 0
Tells A base MirLowerError.IncompletePattern = Unit {0}
Tells A base (MirLowerError.TypeError reason) = Unit {0}
Tells A base MirLowerError.UnresolvedField = Unit {0}
Tells A base MirLowerError.NotSupported = Unit {0}
Tells A base MirLowerError.Ellipsis = Unit {0}
Tells A base MirLowerError.UnsizedTemporary = Unit {0}
Tells A base MirLowerError.InaccessibleLocal = Unit {0}
Tells A base MirLowerError.Expr = Unit {0}
Tells A base MirLowerError.Limit = A → ⊥
Tells A base MirLowerError.PlaceType = Unit {0}
Tells A base MirLowerError.UnresolvedName = Unit {0}
Tells A base MirLowerError.NoScope = length base.ctx.state.scopes ≡ 0

-- Q holds of a walk's answer, if there is one, and a refusal tells that
pub record Sound (A : Type 0) (base : Origin) {X : Type 0} (Q : X → Type 0) (w : Walk X) : Type 0 where
  pub at : (x : X) → w ≡ ok x → Q x
  pub stop : (e : MirLowerError) (p : ℕ) → w ≡ refused e p → Tells A base e

-- the same of a step
pub record Sure (A : Type 0) (base : Origin) {X : Type 0} (Q : X → Type 0) (x : Result X) : Type 0 where
  pub at : (a : X) → x ≡ done a → Q a
  pub stop : (e : MirLowerError) → x ≡ stopped e → Tells A base e

-- accepted answers are the same
ok_same : {X : Type 0} {a b : X} → ◌≡◌ {A = Walk X} (ok a) (ok b) → a ≡ b
ok_same e = cc

-- so are those of steps
done_same : {X : Type 0} {a b : X} → ◌≡◌ {A = Result X} (done a) (done b) → a ≡ b
done_same e = cc

-- what is accepted is not refused
ok_refused : {X : Type 0} {a : X} {e : MirLowerError} {p : ℕ} → ◌≡◌ {A = Walk X} (ok a) (refused e p) → ⊥
ok_refused q = let z : ◌≡◌ {A = ℕ} 0 1 = cc in omega arith

-- nor the other way round
refused_ok : {X : Type 0} {a : X} {e : MirLowerError} {p : ℕ} → ◌≡◌ {A = Walk X} (refused e p) (ok a) → ⊥
refused_ok q = let z : ◌≡◌ {A = ℕ} 0 1 = cc in omega arith

-- so it is of steps
done_stopped : {X : Type 0} {a : X} {e : MirLowerError} → ◌≡◌ {A = Result X} (done a) (stopped e) → ⊥
done_stopped q = let z : ◌≡◌ {A = ℕ} 0 1 = cc in omega arith

-- and the other way round
stopped_done : {X : Type 0} {a : X} {e : MirLowerError} → ◌≡◌ {A = Result X} (stopped e) (done a) → ⊥
stopped_done q = let z : ◌≡◌ {A = ℕ} 0 1 = cc in omega arith

-- refusals are the same
refused_same : {X : Type 0} {e e' : MirLowerError} {p p' : ℕ} → ◌≡◌ {A = Walk X} (refused e p) (refused e' p') → e ≡ e'
refused_same q = cc

-- so are those of steps
stopped_same : {X : Type 0} {e e' : MirLowerError} → ◌≡◌ {A = Result X} (stopped e) (stopped e') → e ≡ e'
stopped_same q = cc

-- an answer
pub sound_ok : {A : Type 0} {base : Origin} {X : Type 0} (Q : X → Type 0) (a : X) → Q a → Sound A base Q (ok a)
sound_ok Q a q = record { at = λ b e. subst Q (ok_same e) q; stop = λ e p r. absurd (ok_refused r) }

-- a refusal
pub sound_refused : {A : Type 0} {base : Origin} {X : Type 0} (Q : X → Type 0) (e : MirLowerError) (p : ℕ) → Tells A base e → Sound A base Q (refused e p)
sound_refused {A = A} {base = base} Q e p l = record { at = λ a r. absurd (refused_ok r); stop = λ e' p' r. subst (Tells A base) (refused_same r) l }

-- a step's answer
pub sure_done : {A : Type 0} {base : Origin} {X : Type 0} (Q : X → Type 0) (a : X) → Q a → Sure A base Q (done a)
sure_done Q a q = record { at = λ b e. subst Q (done_same e) q; stop = λ e r. absurd (done_stopped r) }

-- a step's refusal
pub sure_stopped : {A : Type 0} {base : Origin} {X : Type 0} (Q : X → Type 0) (e : MirLowerError) → Tells A base e → Sure A base Q (stopped e)
sure_stopped {A = A} {base = base} Q e l = record { at = λ a r. absurd (stopped_done r); stop = λ e' r. subst (Tells A base) (stopped_same r) l }

-- a walk, and then what follows it
pub sound_next : {A : Type 0} {base : Origin} {X Y : Type 0} {P : X → Type 0} {Q : Y → Type 0} (w : Walk X) (k : X → Walk Y) → Sound A base P w → ((a : X) → P a → Sound A base Q (k a)) → Sound A base Q (next w k)
sound_next (ok a) k h then = then a (h.at a refl)
sound_next {Q = Q} (refused e p) k h then = sound_refused Q e p (h.stop e p refl)

-- a step, and then what follows it
pub sound_step : {A : Type 0} {base : Origin} {X Y : Type 0} {P : X → Type 0} {Q : Y → Type 0} (p : ℕ) (x : Result X) (k : X → Walk Y) → Sure A base P x → ((a : X) → P a → Sound A base Q (k a)) → Sound A base Q (step p x k)
sound_step p (done a) k h then = then a (h.at a refl)
sound_step {Q = Q} p (stopped e) k h then = sound_refused Q e p (h.stop e refl)

-- a step, and then another
pub sure_then : {A : Type 0} {base : Origin} {X Y : Type 0} {P : X → Type 0} {Q : Y → Type 0} (x : Result X) (k : X → Result Y) → Sure A base P x → ((a : X) → P a → Sure A base Q (k a)) → Sure A base Q (and_then x k)
sure_then (done a) k h then = then a (h.at a refl)
sure_then {Q = Q} (stopped e) k h then = sure_stopped Q e (h.stop e refl)

-- what follows from what holds
pub sound_as : {A : Type 0} {base : Origin} {X : Type 0} {P Q : X → Type 0} {w : Walk X} → ((a : X) → P a → Q a) → Sound A base P w → Sound A base Q w
sound_as f h = record { at = λ a e. f a (h.at a e); stop = h.stop }

-- what holds of every answer holds of this one, too
pub sound_and : {A : Type 0} {base : Origin} {X : Type 0} {P Q : X → Type 0} {w : Walk X} → Sound A base P w → Holds Q w → Sound A base (λ a. P a × Q a) w
sound_and h k = record { at = λ a e. (h.at a e, k.at a e); stop = h.stop }

-- the same of a step
pub sure_and : {A : Type 0} {base : Origin} {X : Type 0} {P Q : X → Type 0} {x : Result X} → Sure A base P x → Gives Q x → Sure A base (λ a. P a × Q a) x
sure_and h k = record { at = λ a e. (h.at a e, k.at a e); stop = h.stop }
