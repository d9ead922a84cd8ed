-- Walks that grow a body well, and how they are put together. Assumes nothing.
use Prim.Native.Nat.{ℕ, zero, suc}
use native.Mathlib.Omega.{arith}
use mathlib.Core.Path.{◌≡◌, refl, subst, ◌∙◌}
use mathlib.Core.Bool.{Bool, true, false, cond}
use mathlib.Core.Option.{Option, none, some}
use mathlib.Core.List.{List, [], ◌∷◌, reverse, reverse_aux}
use lib.ListN.{take, drop}
use Rattle.image.specs.Types.{Shape}
use Rattle.refusals.specs.declared.MirLowerError.{MirLowerError}
use Rattle.refusals.specs.Refusals.{Result}
use Rattle.refusals.specs.Refusals.{done, stopped}
use Rattle.place.specs.declared.Place.{Place}
use Rattle.place.specs.declared.elems.ProjectionElem.{ProjectionElem}
use Rattle.mir.specs.declared.BasicBlockId.{BasicBlockId}
use Rattle.state.specs.State.{State}
use Rattle.lower_spec.specs.Results.{OptBlock}
use Rattle.pattern_matching.specs.declared.MatchingMode.{MatchingMode}
use Rattle.pattern_matching.specs.Walking.{Ctx, Out, Walk, ok, refused, Lowering, next, step, out, project, visited, derefed, entered, in_check}
use Rattle.pattern_matching.specs.Variants.{needed}
use Rattle.growth.specs.Opened.{Ready, Leaves}
use Rattle.growth.proofs.Opening.{Adds, adds_same}
use Rattle.growth.proofs.Leaving.{result, leaves_lines, leaves_seq}

-- a mode that makes no test
abbrev pub Beyond : MatchingMode → Type 0
Beyond MatchingMode.Check = ⊥
Beyond MatchingMode.Bind = Unit {0}
Beyond MatchingMode.Assign = Unit {0}

-- what is refused is not accepted
pub not_ok : {A : Type 0} {x : MirLowerError} {p : ℕ} {r : A} → refused x p ≡ ok r → ⊥
not_ok e = let z : ◌≡◌ {A = ℕ} 0 1 = cc in omega arith

-- what is accepted is one thing
pub ok_is : {A : Type 0} {a b : A} → ok a ≡ ok b → a ≡ b
ok_is e = cc

-- what a walk gave, and what followed it
pub walked : {A B C : Type 0} (w : Walk A) (k : A → Walk B) {b : B} → next w k ≡ ok b → ((a : A) → w ≡ ok a → k a ≡ ok b → C) → C
walked (ok a) k e f = f a refl e
walked (refused x p) k e f = absurd (not_ok e)

-- what a walk from the block c of a state leaves, if it is accepted; and beyond Check its else is the one supplied
pub record Good (mode : MatchingMode) (st : State) (c : BasicBlockId) (els : OptBlock) (w : Walk Out) : Type 0 where
  pub leaves : Ready st c els → (r : Out) → w ≡ ok r → Leaves st c els r
  pub keeps : Beyond mode → (r : Out) → w ≡ ok r → r.else ≡ els

module _ {mode : MatchingMode} {st : State} {c : BasicBlockId} {els : OptBlock} where
  -- a walk that is refused
  pub good_refused : (x : MirLowerError) (p : ℕ) → Good mode st c els (refused x p)
  good_refused x p = record { leaves = λ h r e. absurd (not_ok e); keeps = λ b r e. absurd (not_ok e) }

  -- a walk that is accepted
  pub good_ok : (r : Out) → (Ready st c els → Leaves st c els r) → (Beyond mode → r.else ≡ els) → Good mode st c els (ok r)
  good_ok r l k =
      record {
        leaves = λ h r' e. subst (λ (x : Out). Leaves st c els x) (ok_is e) (l h);
        keeps = λ b r' e. subst (λ (x : Out). x.else ≡ els) (ok_is e) (k b);
      }

  -- lines at the end of the block
  pub good_lines : {st₁ : State} (v : List ℕ) → Adds st c.0 st₁ → Good mode st c els (ok (result st₁ v c els))
  good_lines {st₁} v a = good_ok (result st₁ v c els) (λ h. leaves_lines h a) (λ b. refl)

  -- a walk, and then what follows it
  pub good_next : (w : Walk Out) (k : Out → Walk Out) → Good mode st c els w → ((r : Out) → Good mode r.ctx.state r.then r.else (k r)) → Good mode st c els (next w k)
  good_next (ok r) k g h =
      record {
        leaves = λ p r' e. let q = g.leaves p r refl in leaves_seq r r' q ((h r).leaves q.ready r' e);
        keeps = λ b r' e. (h r).keeps b r' e ∙ g.keeps b r refl;
      }
  good_next (refused x p) k g h = good_refused x p

  -- a step, and then what follows it
  pub good_step : {A : Type 0} (p : ℕ) (x : Result A) (k : A → Walk Out) → ((a : A) → x ≡ done a → Good mode st c els (k a)) → Good mode st c els (step p x k)
  good_step p (done a) k h = h a refl
  good_step p (stopped x) k h = good_refused x p

  -- what needs the type of a place
  pub good_needed : (p : ℕ) (x : Option Shape) (k : Shape → Walk Out) → ((s : Shape) → Good mode st c els (k s)) → Good mode st c els (needed p x k)
  good_needed p none k h = good_refused MirLowerError.PlaceType p
  good_needed p (some s) k h = h s

  -- one of two walks
  pub good_cond : (b : Bool) (w w' : Walk Out) → Good mode st c els w → Good mode st c els w' → Good mode st c els (cond b w w')
  good_cond true w w' g h = g
  good_cond false w w' g h = h

  -- references crossed
  pub good_derefed : (p n : ℕ) (place : Place) (k : Place → Walk Out) → ((place : Place) → Good mode st c els (k place)) → Good mode st c els (derefed p place k n)
  unfolding derefed
  good_derefed p zero place k h = h place
  good_derefed p (suc n) place k h = good_step p (project place ProjectionElem.Deref) _ (λ place' e. good_derefed p n place' k h)

-- nothing done
pub good_out : {mode : MatchingMode} (ctx : Ctx) (c : BasicBlockId) (els : OptBlock) → Good mode ctx.state c els (out ctx c els)
good_out ctx c els = good_lines ctx.visits (adds_same ctx.state c.0)

-- what only a walk in Check does
pub good_check : {st : State} {c : BasicBlockId} {els : OptBlock} (mode : MatchingMode) (test skip : Walk Out) → Good MatchingMode.Check st c els test →
    (Beyond mode → Good mode st c els skip) → Good mode st c els (in_check mode test skip)
good_check MatchingMode.Check test skip g h = g
good_check MatchingMode.Bind test skip g h = h tt
good_check MatchingMode.Assign test skip g h = h tt

-- a lowering that grows a body well from every block, in every mode
abbrev pub Grows : Lowering → Type 0
Grows l = (mode : MatchingMode) (ctx : Ctx) (c : BasicBlockId) (els : OptBlock) (place : Place) → Good mode ctx.state c els (l mode ctx c els place)

-- one that refuses always
pub refuses : (x : MirLowerError) (p : ℕ) → Grows (λ mode ctx c els place. refused x p)
refuses x p mode ctx c els place = good_refused x p

-- a pattern is entered
pub grows_entered : (p n : ℕ) (l : Lowering) → Grows l → Grows (entered p n l)
unfolding entered visited
grows_entered p n l g mode ctx c els place = good_derefed p n place (l mode (visited ctx p) c els) (λ place'. g mode (visited ctx p) c els place')

-- lowerings that all do
abbrev pub AllGrow : List Lowering → Type 0
AllGrow [] = Unit {0}
AllGrow (l ∷ ls) = Grows l × AllGrow ls

-- the first of them
pub all_take : (n : ℕ) (ls : List Lowering) → AllGrow ls → AllGrow (take n ls)
all_take zero ls h = tt
all_take (suc n) [] h = tt
all_take (suc n) (l ∷ ls) h = (h.0, all_take n ls h.1)

-- the others
pub all_drop : (n : ℕ) (ls : List Lowering) → AllGrow ls → AllGrow (drop n ls)
all_drop zero ls h = h
all_drop (suc n) [] h = tt
all_drop (suc n) (l ∷ ls) h = all_drop n ls h.1

-- from the last on
pub all_reverse : (ls : List Lowering) → AllGrow ls → AllGrow (reverse ls)
all_reverse ls h = go ls [] h tt
  where
    go : (ls rs : List Lowering) → AllGrow ls → AllGrow rs → AllGrow (reverse_aux ls rs)
    go [] rs h k = k
    go (l ∷ ls) rs h k = go ls (l ∷ rs) h.1 (h.0, k)
