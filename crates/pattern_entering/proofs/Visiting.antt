-- A pattern is entered: visits, derefs and one element more of a place. Assumes nothing.
use Rattle.std.specs.Prelude.{Err}
use Prim.Native.Nat.{ℕ, zero, suc, ◌+◌, ◌-◌, ◌≤◌, ◌<◌}
use mathlib.Core.Path.{◌≡◌, refl, sym, ap, ap₂, ◌∙◌}
use mathlib.Core.Bool.{Bool, true, false, cond}
use mathlib.Core.List.{List, [], ◌∷◌, map}
use native.Mathlib.Omega.{arith}
use borrow.Author.Tests.{lt-ltb, le-ltb, ltb-true, ltb-false}
use lib.Dec.{ltb}
use lib.ListN.{get_or, set}
use lib.Seq.{set-get_or}
use Rattle.image.specs.declared.PatId.{PatId}
use Rattle.refusals.specs.declared.MirLowerError.{MirLowerError}
use Rattle.refusals.specs.Refusals.{Result, done, stopped, and_then}
use Rattle.place.specs.declared.Place.{Place}
use Rattle.place.specs.declared.Projected.{Projected}
use Rattle.place.specs.declared.elems.ProjectionElem.{ProjectionElem}
use Rattle.place.specs.Places.{onward, Projects}
use Rattle.mir.specs.declared.Counts.{Counts}
use Rattle.mir.specs.declared.BasicBlockId.{BasicBlockId}
use Rattle.state.proofs.Answering.{kept_refl}
use Rattle.lower_spec.specs.Results.{OptBlock}
use Rattle.pattern_matching.specs.declared.MatchingMode.{MatchingMode}
use Rattle.pattern_matching.specs.Walking.{Out, Walk, Lowering, step, visited, project, derefed, entered}
use Rattle.pattern_walk_spec.specs.Results.{Lowered}
use Rattle.pattern_walk_spec.specs.Answers.{Placed, ctx_of, visit_word, Holds, Walks}
use Rattle.pattern_walk_spec.proofs.Following.{refuses, answers_by}
use Rattle.pattern_entering.specs.Entering.{one_more, projected_result, derefs_of}
use Rattle.state.specs.State.{Body}

-- `visit`, v being the table before
module _ (v : List ℕ) (p : ℕ) where
  -- the count is raised
  pub visit_counted : get_or v p 0 < 65535 → set v p (get_or v p 0 + 1) ≡ set v p (one_more (get_or v p 0))
  unfolding one_more
  visit_counted h = rw (lt-ltb (get_or v p 0) 65535 h) refl

  -- the word is full
  pub visit_full : 65535 ≤ get_or v p 0 → v ≡ set v p (one_more (get_or v p 0))
  unfolding one_more
  visit_full h = rw (le-ltb (get_or v p 0) 65535 h) (sym (set-get_or v p 0))

-- the word of a count that is raised
word_raised : (n : ℕ) → one_more (visit_word n) ≡ visit_word (n + 1)
unfolding one_more visit_word
word_raised n = go (ltb n 65535) refl (ltb (n + 1) 65535) refl
  where
    go : (t : Bool) → ltb n 65535 ≡ t → (u : Bool) → ltb (n + 1) 65535 ≡ u → one_more (cond t n 65535) ≡ cond u (n + 1) 65535
    go true q true r = rw q refl
    go true q false r = let last : n + 1 ≡ 65535 = omega (arith, ltb-true n 65535 q, ltb-false (n + 1) 65535 r) in rw q last
    go false q true r = absurd (omega (arith, ltb-false n 65535 q, ltb-true (n + 1) 65535 r))
    go false q false r = refl

-- the table after `visit` holds the visits after it
pub visit_holds : (v visits : List ℕ) (p : ℕ) → Holds v visits → Holds (set v p (one_more (get_or v p 0))) (set visits p (get_or visits p 0 + 1))
visit_holds v visits p h = ap (λ (l : List ℕ). set l p (one_more (get_or l p 0))) h ∙ raised visits p
  where
    raised : (visits : List ℕ) (p : ℕ) → set (map visit_word visits) p (one_more (get_or (map visit_word visits) p 0)) ≡ map visit_word (set visits p (get_or visits p 0 + 1))
    raised [] p = refl
    raised (n ∷ visits) zero = ap (λ (w : ℕ). w ∷ map visit_word visits) (word_raised n)
    raised (n ∷ visits) (suc p) = ap (λ (l : List ℕ). visit_word n ∷ l) (raised visits p)

-- one element more, as the definitions have it
pub project_by : (place : Place) (elem : ProjectionElem) {r : Projected} → Projects place elem r → projected_result r ≡ project place elem
unfolding project
project_by place elem P = ap₂ (λ (t : Bool) (q : Place). cond t (done q) (stopped MirLowerError.Limit)) P.room P.is ∙ go (ltb place.len 16)
  where
    go : (t : Bool) → cond t (done (cond t (onward place elem) place)) (stopped MirLowerError.Limit) ≡ cond t (done (onward place elem)) (stopped MirLowerError.Limit)
    go true = refl
    go false = refl

-- there is no room for it
pub project_stops : (place : Place) (elem : ProjectionElem) {r : Projected} → Projects place elem r → r.ok ≡ false → stopped MirLowerError.Limit ≡ project place elem
project_stops place elem {r = r} P e = ap (λ (t : Bool). cond t (done r.place) (stopped MirLowerError.Limit)) (sym e) ∙ project_by place elem P

-- there is
pub project_goes : (place : Place) (elem : ProjectionElem) {r : Projected} → Projects place elem r → r.ok ≡ true → done r.place ≡ project place elem
project_goes place elem {r = r} P e = ap (λ (t : Bool). cond t (done r.place) (stopped MirLowerError.Limit)) (sym e) ∙ project_by place elem P

-- `deref_place`, all but the first i derefs being left
pub deref_begin : (place : Place) (derefs : ℕ) → derefs_of place (derefs - 0) ≡ derefs_of place derefs
deref_begin place derefs = let all : derefs - 0 ≡ derefs = omega arith in ap (derefs_of place) all

module _ (here : Place) (derefs i : ℕ) (more : i < derefs) {r : Projected} (P : Projects here ProjectionElem.Deref r) where
  -- there is no room for one of them
  pub deref_stops : r.ok ≡ false → stopped MirLowerError.Limit ≡ derefs_of here (derefs - i)
  unfolding derefs_of
  deref_stops e =
      let left : derefs - i ≡ suc (derefs - (i + 1)) = omega arith in
      rw left (ap (λ (q : Result Place). and_then q (λ on. derefs_of on (derefs - (i + 1)))) (project_stops here ProjectionElem.Deref P e))

  -- one of them
  pub deref_more : r.ok ≡ true → derefs_of r.place (derefs - (i + 1)) ≡ derefs_of here (derefs - i)
  unfolding derefs_of
  deref_more e =
      let left : derefs - i ≡ suc (derefs - (i + 1)) = omega arith in
      rw left (ap (λ (q : Result Place). and_then q (λ on. derefs_of on (derefs - (i + 1)))) (project_goes here ProjectionElem.Deref P e))

-- none is left
pub deref_end : (here : Place) (derefs i : ℕ) → derefs ≤ i → done here ≡ derefs_of here (derefs - i)
unfolding derefs_of
deref_end here derefs i h = let none : derefs - i ≡ 0 = omega arith in rw none

-- the derefs of a pattern are one step
pub derefed_by : (p : ℕ) (place : Place) (k : Place → Walk Out) (n : ℕ) → derefed p place k n ≡ step p (derefs_of place n) k
unfolding derefed derefs_of
derefed_by p place k zero = refl
derefed_by p place k (suc n) = go (project place ProjectionElem.Deref) (λ onward. derefed_by p onward k n)
  where
    go : (r : Result Place) → ((onward : Place) → derefed p onward k n ≡ step p (derefs_of onward n) k) →
        step p r (λ onward. derefed p onward k n) ≡ step p (and_then r (λ onward. derefs_of onward n)) k
    go (done onward) later = later onward
    go (stopped e) later = refl

-- a place that was reached from another: it has the same local, and at most 16 elements if that had
pub record Reached (from to : Place) : Type 0 where
  pub local : to.local ≡ from.local
  pub within : from.len ≤ 16 → to.len ≤ 16

pub reached_refl : (place : Place) → Reached place place
reached_refl place = record { local = refl; within = λ h. h }

pub reached_trans : {a b c : Place} → Reached a b → Reached b c → Reached a c
reached_trans F S = record { local = S.local ∙ F.local; within = λ h. S.within (F.within h) }

-- one element on
pub project_reaches : (place : Place) (elem : ProjectionElem) {to : Place} → done to ≡ project place elem → Reached place to
unfolding project
project_reaches place elem {to = to} e = go (ltb place.len 16) refl e
  where
    go : (t : Bool) → ltb place.len 16 ≡ t → done to ≡ cond t (done (onward place elem)) (stopped MirLowerError.Limit) → Reached place to
    go true q d = let same : to ≡ onward place elem = cc in rw same (record { local = refl; within = λ h. omega (arith, ltb-true place.len 16 q) })
    go false q d = let z : ◌≡◌ {A = ℕ} 0 1 = cc in absurd (omega arith)

-- so many derefs on
pub derefs_reach : (place : Place) (n : ℕ) {to : Place} → done to ≡ derefs_of place n → Reached place to
unfolding derefs_of
derefs_reach place zero {to = to} e = let same : to ≡ place = cc in rw same (reached_refl place)
derefs_reach place (suc n) {to = to} e = go (project place ProjectionElem.Deref) refl e (λ onward d. derefs_reach onward n d)
  where
    go : (r : Result Place) → r ≡ project place ProjectionElem.Deref → done to ≡ and_then r (λ onward. derefs_of onward n) →
        ((onward : Place) → done to ≡ derefs_of onward n → Reached onward to) → Reached place to
    go (done onward) q d later = reached_trans (project_reaches place ProjectionElem.Deref q) (later onward d)
    go (stopped x) q d later = let z : ◌≡◌ {A = ℕ} 0 1 = cc in absurd (omega arith)

-- what is known of a place's root, of a place that was reached from it
pub reached_placed : {image : List ℕ} {t : Body} {c : Counts} {place to : Place} → Reached place to → Placed image t c place → Placed image t c to
reached_placed R P = record { root = rw R.local P.root; named = rw R.local P.named; within = R.within P.within }

-- the visits' table v after p is visited
abbrev pub visited_in : List ℕ → PatId → List ℕ
visited_in v p = set v p.0 (one_more (get_or v p.0 0))

-- a pattern is entered: v is the visits' table before, and p is visited first
module _ (p : PatId) (derefs : ℕ) (lowering : Lowering) (mode : MatchingMode) (c : Counts) (current : BasicBlockId) (els : OptBlock) (place : Place) (t : Body) (v : List ℕ) where
  -- what lowering it promises
  abbrev pub Enters : Lowered → Body → List ℕ → Type 0
  Enters = Walks (λ ctx. entered p.0 derefs lowering mode ctx current els place) c current els t v

  -- there is no room for its derefs
  pub enter_stops : stopped MirLowerError.Limit ≡ derefs_of place derefs → Enters (Err (MirLowerError.Limit, p)) t (visited_in v p)
  unfolding entered
  enter_stops full = record {
    answers = λ visits R H. record {
      visits' = set visits p.0 (get_or visits p.0 0 + 1);
      holds = visit_holds v visits p.0 H;
      answers = refuses
          (ap (λ (r : Result Place). step p.0 r (lowering mode (visited (ctx_of t c visits) p.0) current els)) full
          ∙ sym (derefed_by p.0 place (lowering mode (visited (ctx_of t c visits) p.0) current els) derefs));
    };
    leaves = λ P. (tt, kept_refl c current.0 t);
    onward = tt;
  }

  -- it is lowered at the place behind them
  pub enter_goes : {to : Place} {r : Lowered} {t₁ : Body} {v₁ : List ℕ} → done to ≡ derefs_of place derefs → Walks (λ ctx. lowering mode ctx current els to) c current els t (visited_in v p) r t₁ v₁ → Enters r t₁ v₁
  unfolding entered visited
  enter_goes there W = record {
    answers = λ visits R H.
        let F = W.answers (set visits p.0 (get_or visits p.0 0 + 1)) R (visit_holds v visits p.0 H) in
        record {
          visits' = F.visits';
          holds = F.holds;
          answers = answers_by
              (ap (λ (r : Result Place). step p.0 r (lowering mode (visited (ctx_of t c visits) p.0) current els)) there
              ∙ sym (derefed_by p.0 place (lowering mode (visited (ctx_of t c visits) p.0) current els) derefs))
              F.answers;
        };
    leaves = W.leaves;
    onward = W.onward;
  }
