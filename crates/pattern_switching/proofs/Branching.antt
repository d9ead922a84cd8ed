-- The blocks of a test: one that goes on and an else, in either order, and then the test's end. Assumes nothing.
use Rattle.std.specs.Prelude.{Some, None, Ok, Err}
use mathlib.Core.Path.{◌≡◌, refl, ap, ◌∙◌}
use mathlib.Core.Logic.{inl, inr}
use mathlib.Core.List.{List}
use Prim.Native.Nat.{ℕ, ◌<◌}
use native.Mathlib.Nat.{le_refl, le_trans}
use Rattle.refusals.specs.declared.MirLowerError.{MirLowerError}
use Rattle.refusals.specs.Refusals.{Result}
use Rattle.image.specs.declared.PatId.{PatId}
use Rattle.mir.specs.declared.BasicBlockId.{BasicBlockId}
use Rattle.mir.specs.declared.Counts.{Counts}
use Rattle.mir.specs.Results.{NewBlock}
use Rattle.mir.specs.Blocks.{new_block}
use Rattle.state.specs.State.{Body, State, decode}
use Rattle.state.specs.Steps.{next_block, try_block}
use Rattle.state.specs.Promises.{Ready, Grown, Answers, stepped_result, stepped_counts}
use Rattle.state.specs.Results.{Stepped}
use Rattle.state.proofs.Answering.{grown_refl, grown_trans, next_block_lem}
use Rattle.state.proofs.Calls.{block_counts, block_result, block_number}
use Rattle.body_tables.proofs.Building as building
use Rattle.lower_spec.specs.Results.{OptBlock}
use Rattle.pattern_matching.specs.Walking.{Ctx, Out, Walk, step, out, with_state, else_state, else_block}
use Rattle.pattern_walk_spec.specs.Results.{Lowered}
use Rattle.pattern_walk_spec.specs.Answers.{Begins, ctx_of, walk_of, lowered_counts, Onward, OnwardBy, Lowers}
use Rattle.pattern_walk_spec.proofs.Following.{step_then, step_stops, stays, answers_by, onward_trans, onward_refl, onward_grown, block_made, block_onward}
use Rattle.pattern_switching.specs.Switching.{else_made, Steps}

-- `else_block`: what it answers, which block it is, and that a walk has it as its else
pub else_answers : (t : Body) (c : Counts) (current : ℕ) (els : OptBlock) {r : NewBlock} → r ≡ else_made c els → Ready t c →
    Answers t c current t (block_counts r) (block_result r t) (else_state (decode t c) els)
unfolding else_made else_state
else_answers t c current (Some b) is R = rw is (stays _ R)
else_answers t c current None is R = building.block_made t c current is R

pub else_number : (c : Counts) (els : OptBlock) {c₁ : Counts} {m : BasicBlockId} → Some (c₁, m) ≡ else_made c els → (b : Body) → m ≡ else_block (decode b c) els
unfolding else_made else_block
else_number c (Some x) {c₁ = c₁} {m = m} is b =
    let same : ◌≡◌ {A = Counts × BasicBlockId} (c₁, m) (c, x) = cc in
    ap (λ (made : Counts × BasicBlockId). made.1) same
else_number c None is b = block_number c is ∙ next_block_lem b c

pub else_onward : (c : Counts) (els : OptBlock) {c₁ : Counts} {m current : BasicBlockId} → Some (c₁, m) ≡ else_made c els → Begins c current els →
    Grown c c₁ × Onward c current els c₁ current (Some m)
unfolding else_made
else_onward c (Some x) {c₁ = c₁} {m = m} is h =
    let same : ◌≡◌ {A = Counts × BasicBlockId} (c₁, m) (c, x) = cc in
    let counts : c₁ ≡ c = ap (λ (made : Counts × BasicBlockId). made.0) same in
    let number : m ≡ x = ap (λ (made : Counts × BasicBlockId). made.1) same in
    rw (counts, number) (grown_refl c, onward_refl h)
else_onward c None is h =
    let new = block_onward c is h in
    (new.0, record { own = inl refl; own_else = inr (rw (block_made c is).1 (le_refl c.blocks)); begins = record { start = (onward_grown new.0 h).begins.start; else = new.1.begins.start } })

-- both blocks are made, the one that goes on before the else, or the else before it
pub then_else_made : {t : Body} {c c₁ c₂ : Counts} {current on other : BasicBlockId} {els : OptBlock} → Some (c₁, on) ≡ new_block c → Some (c₂, other) ≡ else_made c₁ els → Ready t c → Begins c current els →
    Ready t c₂ × (current.0 < c₂.blocks)
then_else_made {t = t} {c = c} {c₁ = c₁} {current = current} {els = els} is made P h =
    let F = building.block_made t c current.0 is P in
    let S = else_answers t c₁ current.0 els made F.goes.0 in
    (S.goes.0, le_trans h.start (le_trans F.goes.1.blocks S.goes.1.blocks))

pub else_then_made : {t : Body} {c c₁ c₂ : Counts} {current on other : BasicBlockId} {els : OptBlock} → Some (c₁, other) ≡ else_made c els → Some (c₂, on) ≡ new_block c₁ → Ready t c → Begins c current els →
    Ready t c₂ × (current.0 < c₂.blocks)
else_then_made {t = t} {c = c} {c₁ = c₁} {current = current} {els = els} made is P h =
    let F = else_answers t c current.0 els made P in
    let S = building.block_made t c₁ current.0 is F.goes.0 in
    (S.goes.0, le_trans h.start (le_trans F.goes.1.blocks S.goes.1.blocks))

-- an answer by how a step ended
abbrev pub lowered_by : PatId → BasicBlockId → BasicBlockId → Stepped → Lowered
lowered_by p then other (Ok c) = Ok (c, then, Some other)
lowered_by p then other (Err e) = Err (e, p)

abbrev pub GrownTo : Counts → Stepped → Type 0
GrownTo c (Ok c') = Grown c c'
GrownTo c (Err e) = Unit

pub grown_to : {t t' : Body} {c : Counts} {current : BasicBlockId} (defined : State → Result State) (r : Stepped) → Ready t c → Steps defined c current t r t' → GrownTo c r
grown_to defined (Ok c') P E = (E P).goes.1
grown_to defined (Err e) P E = tt

-- the test's end is a step from the state, the block that goes on and the else
module _ (p : PatId) (end : State → BasicBlockId → BasicBlockId → Result State) (els : OptBlock) where
  abbrev last : Ctx → BasicBlockId → BasicBlockId → State → Walk Out
  last ctx then other st = out (with_state ctx st) then (Some other)

  abbrev ended : Ctx → BasicBlockId → BasicBlockId → State → Walk Out
  ended ctx then other st = step p.0 (end st then other) (last ctx then other)

  -- the block that goes on is made before an else
  abbrev behind_then : Ctx → BasicBlockId → State → Walk Out
  behind_then ctx then st = step p.0 (else_state st els) (ended ctx then (else_block st els))

  abbrev pub then_else : Ctx → Walk Out
  then_else ctx = step p.0 (try_block ctx.state) (behind_then ctx (next_block ctx.state))

  -- an else is made before the block that goes on
  abbrev behind_else : Ctx → BasicBlockId → State → Walk Out
  behind_else ctx other st = step p.0 (try_block st) (ended ctx (next_block st) other)

  abbrev pub else_then : Ctx → Walk Out
  else_then ctx = step p.0 (else_state ctx.state els) (behind_else ctx (else_block ctx.state els))

  -- the end, and what is answered by it
  end_answers : {b : Body} {c : Counts} {current : ℕ} {defined : Result State} (b' : Body) (ctx : Ctx) (then other : BasicBlockId) (r : Stepped) →
      Answers b c current b' (stepped_counts r) (stepped_result r b') defined →
      Answers b c current b' (lowered_counts (lowered_by p then other r)) (walk_of (lowered_by p then other r) b' ctx.visits) (step p.0 defined (last ctx then other))
  end_answers b' ctx then other (Ok c') T = step_then p.0 (last ctx then other) T (inl refl) (stays _ T.goes.0)
  end_answers b' ctx then other (Err e) T = step_stops p.0 (last ctx then other) T

  -- where it goes on
  end_onward : (c c₂ : Counts) (current then other : BasicBlockId) (r : Stepped) → Grown c c₂ → Onward c current els c₂ then (Some other) → GrownTo c₂ r →
      OnwardBy c current els (lowered_by p then other r)
  end_onward c c₂ current then other (Ok c₃) G O grown = onward_trans G O (onward_grown grown O.begins)
  end_onward c c₂ current then other (Err e) G O grown = tt

  -- t is the body at entry
  module _ (t : Body) (c : Counts) (current : BasicBlockId) where
    -- there is no room for the block that goes on, or for the else
    pub then_full : None ≡ new_block c → Lowers then_else c current els t (Err (MirLowerError.Limit, p)) t
    then_full full =
        record {
          answers = λ visits R.
              let b = t in
              step_stops p.0 (behind_then (ctx_of b c visits) (next_block (decode b c))) (building.block_made t c current.0 full R);
          onward = tt;
        }

    pub else_full : None ≡ else_made c els → Lowers else_then c current els t (Err (MirLowerError.Limit, p)) t
    else_full full =
        record {
          answers = λ visits R.
              let b = t in
              step_stops p.0 (behind_else (ctx_of b c visits) (else_block (decode b c) els)) (else_answers t c current.0 els full R);
          onward = tt;
        }

    -- the block that goes on is there
    module _ {c₁ : Counts} {then : BasicBlockId} (is : Some (c₁, then) ≡ new_block c) where
      -- what follows it
      then_answers : (r : Lowered) (t' : Body) (visits : List ℕ) → Ready t c →
          (Ready t c₁ → Answers t c₁ current.0 t' (lowered_counts r) (walk_of r t' visits) (behind_then (ctx_of t c visits) then (decode t c₁))) →
          Answers t c current.0 t' (lowered_counts r) (walk_of r t' visits) (then_else (ctx_of t c visits))
      then_answers r t' visits R follows =
          let b = t in
          let ctx = ctx_of b c visits in
          let F = building.block_made t c current.0 is R in
          answers_by (ap (λ (m : BasicBlockId). step p.0 (try_block (decode b c)) (behind_then ctx m)) (block_number c is ∙ next_block_lem b c))
          (step_then p.0 (behind_then ctx then) F (inl refl) (follows F.goes.0))

      -- there is no room for an else
      pub then_else_full : None ≡ else_made c₁ els → Lowers then_else c current els t (Err (MirLowerError.Limit, p)) t
      then_else_full full =
          record {
            answers = λ visits R.
                let b = t in
                then_answers (Err (MirLowerError.Limit, p)) t visits R (λ Q. step_stops p.0 (ended (ctx_of b c visits) then (else_block (decode b c₁) els)) (else_answers t c₁ current.0 els full Q));
            onward = tt;
          }

      module _ {c₂ : Counts} {other : BasicBlockId} (made : Some (c₂, other) ≡ else_made c₁ els) where
        -- and the test ends
        pub then_else_ends : {t' : Body} (r : Stepped) → Begins c current els → GrownTo c₂ r → Steps (λ st. end st then other) c₂ current t r t' →
            Lowers then_else c current els t (lowered_by p then other r) t'
        then_else_ends {t' = t'} r h grown E =
            let new = block_onward c is h in
            let new₂ = else_onward c₁ els made new.1.begins in
            record {
              answers = λ visits R.
                  let b = t in
                  let ctx = ctx_of b c visits in
                  then_answers (lowered_by p then other r) t' visits R (λ Q.
                  let S = else_answers t c₁ current.0 els made Q in
                  answers_by (ap (λ (m : BasicBlockId). step p.0 (else_state (decode b c₁) els) (ended ctx then m)) (else_number c₁ els made b))
                  (step_then p.0 (ended ctx then other) S (inl refl) (end_answers t' ctx then other r (E S.goes.0))));
              onward = end_onward c c₂ current then other r (grown_trans new.0 new₂.0) (onward_trans new.0 new.1 new₂.1) grown;
            }

    -- the else is there
    module _ {c₁ : Counts} {other : BasicBlockId} (made : Some (c₁, other) ≡ else_made c els) where
      -- what follows it
      elsewhere_answers : (r : Lowered) (t' : Body) (visits : List ℕ) → Ready t c →
          (Ready t c₁ → Answers t c₁ current.0 t' (lowered_counts r) (walk_of r t' visits) (behind_else (ctx_of t c visits) other (decode t c₁))) →
          Answers t c current.0 t' (lowered_counts r) (walk_of r t' visits) (else_then (ctx_of t c visits))
      elsewhere_answers r t' visits R follows =
          let b = t in
          let ctx = ctx_of b c visits in
          let F = else_answers t c current.0 els made R in
          answers_by (ap (λ (m : BasicBlockId). step p.0 (else_state (decode b c) els) (behind_else ctx m)) (else_number c els made b))
          (step_then p.0 (behind_else ctx other) F (inl refl) (follows F.goes.0))

      -- there is no room for the block that goes on
      pub else_then_full : None ≡ new_block c₁ → Lowers else_then c current els t (Err (MirLowerError.Limit, p)) t
      else_then_full full =
          record {
            answers = λ visits R.
                let b = t in
                elsewhere_answers (Err (MirLowerError.Limit, p)) t visits R (λ Q. step_stops p.0 (ended (ctx_of b c visits) (next_block (decode b c₁)) other) (building.block_made t c₁ current.0 full Q));
            onward = tt;
          }

      module _ {c₂ : Counts} {then : BasicBlockId} (is : Some (c₂, then) ≡ new_block c₁) where
        -- and the test ends
        pub else_then_ends : {t' : Body} (r : Stepped) → Begins c current els → GrownTo c₂ r → Steps (λ st. end st then other) c₂ current t r t' →
            Lowers else_then c current els t (lowered_by p then other r) t'
        else_then_ends {t' = t'} r h grown E =
            let new = else_onward c els made h in
            let new₂ = block_onward c₁ is new.1.begins in
            record {
              answers = λ visits R.
                  let b = t in
                  let ctx = ctx_of b c visits in
                  elsewhere_answers (lowered_by p then other r) t' visits R (λ Q.
                  let S = building.block_made t c₁ current.0 is Q in
                  answers_by (ap (λ (m : BasicBlockId). step p.0 (try_block (decode b c₁)) (ended ctx m other)) (block_number c₁ is ∙ next_block_lem b c₁))
                  (step_then p.0 (ended ctx then other) S (inl refl) (end_answers t' ctx then other r (E S.goes.0))));
              onward = end_onward c c₂ current then other r (grown_trans new.0 new₂.0) (onward_trans new.0 new.1 new₂.1) grown;
            }
