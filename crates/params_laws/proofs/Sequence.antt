-- The locals are made, and then the parameters are lowered: a law for each way through the code. Assumes nothing.
use Rattle.std.specs.Prelude.{Some, None, Ok, Err}
use Prim.Native.Nat.{ℕ, ◌+◌, ◌≤◌, ◌<◌}
use mathlib.Core.Path.{◌≡◌, refl, sym, ap, ◌∙◌}
use mathlib.Core.Logic.{inl}
use mathlib.Core.List.{List}
use native.Mathlib.Nat.{le_trans}
use native.Mathlib.Omega.{arith}
use lib.ListN.{length}
use Rattle.refusals.specs.declared.MirLowerError.{MirLowerError}
use Rattle.refusals.specs.Refusals.{no_pattern}
use Rattle.image.specs.declared.Tables.{Tables}
use Rattle.mir.specs.declared.BasicBlockId.{BasicBlockId}
use Rattle.mir.specs.declared.Counts.{Counts}
use Rattle.state.specs.State.{Body, decode}
use Rattle.state.specs.Promises.{Ready}
use Rattle.state.proofs.Answering.{local_count}
use Rattle.pattern_matching.specs.Walking.{Ctx, Out, Walk, ok, with_state}
use Rattle.pattern_walk_spec.specs.Results.{Lowered}
use Rattle.pattern_walk_spec.specs.Answers.{ctx_of, Holds, Walks}
use Rattle.pattern_walk_spec.proofs.Following.{step_then, step_stops, next_then, next_stops, stays, answers_by}
use Rattle.params_spec.specs.Results.{SelfParam}
use Rattle.params_spec.specs.Params.{ParamsOut, declare, lower_params, self_count, lower_all, lower_params_and_bindings}
use Rattle.params_spec.specs.Calls.{params_of}
use Rattle.param_locals.specs.Declaring.{Declarable, Declares}
use Rattle.params_laws.specs.Walking.{Startable, ParamsWalkable, ParamsWalked, WalksParams}
use Rattle.params_laws.proofs.Typing.{declared_placed}

-- what `declare` asks for
pub declare_asked : {image : List ℕ} {tables : Tables} {words : List ℕ} {self : SelfParam} {m : List ℕ} {b : Body} {c : Counts} {current : BasicBlockId} →
    Startable image tables words self m b c current → Declarable image tables m
declare_asked A = record { image_valid = A.image_valid; whole = A.whole; bindings = A.locals_of_bindings }

-- the locals are made: m₀ lay in the bindings' table before and m₁ does now, and b₀ was the body and b₁ is
module _ (image : List ℕ) {tables : Tables} (words : List ℕ) (self : SelfParam) {m₀ : List ℕ} {b₀ : Body} {c : Counts} {current : BasicBlockId}
    (A : Startable image tables words self m₀ b₀ c current) {c₁ : Counts} {m₁ : List ℕ} {b₁ : Body} (D : Declares (declare image self (params_of words)) c m₀ b₀ (Ok c₁) m₁ b₁) where
  -- the body may be gone on with
  made_ready : Ready b₁ c₁
  made_ready = (D.answers 0 A.ready).goes.0

  made_start : current.0 < c₁.blocks
  made_start = le_trans A.start (D.answers 0 A.ready).goes.1.blocks

  -- what `lower_params` asks for
  pub params_asked : length m₁ ≡ length m₀ → ParamsWalkable image tables words m₁ b₁ c₁ current (c.locals + self_count self)
  params_asked same =
      record {
        image_valid = A.image_valid;
        whole = A.whole;
        list = A.list;
        locals_of_bindings = same ∙ A.locals_of_bindings;
        ready = made_ready;
        start = made_start;
        placed = declared_placed image words self A.list A.ready D;
      }

  -- there is room for the number of the first parameter's local
  pub first_small : c.locals + self_count self ≤ 513
  unfolding self_count
  first_small = go self
    where
      go : (x : SelfParam) → c.locals + self_count x ≤ 513
      go None = omega (arith, A.ready.local_count)
      go (Some (b, ty)) = omega (arith, A.ready.local_count)

  -- the parameters
  abbrev lowering : Ctx → Walk Out
  lowering ctx = lower_params image m₁ (params_of words) (c.locals + self_count self) ctx current

  -- what comes of them
  abbrev together : Out → Walk ParamsOut
  together r = ok (record { ctx = r.ctx; then = r.then; bindings = m₁ })

  -- v₀ lies in the visits' table
  module _ {v₀ : List ℕ} where
    -- after them
    all_walked : {t : Body} {v : List ℕ} (r : Lowered) → Walks lowering c₁ current None b₁ v₀ r t v → (visits : List ℕ) → Ready b₁ c₁ → Holds v₀ visits →
        ParamsWalked (λ ctx. lower_all image m₁ self (params_of words) c.locals ctx current) c₁ current b₁ visits r t v m₁
    unfolding lower_all
    all_walked (Ok (c₂, then, els)) W visits R H =
        let F = W.answers visits R H in
        record { visits' = F.visits'; holds = F.holds; answers = next_then together F.answers (inl refl) (stays _ F.answers.goes.0) }
    all_walked (Err (err, p)) W visits R H =
        let F = W.answers visits R H in
        record { visits' = F.visits'; holds = F.holds; answers = next_stops together F.answers }

    -- the locals were made, and the parameters follow
    pub params_follow : {t : Body} {v : List ℕ} {r : Lowered} → Walks lowering c₁ current None b₁ v₀ r t v →
        WalksParams (λ ctx. lower_params_and_bindings image self (params_of words) m₀ ctx current) c current b₀ v₀ r t v m₁
    unfolding lower_params_and_bindings
    params_follow {r = r} W =
        record {
          answers = λ visits R H.
              let F = D.answers current.0 R in
              let G = all_walked r W visits F.goes.0 H in
              let ctx = ctx_of b₀ c visits in
              record {
                visits' = G.visits';
                holds = G.holds;
                answers = step_then no_pattern
                    (λ d. lower_all image d.bindings self (params_of words) (length (decode b₀ c).locals) (with_state ctx d.state) current) F (inl refl)
                    (answers_by
                    (ap (λ (n : ℕ). lower_all image m₁ self (params_of words) n (ctx_of b₁ c₁ visits) current) (sym (local_count b₀ c R)))
                    G.answers);
              };
        }

-- a local is refused
pub declare_stops : (image words : List ℕ) (self : SelfParam) {m₀ : List ℕ} {b₀ : Body} (v₀ : List ℕ) {c : Counts} {current : BasicBlockId} {err : MirLowerError} {m₁ : List ℕ} {b₁ : Body} →
    Declares (declare image self (params_of words)) c m₀ b₀ (Err err) m₁ b₁ →
    WalksParams (λ ctx. lower_params_and_bindings image self (params_of words) m₀ ctx current) c current b₀ v₀ (Err (err, record { 0 = 65535 })) b₁ v₀ m₁
unfolding lower_params_and_bindings
declare_stops image words self {b₀ = b₀} v₀ {c = c} {current = current} D =
    record {
      answers = λ visits R H.
          record {
            visits' = visits;
            holds = H;
            answers = step_stops no_pattern
                (λ d. lower_all image d.bindings self (params_of words) (length (decode b₀ c).locals) (with_state (ctx_of b₀ c visits) d.state) current)
                (D.answers current.0 R);
          };
    }
