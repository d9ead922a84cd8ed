-- A parameter, and the parameters in order: a law for each way through the code, and the invariant of the loop. Assumes nothing.
use Rattle.std.specs.Prelude.{Some, None, Ok, Err}
use Prim.Native.Nat.{ℕ, ◌+◌, ◌-◌, ◌≤◌, ◌<◌}
use mathlib.Core.Path.{◌≡◌, refl}
use mathlib.Core.Bool.{true, false}
use mathlib.Core.Logic.{inl, inr}
use mathlib.Core.List.{List}
use native.Mathlib.Omega.{arith}
use lib.ListN.{length, get_or}
use Rattle.refusals.specs.declared.MirLowerError.{MirLowerError}
use Rattle.image.specs.declared.PatId.{PatId}
use Rattle.image.specs.declared.Tables.{Tables}
use Rattle.image.specs.Tables.{Whole, binding_count}
use Rattle.image.specs.Tree.{tree}
use Rattle.image.specs.Valid.{valid}
use Rattle.place.specs.declared.LocalId.{LocalId}
use Rattle.mir.specs.declared.BasicBlockId.{BasicBlockId}
use Rattle.mir.specs.declared.Counts.{Counts}
use Rattle.state.specs.State.{Body}
use Rattle.state.specs.Promises.{Ready}
use Rattle.lower_spec.specs.Results.{OptBlock}
use Rattle.pattern_matching.specs.Walking.{Ctx, Out, Walk, next, out, local_place}
use Rattle.pattern_matching.specs.Patterns.{pattern_match}
use Rattle.pattern_walk_spec.specs.Results.{Lowered}
use Rattle.pattern_walk_spec.specs.Answers.{OwnElse, OnwardBy, Walks}
use Rattle.pattern_walk_spec.proofs.Sequences.{lowers_skips, lowers_refuses, lowers_walks, walks_by, walks_stops, walks_then, ready_after, placed_after}
use Rattle.pattern_walk_laws.specs.Walk.{Walkable}
use Rattle.params_spec.specs.Params.{shut, lower_param, lower_params}
use Rattle.params_spec.specs.Calls.{params_from, param_count, params_of}
use Rattle.param_lists.proofs.Listing.{params_none, params_more, Listed, list_taken, listed_behind}
use Rattle.param_owning.specs.Owning.{TellsParam}
use Rattle.param_shutting.specs.Shutting.{shut_answer, shut_body}
use Rattle.param_shutting.proofs.Unreached.{shut_walks}
use Rattle.params_laws.specs.Walking.{LocalsPlaced, ParamsWalkable}

-- `lower_param`: the parameter p, whose local is l
module _ (image bindings : List ℕ) (p : PatId) (l : LocalId) {c : Counts} {current : BasicBlockId} {t₀ : Body} {v₀ : List ℕ} where
  -- its binding has no local
  pub param_refused : {e : MirLowerError} → TellsParam image bindings p.0 l.0 (Err e) →
      Walks (λ ctx. lower_param image bindings p.0 l.0 ctx current) c current None t₀ v₀ (Err (e, p)) t₀ v₀
  unfolding lower_param
  param_refused T =
      lowers_walks v₀ (lowers_refuses (λ ctx. T.tells (out ctx current None) (shut (pattern_match image bindings (tree image p.0) ctx current None (local_place l)))))

  -- its binding's local is its own
  pub param_own : current.0 < c.blocks → TellsParam image bindings p.0 l.0 (Ok true) →
      Walks (λ ctx. lower_param image bindings p.0 l.0 ctx current) c current None t₀ v₀ (Ok (c, current, None)) t₀ v₀
  unfolding lower_param
  param_own h T =
      lowers_walks v₀
      (lowers_skips (λ ctx. T.tells (out ctx current None) (shut (pattern_match image bindings (tree image p.0) ctx current None (local_place l)))) (record { start = h; else = tt }))

  -- its pattern is walked, and the else of the answer x is shut
  pub param_walked : Ready t₀ c → TellsParam image bindings p.0 l.0 (Ok false) → (x : Lowered) {r : Lowered} {t t₁ : Body} {v : List ℕ} →
      Walks (λ ctx. pattern_match image bindings (tree image p.0) ctx current None (local_place l)) c current None t₀ v₀ x t v →
      r ≡ shut_answer x → t₁ ≡ shut_body x t → Walks (λ ctx. lower_param image bindings p.0 l.0 ctx current) c current None t₀ v₀ r t₁ v
  unfolding lower_param
  param_walked R T x W is after =
      walks_by
      (λ ctx. T.tells (out ctx current None) (shut (pattern_match image bindings (tree image p.0) ctx current None (local_place l))))
      (shut_walks R x W is after)

-- a walk that goes on without an else goes on as well where there was one
any_own : (c : Counts) (els els₁ : OptBlock) → OwnElse c None els₁ → OwnElse c els els₁
any_own c els None own = tt
any_own c els (Some b) (inl e) = absurd (let z : ◌≡◌ {A = ℕ} 0 1 = cc in omega arith)
any_own c els (Some b) (inr new) = inr new

any_onward : (c : Counts) (current : BasicBlockId) (els : OptBlock) (r : Lowered) → OnwardBy c current None r → OnwardBy c current els r
any_onward c current els (Ok (c₁, then, els₁)) O = record { own = O.own; own_else = any_own c els els₁ O.own_else; begins = O.begins }
any_onward c current els (Err (e, p)) O = tt

any_else : {defined : Ctx → Walk Out} {c : Counts} {current : BasicBlockId} {els : OptBlock} {t₀ : Body} {v₀ : List ℕ} {r : Lowered} {t : Body} {v : List ℕ} →
    Walks defined c current None t₀ v₀ r t v → Walks defined c current els t₀ v₀ r t v
any_else {c = c} {current = current} {els = els} {r = r} W = record { answers = W.answers; leaves = W.leaves; onward = any_onward c current els r W.onward }

-- The invariant of the loop: the walk may go on from where it is now with the parameters from the word k on, of which the first has the local l; and what they come to
-- from there is what all come to from where it began, with the local `first`.
pub record ParamsGoing (image words bindings : List ℕ) (first : ℕ) (c₀ : Counts) (b₀ : BasicBlockId) (t₀ : Body) (v₀ : List ℕ) (c : Counts) (here : BasicBlockId) (t : Body) (v : List ℕ) (l k left : ℕ) : Type 0 where
  pub ready : Ready t c
  pub start : here.0 < c.blocks
  pub listed : Listed image words k left
  pub placed : LocalsPlaced image t c l left
  pub rest : {r : Lowered} {t₁ : Body} {v₁ : List ℕ} → Walks (λ ctx. lower_params image bindings (params_from words k left) l ctx here) c here None t v r t₁ v₁ →
      Walks (λ ctx. lower_params image bindings (params_of words) first ctx b₀) c₀ b₀ None t₀ v₀ r t₁ v₁

-- it holds at the start
pub params_begin : {image : List ℕ} {tables : Tables} {words bindings : List ℕ} {t : Body} {v : List ℕ} {c : Counts} {current : BasicBlockId} {l : ℕ} →
    ParamsWalkable image tables words bindings t c current l → ParamsGoing image words bindings l c current t v c current t v l 0 (param_count words)
params_begin {image = image} {words = words} A =
    record { ready = A.ready; start = A.start; listed = list_taken image words A.list; placed = A.placed; rest = λ W. W }

module _ {image words bindings : List ℕ} {first : ℕ} {c₀ : Counts} {b₀ : BasicBlockId} {t₀ : Body} {v₀ : List ℕ} {c : Counts} {here : BasicBlockId} {t : Body} {v : List ℕ} {l k left : ℕ}
    (G : ParamsGoing image words bindings first c₀ b₀ t₀ v₀ c here t v l k left) where
  -- after the loop
  pub params_end : left ≡ 0 → Walks (λ ctx. lower_params image bindings (params_of words) first ctx b₀) c₀ b₀ None t₀ v₀ (Ok (c, here, None)) t v
  unfolding lower_params
  params_end none = G.rest (rw (params_none words k left none) (lowers_walks v (lowers_skips (λ ctx. refl) (record { start = G.start; else = tt }))))

  module _ (some : left ≡ 0 → ⊥) where
    -- the parameter at the word k may be walked, on its local
    pub param_walkable : {tables : Tables} → valid image ≡ true → Whole image tables → length bindings ≡ binding_count image →
        Walkable image tables bindings t c here None (local_place (record { 0 = l }))
    param_walkable valid_image whole sized =
        let same : l + 0 ≡ l = omega arith in
        record {
          image_valid = valid_image;
          whole = whole;
          locals_of_bindings = sized;
          ready = G.ready;
          begins = record { start = G.start; else = tt };
          placed = rw same at (G.placed 0 (omega (arith, some)));
        }

    -- the next local has a number
    pub local_small : l + 1 ≤ 512
    unfolding local_place
    local_small = omega (arith, (G.placed (left - 1) (omega (arith, some))).root, G.ready.local_count, some)

    -- the parameters behind it
    abbrev behind : Out → Walk Out
    behind r = lower_params image bindings (params_from words (k + 2) (left - 1)) (l + 1) r.ctx r.then

    from_first : {r : Lowered} {t₁ : Body} {v₁ : List ℕ} → Walks (λ ctx. next (lower_param image bindings (get_or words k 0) l ctx here) behind) c here None t v r t₁ v₁ →
        Walks (λ ctx. lower_params image bindings (params_from words k left) l ctx here) c here None t v r t₁ v₁
    unfolding lower_params
    from_first W = rw (params_more words k left G.listed.fits some) W

    -- the parameter is refused
    pub param_stops : {e : MirLowerError} {q : PatId} {t₁ : Body} {v₁ : List ℕ} →
        Walks (λ ctx. lower_param image bindings (get_or words k 0) l ctx here) c here None t v (Err (e, q)) t₁ v₁ →
        Walks (λ ctx. lower_params image bindings (params_of words) first ctx b₀) c₀ b₀ None t₀ v₀ (Err (e, q)) t₁ v₁
    param_stops W = G.rest (from_first (walks_stops behind W))

    -- one parameter less
    pub params_again : {c₁ : Counts} {then : BasicBlockId} {other : OptBlock} {t₁ : Body} {v₁ : List ℕ} →
        Walks (λ ctx. lower_param image bindings (get_or words k 0) l ctx here) c here None t v (Ok (c₁, then, other)) t₁ v₁ →
        ParamsGoing image words bindings first c₀ b₀ t₀ v₀ c₁ then t₁ v₁ (l + 1) (k + 2) (left - 1)
    params_again W =
        record {
          ready = ready_after W G.ready;
          start = W.onward.begins.start;
          listed = listed_behind G.listed some;
          placed = λ i h.
              let at : l + (i + 1) ≡ l + 1 + i = omega arith in
              rw at at (placed_after W G.ready (G.placed (i + 1) (omega (arith, some))));
          rest = λ S. G.rest (from_first (walks_then W G.ready behind (any_else S)));
        }
