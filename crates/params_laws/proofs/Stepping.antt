-- The call's own step: what it asks for, and what it gives, by what the walk promises. Assumes nothing.
use Rattle.std.specs.Prelude.{Ok, Err}
use Prim.Native.Nat.{ℕ, ◌*◌, ◌≤◌, ◌<◌}
use mathlib.Core.Path.{◌≡◌, refl, sym, ap, subst, ◌∙◌}
use mathlib.Core.Bool.{Bool, true, ◌&&◌}
use mathlib.Core.List.{List, [], ◌∷◌}
use native.Mathlib.Omega.{arith}
use borrow.Author.Tests.{ltb-true, leb-true, eqb-true}
use lib.Dec.{eqb, leb}
use lib.ListN.{length, take, get_or}
use Rattle.refusals.specs.declared.MirLowerError.{MirLowerError}
use Rattle.row_tables.specs.Rows.{zeros, row_at, stored, cleared}
use Rattle.image.specs.declared.PatId.{PatId}
use Rattle.image.specs.declared.Tables.{Tables}
use Rattle.image.specs.Lists.{all_in}
use Rattle.image.specs.Rules.{within_limits}
use Rattle.image.specs.Tables.{type_count, variant_count, pattern_count, binding_count, list_count, data_count}
use Rattle.image.specs.Valid.{rules, valid}
use Rattle.image.proofs.Bools.{and_left, and_right, all_true_at}
use Rattle.mir.specs.declared.BasicBlockId.{BasicBlockId}
use Rattle.mir.specs.declared.Counts.{Counts}
use Rattle.mir.specs.Blocks.{is_open, block_width, block_words}
use Rattle.state.specs.State.{Body, State, decode, encode}
use Rattle.body_row_rules.specs.Bodies.{is_block, counts_within}
use Rattle.lower_spec.specs.Results.{OptBlock}
use Rattle.calls_spec.specs.Calls.{Called}
use Rattle.body_calls_spec.specs.Sizes.{Sized}
use Rattle.body_calls_spec.proofs.Clearing.{Cleared, clears, counted}
use Rattle.body_calls_spec.proofs.Prologue.{taken_sized}
use Rattle.body_calls_spec.proofs.Replying.{accepts, refuses}
use Rattle.body_calls_spec.proofs.Restoring.{put_back}
use Rattle.pattern_walk_spec.specs.Calls.{by_walk, start_ctx}
use Rattle.handed.specs.Handed.{start_holds, binding_local_holds, bindings_hold}
use Rattle.pattern_calls_spec.proofs.Starting.{no_visits, visits_cleared, row_found}
use Rattle.body_tables.specs.Layout.{with_blocks}
use Rattle.body_opening.proofs.Replying.{few_counts}
use Rattle.params_spec.specs.Results.{SelfParam}
use Rattle.params_spec.specs.Results.{ParamsCall}
use Rattle.params_spec.specs.Params.{ParamsOut, lower_params_and_bindings}
use Rattle.params_spec.specs.Calls.{params_of, params_refusal, self_named, params_hold, GivesParams}
use Rattle.param_locals.specs.Looking.{ParamsTaken}
use Rattle.param_lists.proofs.Listing.{taken_formed}
use Rattle.params_laws.specs.Walking.{Startable, WalksParams}
use Rattle.body_calls_spec.specs.declared.PatternCallError.{PatternCallError}

-- the same by another name
pub params_by : {m m' v v' : List ℕ} {b b' : Body} {c : Counts} {given defined : Called ParamsOut} {r : ParamsCall} → given ≡ defined →
    GivesParams m b v c given r m' b' v' → GivesParams m b v c defined r m' b' v'
params_by {m = m} {m' = m'} {v = v} {v' = v'} {b = b} {b' = b'} {c = c} {r = r} e G = subst (λ x. GivesParams m b v c x r m' b' v') e G

-- a valid image has at most 256 bindings
bindings_few : (image : List ℕ) → valid image ≡ true → binding_count image ≤ 256
unfolding valid within_limits
bindings_few image v =
    let e = all_true_at (rules image) 10 v in
    let front = leb (type_count image) 256 && leb (variant_count image) 512 && (leb 1 (pattern_count image) && leb (pattern_count image) 512) in
    let d = leb (binding_count image) 256 in
    let l = leb (list_count image) 2048 in
    let m = leb (data_count image) 16384 in
    leb-true (binding_count image) 256 (and_right front d (and_left (front && d) l (and_left (front && d && l) m e)))

-- the call's own values name something
module _ (image : List ℕ) (self : SelfParam) (bindings blocks : List ℕ) (c : Counts) (current : BasicBlockId) (h : params_hold image self bindings blocks c current ≡ true) where
  -- the tests
  abbrev tests : List Bool
  tests = self_named image self ∷ bindings_hold (binding_count image) c bindings ∷ start_holds blocks c current ∷ []

  -- each is passed
  passed : (k : ℕ) → get_or tests k true ≡ true
  unfolding params_hold
  passed k = all_true_at tests k h

  self_held : self_named image self ≡ true
  self_held = passed 0

  bindings_held : length bindings ≡ binding_count image
  unfolding bindings_hold
  bindings_held = eqb-true _ _ (and_left (eqb (length bindings) (binding_count image)) (all_in (binding_local_holds c) bindings) (passed 1))

  start_held : current.0 < c.blocks
  unfolding start_holds
  start_held = ltb-true _ _ (and_left (is_block c current.0) (is_open (row_at block_width blocks current.0)) (passed 2))

module _ {image : List ℕ} {tables : Tables} {words : List ℕ} {self : SelfParam} {bindings : List ℕ} {b : Body} {c : Counts} {current : BasicBlockId}
    (T : ParamsTaken image tables words self bindings b c current) where
  -- the body has its sizes
  pub step_sized : Sized b c
  step_sized = taken_sized image b c T.both

  -- the counts are within the limits
  pub counts_asked : counts_within c ≡ true
  counts_asked = few_counts b c step_sized

  -- the block where the walk starts is there
  step_start : current.0 < c.blocks
  step_start = start_held image self bindings b.blocks c current T.call

  -- its row may be read
  pub row_asked : current.0 < 512
  row_asked = omega (arith, step_start, step_sized.block_count_lem)

  -- there is room for the bindings' locals
  pub save_asked : length bindings ≤ 256
  save_asked = omega (arith, bindings_held image self bindings b.blocks c current T.call, bindings_few image T.both.valid_image)

  -- b₁ is the body after zeros were written above the counts
  module _ {b₁ : Body} (is : b₁ ≡ encode (decode b c)) where
    -- what lies in it
    step_cleared : Cleared b c b₁
    step_cleared = clears step_sized is

    -- the walk may start
    pub walk_asked : Startable image tables words self bindings b₁ c current
    walk_asked =
        record {
          image_valid = T.both.valid_image;
          whole = T.both.whole;
          list = taken_formed image words self T.list;
          receiver = self_held image self bindings b.blocks c current T.call;
          locals_of_bindings = bindings_held image self bindings b.blocks c current T.call;
          ready = step_cleared.ready;
          start = step_start;
        }

    -- v₁ lies in the visits' table after zeros were written there
    module _ (visits : List ℕ) {v₁ : List ℕ} (sized : length visits ≡ 512) (blank : v₁ ≡ cleared visits 0) where
      -- no pattern is visited yet
      no_visit : v₁ ≡ zeros 512
      no_visit = visits_cleared visits sized blank

      -- the walk is accepted
      pub lowered : {c' : Counts} {then : BasicBlockId} {els : OptBlock} {t : Body} {v' m : List ℕ} {r : ParamsCall} → r ≡ Ok (c', then, record { 0 = c.locals }) →
          WalksParams (λ ctx. lower_params_and_bindings image self (params_of words) bindings ctx current) c current b₁ v₁ (Ok (c', then, els)) t v' m →
          GivesParams bindings b visits c (by_walk (lower_params_and_bindings image self (params_of words) bindings (start_ctx b c) current)) r m t v'
      lowered {c' = c'} {then = then} {t = t} is-answer W =
          let A = W.answers (zeros 512) step_cleared.ready (no_visit ∙ no_visits) in
          let ready = A.answers.goes.0 in
          let is-walk = A.answers.says ∙ ap (λ (st : State). lower_params_and_bindings image self (params_of words) bindings (record { state = st; visits = zeros 512 }) current) step_cleared.same in
          params_by (ap by_walk is-walk)
          (record {
            visits = record {
              gives = accepts c' _ refl refl ready
                  (is-answer ∙ ap (λ (n : Counts). Ok (n, then, record { 0 = c.locals })) (sym (counted t c' ready)))
                  (ap params_refusal is-answer);
              visits = A.holds;
            };
            locals = refl;
          })

      -- it is refused: t is the body behind the walk, t₂ after the row of the block where it started was put back, and b₃ after zeros were written again; the bindings' locals
      -- are put back
      pub not_lowered : {err : MirLowerError} {q : PatId} {t t₂ b₃ : Body} {v' m v₃ m₃ row : List ℕ} (saved : List ℕ) →
          WalksParams (λ ctx. lower_params_and_bindings image self (params_of words) bindings ctx current) c current b₁ v₁ (Err (err, q)) t v' m →
          length t.blocks ≡ block_words → length v' ≡ 512 → length m ≡ length bindings → row ≡ row_at block_width b.blocks current.0 → take (length bindings) saved ≡ bindings →
          t₂ ≡ with_blocks t (stored t.blocks (block_width * current.0) row) → b₃ ≡ encode (decode t₂ c) → v₃ ≡ cleared v' 0 → m₃ ≡ take (length m) saved →
          GivesParams bindings b visits c (by_walk (lower_params_and_bindings image self (params_of words) bindings (start_ctx b c) current)) (Err (PatternCallError.Refused err q)) m₃ b₃ v₃
      not_lowered {err = err} {q = q} {t = t} {v' = v'} saved W long seen many is_row kept back again blank₃ put =
          let C = step_cleared in
          let R = C.ready in
          let A = W.answers (zeros 512) R (no_visit ∙ no_visits) in
          let found = is_row ∙ row_found b c b₁ current.0 C step_start in
          let Stored-row = back ∙ ap (λ (x : List ℕ). with_blocks t (stored t.blocks (block_width * current.0) x)) found in
          let rest = put_back c current.0 b₁ t step_start R.block_count_lem R.blocks long A.answers.kept in
          let same = ap (λ (x : Body). decode x c) Stored-row ∙ rest ∙ C.same in
          let is-walk = A.answers.says ∙ ap (λ (st : State). lower_params_and_bindings image self (params_of words) bindings (record { state = st; visits = zeros 512 }) current) C.same in
          params_by (ap by_walk is-walk)
          (record {
            visits = record { gives = refuses err q.0 step_sized refl (again ∙ ap encode same) refl refl; visits = visits_cleared v' seen blank₃ };
            locals = put ∙ ap (λ (n : ℕ). take n saved) many ∙ kept;
          })
