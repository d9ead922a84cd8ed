-- What an accepted call of `lower_params_and_bindings` hands out is what the definition gives, and what is proved of the definition is so of the call. Assumes nothing.
use Rattle.std.specs.Prelude.{None, Ok, Err}
use Prim.Native.Nat.{ℕ, zero, suc, ◌+◌, ◌*◌, ◌≤◌, ◌<◌}
use mathlib.Core.Path.{◌≡◌, refl, sym, ap, subst, ◌∙◌}
use mathlib.Core.Bool.{Bool, true, false, cond, ◌&&◌}
use mathlib.Core.List.{List, [], ◌∷◌, map}
use native.Mathlib.Omega.{arith}
use borrow.Author.Tests.{leb-true}
use lib.Dec.{eqb, leb}
use lib.ListN.{length, get_or}
use Rattle.row_tables.proofs.Zeros.{length_zeros, zero_at}
use Rattle.image.specs.Tables.{binding_count}
use Rattle.image.specs.Valid.{valid}
use Rattle.image.proofs.Bools.{and_left, and_right, all_true_at}
use Rattle.refusals.specs.Refusals.{done}
use Rattle.place.specs.declared.LocalId.{LocalId}
use Rattle.mir.specs.declared.BasicBlockId.{BasicBlockId}
use Rattle.mir.specs.declared.Counts.{Counts}
use Rattle.mir.specs.declared.blocks.Terminator.{Terminator}
use Rattle.state.specs.State.{Body, decode, counts_of}
use Rattle.state.proofs.Answering.{block_count_lem, statement_count}
use Rattle.state.proofs.Words.{length_words}
use Rattle.body_row_rules.proofs.Checked.{within}
use Rattle.body_calls_spec.specs.Calls.{body_taken}
use Rattle.views.specs.Views.{Mir, mir_of}
use Rattle.views.specs.Growing.{terminator_at, GoesOn}
use Rattle.pattern_matching.specs.Walking.{Walk, ok, refused}
use Rattle.growth.specs.Opened.{Starts}
use Rattle.pattern_walk_spec.specs.Answers.{visit_word}
use Rattle.handed.specs.Handed.{bindings_hold, start_holds, else_holds}
use Rattle.meaning.specs.Values.{Value}
use Rattle.meaning.specs.Running.{Env}
use Rattle.params_spec.specs.Results.{ParamsCall}
use Rattle.params_spec.specs.Params.{Declared, ParamsOut}
use Rattle.calls_spec.specs.Calls.{bad_image, bad_call}
use Rattle.calls_spec.specs.Calls.{call as calling}
use Rattle.pattern_walk_spec.specs.Calls.{by_walk}
use Rattle.params_spec.specs.Calls.{params_from, param_count, params_named, list_formed, receiver_apart, list_holds, self_named, params_hold, params_call, GivesParams}
use Rattle.param_runs.specs.Totals.{first_local}
use Rattle.param_runs.specs.Through.{Handed, all_fit, HeldFrom}
use Rattle.param_runs.proofs.OpenBlocks as opens
use Rattle.param_runs.proofs.Counts.{params_counted, params_visits_kept, params_visits_few}
use Rattle.param_runs.proofs.Receivers.{call_with_self, SelfHas}
use Rattle.param_runs.proofs.Receivers as receivers
use Rattle.param_runs.proofs.Runs.{comes_through}
use Rattle.called.specs.Params.{ParamsHanded, ListTaken, NumbersTaken, defined_of, ParamsHandedOut, AcceptedParams, parameters_of, start_of_params, declared_of, lowered_of, after_params, result_of_params, CountedParams, FittingParams, ComesThroughParams}
use Rattle.called.proofs.Given.{few_patterns, may_start}
use Rattle.called.proofs.Visited.{words_same}
use Rattle.body_calls_spec.specs.declared.PatternCallError.{PatternCallError}

-- an answer that accepts
abbrev IsLowered : ParamsCall → Type 0
IsLowered (Ok (c, then, first)) = Unit {0}
IsLowered (Err (PatternCallError.Refused e p)) = ⊥
IsLowered (Err PatternCallError.BadCall) = ⊥
IsLowered (Err PatternCallError.BadImage) = ⊥

-- what an accepted call was handed: the four tests were passed
record Taken (call : ParamsHanded) : Type 0 where
  image_valid : valid call.image ≡ true
  list : ListTaken call
  body : body_taken call.image call.body call.counts ≡ true
  names : NumbersTaken call

passed : (v q t n : Bool) (w : Walk ParamsOut) {m m' : List ℕ} {b : Body} {before : List ℕ} {c : Counts} (r : ParamsCall) {b' : Body} {after : List ℕ} → IsLowered r →
    GivesParams m b before c (cond (v && q) (cond (t && n) (by_walk w) bad_call) bad_image) r m' b' after →
    (v ≡ true) × (q ≡ true) × (t ≡ true) × (n ≡ true) × GivesParams m b before c (by_walk w) r m' b' after
passed false q t n w r k P = absurd (subst IsLowered P.visits.gives.reply k)
passed true false t n w r k P = absurd (subst IsLowered P.visits.gives.reply k)
passed true true false n w r k P = absurd (subst IsLowered P.visits.gives.reply k)
passed true true true false w r k P = absurd (subst IsLowered P.visits.gives.reply k)
passed true true true true w r k P = (refl, refl, refl, refl, P)

-- what an accepted walk gave, and how it was handed out
record Handing (w : Walk ParamsOut) (c : Counts) (out : ParamsHandedOut) : Type 0 where
  result : ParamsOut
  gave : w ≡ ok result
  counts : out.counts ≡ counts_of result.ctx.state
  then : out.then ≡ result.then
  first : out.first ≡ record { 0 = c.locals }
  reads : decode out.tables.body (counts_of result.ctx.state) ≡ result.ctx.state
  visits : out.tables.visits ≡ map visit_word result.ctx.visits
  bindings : out.tables.bindings ≡ result.bindings

handing : (w : Walk ParamsOut) (out : ParamsHandedOut) {m : List ℕ} {b : Body} {before : List ℕ} {c : Counts} →
    GivesParams m b before c (by_walk w) (Ok (out.counts, out.then, out.first)) out.tables.bindings out.tables.body out.tables.visits → Handing w c out
handing (ok r) out {c = c} P =
    let same : ◌≡◌ {A = Counts × BasicBlockId × LocalId} (out.counts, out.then, out.first) (counts_of r.ctx.state, r.then, record { 0 = c.locals }) = let reply = P.visits.gives.reply in cc in
    record { result = r; gave = refl; counts = ap (λ (given : Counts × BasicBlockId × LocalId). given.0) same; then = ap (λ (given : Counts × BasicBlockId × LocalId). given.1) same; first = ap (λ (given : Counts × BasicBlockId × LocalId). given.2) same; reads = P.visits.gives.holds.reads; visits = P.visits.visits; bindings = P.locals }
handing (refused e p) out P = let reply = P.visits.gives.reply in absurd (let z : ◌≡◌ {A = ℕ} 0 1 = cc in omega arith)

-- a list has as many parameters as it is said to have
params_many : (words : List ℕ) (k n : ℕ) → length (params_from words k n) ≡ n
unfolding params_from
params_many words k zero = refl
params_many words k (suc n) = let e = params_many words (k + 2) n in omega (arith, e)

module _ (call : ParamsHanded) (out : ParamsHandedOut) (accepted : AcceptedParams call out) where
  both : Taken call × Handing (lowered_of call) call.counts out
  unfolding params_call calling
  both =
      let (v, q, t, n, w) = passed (valid call.image) (list_holds call.image call.self call.list) (body_taken call.image call.body call.counts)
      (params_hold call.image call.self call.bindings call.body.blocks call.counts call.start) (lowered_of call)
      (Ok (out.counts, out.then, out.first)) tt accepted in
      (record { image_valid = v; list = q; body = t; names = n }, handing (lowered_of call) out w)

  taken : Taken call
  taken = both.0

  H : Handing (lowered_of call) call.counts out
  H = both.1

  -- the list is one of at most 64 parameters, which are named
  formed : list_formed call.image call.list ≡ true
  unfolding list_holds
  formed = and_left (list_formed call.image call.list) (receiver_apart call.image call.self (parameters_of call)) taken.list

  named : params_named call.image (parameters_of call) ≡ true
  unfolding list_formed
  named = and_right (leb (param_count call.list) 64 && eqb (2 * param_count call.list) (length call.list)) (params_named call.image (parameters_of call)) formed

  few : length (parameters_of call) ≤ 64
  unfolding list_formed
  few =
      let a = leb (param_count call.list) 64 in
      let b = eqb (2 * param_count call.list) (length call.list) in
      let low = leb-true (param_count call.list) 64 (and_left a b (and_left (a && b) (params_named call.image (parameters_of call)) formed)) in
      let e = params_many call.list 0 (param_count call.list) in
      omega (arith, low, e)

  -- each of the tests of the call's own numbers
  test : (k : ℕ) →
      get_or (self_named call.image call.self ∷ bindings_hold (binding_count call.image) call.counts call.bindings
      ∷ start_holds call.body.blocks call.counts call.start ∷ []) k true ≡ true
  unfolding params_hold
  test k =
      all_true_at
      (self_named call.image call.self ∷ bindings_hold (binding_count call.image) call.counts call.bindings
      ∷ start_holds call.body.blocks call.counts call.start ∷ []) k taken.names

  -- the rows that there are are as many as the counts say
  counts_same : counts_of (start_of_params call).state ≡ call.counts
  unfolding counts_of decode
  counts_same =
      let few = within _ _ call.body.blocks call.body.statements call.body.locals call.body.scopes call.body.entries call.counts taken.body in
      let long = call.lengths in
      λ i. record {
        blocks = block_count_lem call.body call.counts i;
        statements = statement_count call.body call.counts i;
        locals = length_words call.body.locals call.counts.locals (let x = long.locals in let y = few.locals in omega (arith, x, y)) i;
        scopes = length_words call.body.scopes call.counts.scopes (let x = long.scopes in let y = few.scopes in omega (arith, x, y)) i;
        entries = length_words call.body.entries call.counts.entries (let x = long.entries in let y = few.entries in omega (arith, x, y)) i;
      }

  locals_same : length (start_of_params call).state.locals ≡ call.counts.locals
  unfolding counts_of
  locals_same = ap (λ (c : Counts). c.locals) counts_same

  -- the walk may start
  starts : Starts (start_of_params call) call.start None
  unfolding else_holds
  starts = may_start call.image call.body call.counts call.start None taken.body (test 2) refl

  -- what is handed in is what numbers 1 and 2 do not refuse
  handed : ((i : ℕ) → get_or call.image i 0 < 256) → Handed call.image call.self (parameters_of call) call.bindings (start_of_params call) call.start
  handed bytes =
      record {
        image_valid = taken.image_valid;
        image_bytes = bytes;
        params_named_lem = named;
        self_named_lem = test 0;
        bindings_hold_lem = subst (λ (c : Counts). bindings_hold (binding_count call.image) c call.bindings ≡ true) (sym counts_same) (test 1);
        starts = starts;
      }

  -- no count of visits is so great that a word could not hold it
  visits_small : (i : ℕ) → i < length H.result.ctx.visits → get_or H.result.ctx.visits i 0 < 65535
  visits_small i h =
      let r = H.result in
      let kept = params_visits_kept call.image call.self (parameters_of call) call.bindings (start_of_params call) call.start r taken.image_valid named H.gave in
      let l = length_zeros 512 in
      let z = zero_at 512 i (omega (arith, h, kept, l)) in
      let v = (params_counted call.image call.self (parameters_of call) call.bindings (start_of_params call) call.start r taken.image_valid named H.gave).visits i (omega (arith, h, kept)) in
      let most = params_visits_few call.image r.bindings i taken.image_valid (few_patterns call.image taken.image_valid) (parameters_of call) (first_local call.self (start_of_params call)) named in
      let many = few in
      omega (arith, v, z, most, many)

  -- the theorem: the definition of `lower_params_and_bindings` gives what is handed out
  pub params_give : lowered_of call ≡ ok (result_of_params out)
  params_give =
      let r = H.result in
      let state : r.ctx.state ≡ after_params out = sym H.reads ∙ ap (decode out.tables.body) (sym H.counts) in
      let visits : r.ctx.visits ≡ out.tables.visits = sym (H.visits ∙ words_same r.ctx.visits visits_small) in
      let same : r ≡ result_of_params out =
      λ i. record { ctx = record { state = state i; visits = visits i }; then = sym H.then i; bindings = sym H.bindings i } in
      H.gave ∙ ap (λ (x : ParamsOut). ok x) same

  -- the first local is the next one when the call comes
  pub first_next : out.first.0 ≡ call.counts.locals
  first_next = ap (λ (l : LocalId). l.0) H.first

  -- "of the new blocks exactly the returned one is open"
  pub only_returned_open : (b : ℕ) → call.counts.blocks ≤ b → b < out.counts.blocks → terminator_at (mir_of (after_params out)) b ≡ Terminator.Open → b ≡ out.then.0
  only_returned_open b new there lacks =
      let m = block_count_lem call.body call.counts in
      let n = block_count_lem out.tables.body out.counts in
      opens.only_the_returned_is_open call.image call.self (parameters_of call) call.bindings (start_of_params call) call.start (result_of_params out) starts params_give b (omega (arith, new, m))
      (omega (arith, there, n)) lacks

  pub returned_open : terminator_at (mir_of (after_params out)) out.then.0 ≡ Terminator.Open
  returned_open =
      opens.the_returned_is_open call.image call.self (parameters_of call) call.bindings (start_of_params call) call.start (result_of_params out) starts params_give

  -- "the new blocks and statements are the totals of the lowered parameters' counts"
  pub counted_totals : CountedParams call out
  counted_totals = params_counted call.image call.self (parameters_of call) call.bindings (start_of_params call) call.start (result_of_params out) taken.image_valid named params_give

  -- "for parameters that all fit, on values that all match, the run comes to the returned block"
  pub values_come_through : (M : Mir) → GoesOn (mir_of (after_params out)) M → (vs : List Value) (env : Env) → FittingParams call out vs env → ComesThroughParams call out M vs env
  values_come_through M onward vs env fitting =
      comes_through call.image call.self (parameters_of call) call.bindings (start_of_params call) call.start (handed fitting.image_bytes) (result_of_params out) params_give M onward vs
      (subst (λ (l : ℕ). all_fit call.image out.tables.bindings call.self (parameters_of call) l vs ≡ true) (sym locals_same) fitting.all_fit_lem) fitting.bindings_differ_lem env
      (subst (λ (l : ℕ). HeldFrom env l vs) (sym locals_same) fitting.held)

-- self's binding has self's own local, when all locals are made
pub self_own_local : (call : ParamsHanded) (made : Declared) → ListTaken call → NumbersTaken call → declared_of call ≡ done made →
    SelfHas call.self made.bindings (length (start_of_params call).state.locals)
self_own_local call made list names =
    receivers.self_has_its_own_local call.image call.list call.self call.bindings call.body call.counts call.start list names made

-- the branch for self has no input
pub self_branch_idle : (call : ParamsHanded) →
    call_with_self call.image call.list call.self call.bindings call.body call.counts call.start ≡ defined_of call
self_branch_idle call =
    receivers.the_step_for_self_has_no_input call.image call.list call.self call.bindings call.body call.counts call.start
