-- Of every public call, accepted or refused: a local that stands in the scopes at most once still does. Assumes nothing.
use Rattle.std.specs.Prelude.{None, Ok}
use Prim.Native.Nat.{ℕ, ◌<◌}
use native.Mathlib.Omega.{arith}
use mathlib.Core.Path.{◌≡◌, refl, sym, ap, ap₂, subst, ◌∙◌}
use mathlib.Core.Bool.{Bool, true, ◌&&◌}
use mathlib.Core.List.{List, [], ◌∷◌}
use borrow.Author.Tests.{ltb-true}
use lib.Dec.{eqb, ltb}
use lib.ListN.{length}
use Rattle.refusals.specs.Refusals.{Result, done}
use Rattle.image.specs.Tables.{type_count, variant_count, binding_count}
use Rattle.image.specs.Lists.{all_in}
use Rattle.image.specs.Valid.{valid}
use Rattle.image.proofs.Bools.{and_left, and_right, all_true_at}
use Rattle.mir.specs.declared.BasicBlockId.{BasicBlockId}
use Rattle.mir.specs.declared.Counts.{Counts}
use Rattle.state.specs.State.{Body, State, decode, counts_of}
use Rattle.state.proofs.Words.{length_words}
use Rattle.body_row_rules.specs.Bodies.{is_local}
use Rattle.body_row_rules.proofs.Checked.{within}
use Rattle.lower_spec.specs.Results.{OptBlock}
use Rattle.lower_spec.specs.Recorded.{OncePerLocal}
use Rattle.body_calls_spec.specs.Results.{TempCall}
use Rattle.body_calls_spec.specs.Results.{MergeCall}
use Rattle.body_calls_spec.specs.Results.{ScopeCall}
use Rattle.body_calls_spec.specs.Results.{DropCall}
use Rattle.calls_spec.specs.Lengths.{Lengths}
use Rattle.calls_spec.specs.Calls.{Called, bad_image, bad_call, refused_at, accepted, by_step, leaves, body_after}
use Rattle.calls_spec.specs.Promises.{Way, CallHolds, Gives}
use Rattle.calls_spec.proofs.Calling.{came, step_ok}
use Rattle.body_calls_spec.specs.Calls.{body_taken, body_call, temp_call, merge_blocks_call, push_drop_scope_call, pop_assume_dropped_call, pop_and_drop_call, drop_until_scope_call}
use Rattle.body_calls_spec.specs.Answers.{temp_answer, merge_answer, scope_answer, drop_answer, temp_way, merge_way, scope_way, drop_way}
use Rattle.pattern_matching.specs.declared.MatchingMode.{MatchingMode}
use Rattle.pattern_matching.specs.Walking.{Out, Walk, ok, refused}
use Rattle.pattern_matching.specs.Patterns.{pattern_match_assignment}
use Rattle.handed.specs.Handed.{start_holds, binding_local_holds, bindings_hold, self_holds}
use Rattle.pattern_calls_spec.specs.Results.{MatchCall}
use Rattle.pattern_walk_spec.specs.Calls.{by_walk, start_ctx}
use Rattle.pattern_calls_spec.specs.Calls.{named_in, match_answer, match_way, pattern_match_call, pattern_match_assignment_call, match_self_param_call}
use Rattle.params_spec.specs.Results.{ParamsCall}
use Rattle.params_spec.specs.Params.{ParamsOut}
use Rattle.params_spec.specs.Calls.{list_holds, params_hold, self_named, params_call, params_answer, params_way}
use Rattle.drop_scopes_spec.specs.Dropping.{At}
use Rattle.named.specs.Named.{NamedBelow, WordsBelow}
use Rattle.named.specs.Marked.{MarksRecorded}
use Rattle.named.proofs.Taken.{handed_named}
use Rattle.named.proofs.Leaving.{same_once, temp_once, merge_once, push_once, pop_assume_dropped_once, pop_and_drop_once, drop_until_once}
use Rattle.named.proofs.Lowered.{match_recorded, match_once, inner_once, self_once}
use Rattle.param_runs.proofs.Words.{all_below_lem}
use Rattle.param_runs.proofs.Scoping.{params_once}
use Rattle.called.specs.Call.{Call, HandedOut, Promised, Accepted, before, after, pattern_of, start_of, result_of}
use Rattle.called.specs.Acceptance.{Taken}
use Rattle.called.specs.Promises.{PromisedAssignment, SelfHanded, PromisedSelf, OnBody, PromisedTemp, PromisedMerge, PromisedPush, PromisedPopAssumeDropped, PromisedPopAndDrop, PromisedDropUntil}
use Rattle.called.specs.Params.{ParamsHanded, ParamsTables, defined_of, PromisedParams, parameters_of, start_of_params, lowered_of}
use Rattle.called.specs.Scopes.{counts_after_temp, counts_after_merge, counts_after_scope, counts_after_drop, counts_after_match, counts_after_params, StillOnce}
use Rattle.called.proofs.Walked.{walk_of, taken}
use Rattle.called.proofs.Given.{given}
use Rattle.called.proofs.Bodies.{handed, gives}

-- what is known of a body that is taken
module _ (image : List ℕ) (b : Body) (c : Counts) (long : Lengths b) (T : body_taken image b c ≡ true) where
  -- nothing in it names a local that there is not
  taken_named : NamedBelow (decode b c)
  taken_named = handed_named (type_count image) (variant_count image) b c long T

  -- it has as many locals as the counts say
  taken_locals : length (decode b c).locals ≡ c.locals
  unfolding decode
  taken_locals =
      let size = long.locals in
      let few = (within _ _ b.blocks b.statements b.locals b.scopes b.entries c T).locals in
      length_words b.locals c.locals (omega (arith, size, few))

  -- the locals of bindings that are taken are there
  words_there : (bindings : List ℕ) (n : ℕ) → bindings_hold n c bindings ≡ true → WordsBelow bindings (length (decode b c).locals)
  unfolding bindings_hold
  words_there bindings n h =
      subst (WordsBelow bindings) (sym taken_locals) (all_below_lem c bindings (and_right (eqb (length bindings) n) (all_in (binding_local_holds c) bindings) h))

-- the counts that the definition of a call leaves
abbrev counts_after : {A : Type 0} → (A → State) → Counts → Called A → Counts
counts_after state_of c = leaves c c (λ a. counts_of (state_of a))

-- a call, by what the definition gives and what is promised
on_call : {A : Type 0} (state_of : A → State) (b : Body) (c : Counts) (b' : Body) (c' : Counts) (defined : Called A) → ((a : A) → defined ≡ accepted a → OncePerLocal (decode b c) (state_of a)) →
    b' ≡ body_after state_of b c defined → CallHolds state_of b c defined b' → c' ≡ counts_after state_of c defined → StillOnce b c b' c'
on_call state_of b c b' c' bad_image once is holds counts = same_once (decode b c) (decode b' c') (ap₂ (λ (x : Body) (y : Counts). (decode x y).entries) is counts)
on_call state_of b c b' c' bad_call once is holds counts = same_once (decode b c) (decode b' c') (ap₂ (λ (x : Body) (y : Counts). (decode x y).entries) is counts)
on_call state_of b c b' c' (refused_at e p) once is holds counts =
    same_once (decode b c) (decode b' c') (ap (λ (y : Counts). (decode b' y).entries) counts ∙ ap (λ (st : State). st.entries) holds.reads)
on_call state_of b c b' c' (accepted a) once is holds counts =
    λ l few. same_once (state_of a) (decode b' c') (ap (λ (y : Counts). (decode b' y).entries) counts ∙ ap (λ (st : State). st.entries) holds.reads) l (once a refl l few)

-- the same by its promise; `countsIn` is what its answer says of the counts
by_promise : {A R : Type 0} (way : Way A R) (b : Body) (c : Counts) (b' : Body) (defined : Called A) (countsIn : R → Counts) →
    ((x : Called A) → countsIn (way.answer c x) ≡ counts_after way.state_of c x) → ((a : A) → defined ≡ accepted a → OncePerLocal (decode b c) (way.state_of a)) → (r : R) →
    Gives way b c defined r b' → StillOnce b c b' (countsIn r)
by_promise way b c b' defined countsIn same once r G =
    on_call way.state_of b c b' (countsIn r) defined once G.tables G.holds (ap countsIn G.reply ∙ same defined)

-- what the answers of the calls say of the counts is what the definitions leave
temp_counts_lem : (c : Counts) (x : Called State) → counts_after_temp c (temp_answer c x) ≡ counts_after (λ st. st) c x
temp_counts_lem c bad_image = refl
temp_counts_lem c bad_call = refl
temp_counts_lem c (refused_at e p) = refl
temp_counts_lem c (accepted a) = refl

merge_counts : (x y : OptBlock) (c : Counts) (z : Called State) → counts_after_merge c (merge_answer x y c z) ≡ counts_after (λ st. st) c z
merge_counts x y c bad_image = refl
merge_counts x y c bad_call = refl
merge_counts x y c (refused_at e p) = refl
merge_counts x y c (accepted a) = refl

scope_counts : (c : Counts) (x : Called State) → counts_after_scope c (scope_answer c x) ≡ counts_after (λ st. st) c x
scope_counts c bad_image = refl
scope_counts c bad_call = refl
scope_counts c (refused_at e p) = refl
scope_counts c (accepted a) = refl

drop_counts : (c : Counts) (x : Called At) → counts_after_drop c (drop_answer c x) ≡ counts_after (λ at. at.state) c x
drop_counts c bad_image = refl
drop_counts c bad_call = refl
drop_counts c (refused_at e p) = refl
drop_counts c (accepted a) = refl

match_counts : (c : Counts) (x : Called Out) → counts_after_match c (match_answer c x) ≡ counts_after (λ r. r.ctx.state) c x
match_counts c bad_image = refl
match_counts c bad_call = refl
match_counts c (refused_at e p) = refl
match_counts c (accepted a) = refl

params_counts : (c : Counts) (x : Called ParamsOut) → counts_after_params c (params_answer c x) ≡ counts_after (λ r. r.ctx.state) c x
params_counts c bad_image = refl
params_counts c bad_call = refl
params_counts c (refused_at e p) = refl
params_counts c (accepted a) = refl

-- a call on an image and a body that is accepted: both were taken, its own numbers name something, and its step is accepted
body_came : {A : Type 0} (image : List ℕ) (b : Body) (c : Counts) (names : Bool) (step : Called A) (a : A) → body_call image b c names step ≡ accepted a →
    (valid image ≡ true) × (body_taken image b c ≡ true) × (names ≡ true) × (step ≡ accepted a)
body_came image b c names step a e =
    let (v, both, is) = came (valid image) (body_taken image b c && names) step a e in
    (v, and_left (body_taken image b c) names both, and_right (body_taken image b c) names both, is)

-- a walk that is accepted
walk_ok : {A : Type 0} (w : Walk A) (a : A) → by_walk w ≡ accepted a → w ≡ ok a
walk_ok {A} (ok x) a e = let same : x ≡ a = cc in ap (λ (y : A). ok y) same
walk_ok (refused e p) a q = absurd (let z : ◌≡◌ {A = ℕ} 0 1 = cc in omega arith)

-- the calls on a body
module _ (call : OnBody) (body : Body) where
  abbrev b : Body
  b = call.body

  abbrev c : Counts
  c = call.counts

  -- a call whose step gives `step`
  by_step_lem : {A R : Type 0} (way : Way A R) (names : Bool) (step : Result A) (countsIn : R → Counts) → ((x : Called A) → countsIn (way.answer c x) ≡ counts_after way.state_of c x) →
      (body_taken call.image b c ≡ true → (a : A) → step ≡ done a → OncePerLocal (decode b c) (way.state_of a)) → (r : R) →
      Gives way b c (body_call call.image b c names (by_step step)) r body → StillOnce b c body (countsIn r)
  by_step_lem way names step countsIn same once r =
      by_promise way b c body (body_call call.image b c names (by_step step)) countsIn same (λ a e.
      let (v, T, n, is) = body_came call.image b c names (by_step step) a e in
      once T a (step_ok step a is)) r

  pub temp_still_once : (word : ℕ) (block : BasicBlockId) (r : TempCall) → PromisedTemp call word block r body → StillOnce b c body (counts_after_temp c r)
  unfolding temp_call
  temp_still_once word block r =
      by_step_lem temp_way _ _ (counts_after_temp c) (temp_counts_lem c) (λ T st e. (temp_once call.image (decode b c) word block (taken_named call.image b c call.lengths T)).at st e) r

  pub merge_still_once : (x y : OptBlock) (r : MergeCall) → PromisedMerge call x y r body → StillOnce b c body (counts_after_merge c r)
  unfolding merge_blocks_call
  merge_still_once x y r = by_step_lem (merge_way x y) _ _ (counts_after_merge c) (merge_counts x y c) (λ T st e. (merge_once (decode b c) x y).at st e) r

  pub push_still_once : (r : ScopeCall) → PromisedPush call r body → StillOnce b c body (counts_after_scope c r)
  unfolding push_drop_scope_call
  push_still_once r = by_step_lem scope_way _ _ (counts_after_scope c) (scope_counts c) (λ T st e. (push_once (decode b c)).at st e) r

  pub pop_assume_dropped_still_once : (r : ScopeCall) → PromisedPopAssumeDropped call r body → StillOnce b c body (counts_after_scope c r)
  unfolding pop_assume_dropped_call
  pop_assume_dropped_still_once r = by_step_lem scope_way _ _ (counts_after_scope c) (scope_counts c) (λ T st e. (pop_assume_dropped_once (decode b c)).at st e) r

  pub pop_and_drop_still_once : (block : BasicBlockId) (r : DropCall) → PromisedPopAndDrop call block r body → StillOnce b c body (counts_after_drop c r)
  unfolding pop_and_drop_call
  pop_and_drop_still_once block r = by_step_lem drop_way _ _ (counts_after_drop c) (drop_counts c) (λ T at e. (pop_and_drop_once call.image (decode b c) block).at at e) r

  pub drop_until_still_once : (i : ℕ) (block : BasicBlockId) (r : DropCall) → PromisedDropUntil call i block r body → StillOnce b c body (counts_after_drop c r)
  unfolding drop_until_scope_call
  drop_until_still_once i block r = by_step_lem drop_way _ _ (counts_after_drop c) (drop_counts c) (λ T at e. (drop_until_once call.image (decode b c) i block).at at e) r

-- a call on a pattern, whose walk gives `walk`
on_pattern : (image : List ℕ) (b : Body) (c : Counts) (names : Bool) (walk : Walk Out) →
    (body_taken image b c ≡ true → valid image ≡ true → names ≡ true → (o : Out) → walk ≡ ok o → OncePerLocal (decode b c) o.ctx.state) → (r : MatchCall) (body : Body) →
    Gives match_way b c (body_call image b c names (by_walk walk)) r body → StillOnce b c body (counts_after_match c r)
on_pattern image b c names walk once r body =
    by_promise match_way b c body (body_call image b c names (by_walk walk)) (counts_after_match c) (match_counts c) (λ a e.
    let (v, T, n, is) = body_came image b c names (by_walk walk) a e in
    once T v n a (walk_ok walk a is)) r

-- `pattern_match`
pub match_still_once : (call : Call) (r : MatchCall) (body : Body) (visits : List ℕ) → Promised call r body visits → StillOnce call.body call.counts body (counts_after_match call.counts r)
unfolding pattern_match_call
match_still_once call r body visits P =
    on_pattern call.image call.body call.counts _ (walk_of call)
    (λ T v n o e.
    let G = given call (record { image_valid = v; body = T; names = n }) in
    match_once call.image call.bindings (pattern_of call) (start_of call) call.start call.else call.place o
    (taken_named call.image call.body call.counts call.lengths T) G.bound G.root e)
    r body P.gives

-- a call without an else
abbrev without_else : Call → Call
without_else call =
    record {
      image = call.image;
      bindings = call.bindings;
      body = call.body;
      visits = call.visits;
      counts = call.counts;
      pattern = call.pattern;
      start = call.start;
      else = None;
      place = call.place;
      lengths = call.lengths;
      elements = call.elements;
    }

-- `pattern_match_assignment`
pub assignment_still_once : (call : Call) (r : MatchCall) (body : Body) (visits : List ℕ) → PromisedAssignment call r body visits →
    StillOnce call.body call.counts body (counts_after_match call.counts r)
unfolding pattern_match_assignment_call pattern_match_assignment
assignment_still_once call r body visits P =
    on_pattern call.image call.body call.counts _ _
    (λ T v n o e.
    let G = given (without_else call) (record { image_valid = v; body = T; names = n }) in
    inner_once call.image call.bindings (pattern_of call) (start_of call) call.start None call.place o
    (taken_named call.image call.body call.counts call.lengths T) G.bound G.root MatchingMode.Assign e)
    r body P.gives

-- `match_self_param`
pub self_still_once : (call : SelfHanded) (r : MatchCall) (body : Body) → PromisedSelf call r body → StillOnce call.body call.counts body (counts_after_match call.counts r)
unfolding match_self_param_call self_holds
self_still_once call r body P =
    on_pattern call.image b c (self_holds (named_in call.image) call.bindings b.blocks c call.binding call.start call.local.0) _
    (λ T v n o e.
    let there : call.local.0 < c.locals = ltb-true _ _ (all_true_at tests 3 n) in
    let count = taken_locals call.image b c call.lengths T in
    self_once call.image call.bindings call.binding (start_ctx b c) call.start call.local o (taken_named call.image b c call.lengths T)
    (words_there call.image b c call.lengths T call.bindings (binding_count call.image) (all_true_at tests 0 n)) (omega (arith, there, count)) e)
    r body P
  where
    b : Body
    b = call.body

    c : Counts
    c = call.counts

    tests : List Bool
    tests =
        bindings_hold (binding_count call.image) call.counts call.bindings
        ∷ ltb call.binding (binding_count call.image)
        ∷ start_holds call.body.blocks call.counts call.start
        ∷ is_local call.counts call.local.0
        ∷ []

-- `lower_params_and_bindings`
pub params_still_once : (call : ParamsHanded) (r : ParamsCall) (tables : ParamsTables) → PromisedParams call r tables →
    StillOnce call.body call.counts tables.body (counts_after_params call.counts r)
unfolding params_call params_hold
params_still_once call r tables P =
    by_promise params_way b c tables.body (defined_of call) (counts_after_params c) (params_counts c) (λ o e.
    let (rules, names, is) = came (valid call.image && list_holds call.image call.self call.list)
    (body_taken call.image b c && params_hold call.image call.self call.bindings b.blocks c call.start) (by_walk (lowered_of call)) o e in
    let T = and_left (body_taken call.image b c) (params_hold call.image call.self call.bindings b.blocks c call.start) names in
    let n = and_right (body_taken call.image b c) (params_hold call.image call.self call.bindings b.blocks c call.start) names in
    params_once call.image call.self (parameters_of call) call.bindings (start_of_params call) call.start o (taken_named call.image b c call.lengths T)
    (words_there call.image b c call.lengths T call.bindings (binding_count call.image)
    (all_true_at (self_named call.image call.self ∷ bindings_hold (binding_count call.image) c call.bindings ∷ start_holds b.blocks c call.start ∷ []) 1 n))
    (walk_ok (lowered_of call) o is)) r P.visits.gives
  where
    b : Body
    b = call.body

    c : Counts
    c = call.counts

-- "A live mark now records its local in the last scope unless an open scope already holds it."
pub marks_recorded : (call : Call) (out : HandedOut) → Accepted call out → MarksRecorded (before call) (after out)
marks_recorded call out is-accepted =
    let G = handed call out is-accepted in
    let T : Taken call = (taken call (Ok (out.counts, out.then, out.else)) out.body out.visits tt is-accepted).0 in
    match_recorded call.image call.bindings (pattern_of call) (start_of call) call.start call.else call.place (result_of out)
    (taken_named call.image call.body call.counts call.lengths T.body) G.bound G.root (gives call out is-accepted)
