-- What an accepted call of `pattern_match` hands out is what the definition gives, and what is proved of the definition is so of the call. Assumes nothing.
use Rattle.std.specs.Prelude.{Some, Ok}
use Prim.Native.Nat.{ℕ, zero, suc, ◌+◌, ◌≤◌, ◌<◌}
use mathlib.Core.Path.{◌≡◌, refl, sym, ap, ◌∙◌}
use mathlib.Core.Logic.{◌⊎◌, ⊎_elim}
use native.Mathlib.Omega.{arith}
use lib.ListN.{get_or, get_or-eq_default}
use Rattle.row_tables.specs.Rows.{zeros}
use Rattle.row_tables.proofs.Zeros.{length_zeros}
use Rattle.mir.specs.declared.BasicBlockId.{BasicBlockId}
use Rattle.mir.specs.declared.blocks.Terminator.{Terminator}
use Rattle.state.specs.State.{decode}
use Rattle.state.proofs.Answering.{block_count_lem}
use Rattle.pattern_matching.specs.declared.MatchingMode.{MatchingMode}
use Rattle.pattern_matching.specs.Walking.{Out, Walk, ok, refused, next}
use Rattle.pattern_matching.specs.Patterns.{pattern_match}
use Rattle.views.specs.Views.{mir_of}
use Rattle.views.specs.Growing.{terminator_at}
use Rattle.counting.specs.Demand3.{Counted}
use Rattle.counting.specs.Reaching.{Reached}
use Rattle.counting.proofs.Tallies.{le_or_lt}
use Rattle.counting.proofs.Ors.{reached_low}
use Rattle.called.specs.Call.{Call, HandedOut, Accepted, after, pattern_of, start_of, result_of}
use Rattle.called.specs.Runs.{place_ty_of, IsReachedIn}
use Rattle.called.specs.Passes.{pass, TwoPasses}
use Rattle.called.proofs.Walked.{walk_of, taken, Handing, handing}
use Rattle.called.proofs.Given.{Given, given}
use Rattle.called.proofs.Visited.{words_same, visits_512, visits_small}

-- what an accepted call was handed
pub handed : (call : Call) (out : HandedOut) → Accepted call out → Given call
handed call out accepted = given call (taken call (Ok (out.counts, out.then, out.else)) out.body out.visits tt accepted).0

-- the theorem: the definition of `pattern_match` gives what is handed out
pub gives : (call : Call) (out : HandedOut) → Accepted call out →
    pattern_match call.image call.bindings (pattern_of call) (start_of call) call.start call.else call.place ≡ ok (result_of out)
gives call out accepted =
    let H : Handing (walk_of call) out = handing (walk_of call) out (taken call (Ok (out.counts, out.then, out.else)) out.body out.visits tt accepted).1 in
    let r = H.result in
    let state : r.ctx.state ≡ after out = sym H.reads ∙ ap (decode out.body) (sym H.counts) in
    let visits : r.ctx.visits ≡ out.visits = sym (H.visits ∙ words_same r.ctx.visits (visits_small call (handed call out accepted) r H.gave)) in
    let same : r ≡ result_of out =
    λ i. record { ctx = record { state = state i; visits = visits i }; then = sym H.then i; else = sym H.else i } in
    H.gave ∙ ap (λ (x : Out). ok x) same

-- zeros stand for no visit
no_visit : (size n : ℕ) → get_or (zeros size) n 0 ≡ 0
no_visit zero n = refl
no_visit (suc size) zero = refl
no_visit (suc size) (suc n) = no_visit size n

-- a walk and what follows it were accepted: both were
both_ok : {A B : Type 0} (w : Walk A) (k : A → Walk B) (b : B) → next w k ≡ ok b → (a : A) × (w ≡ ok a) × (k a ≡ ok b)
both_ok (ok a) k b e = (a, refl, e)
both_ok (refused e p) k b q = absurd (let z : ◌≡◌ {A = ℕ} 0 1 = cc in omega arith)

module _ (call : Call) (out : HandedOut) (accepted : Accepted call out) where
  -- "The second pass has kept the first's else"
  pub two_passes : TwoPasses call out
  unfolding pattern_match
  two_passes =
      let (first, checked, bound) = both_ok (pass call MatchingMode.Check (start_of call) call.start call.else) (λ r. pass call MatchingMode.Bind r.ctx r.then r.else) (result_of out)
      (gives call out accepted) in
      record {
        first = first;
        checked = checked;
        bound = bound;
        else_kept = Rattle.growth.proofs.OpenBlocks.inner_keeps call.image call.bindings (pattern_of call) MatchingMode.Bind first.ctx first.then first.else call.place (result_of out) tt bound;
      }

  -- "of the new blocks exactly those returned lack a terminator"
  pub only_those_open : (b : ℕ) → call.counts.blocks ≤ b → b < out.counts.blocks → terminator_at (mir_of (after out)) b ≡ Terminator.Open →
      (b ≡ out.then.0) ⊎ (out.else ≡ Some (record { 0 = b }))
  only_those_open b new there lacks =
      let m = block_count_lem call.body call.counts in
      let n = block_count_lem out.body out.counts in
      Rattle.growth.proofs.OpenBlocks.only_those_open call.image call.bindings (pattern_of call) (start_of call) call.start call.else call.place (result_of out)
      (handed call out accepted).starts (gives call out accepted) b (omega (arith, new, m)) (omega (arith, there, n)) lacks

  -- those returned lack it
  pub those_open : (terminator_at (mir_of (after out)) out.then.0 ≡ Terminator.Open)
      × ((b : BasicBlockId) → out.else ≡ Some b → call.counts.blocks ≤ b.0 → terminator_at (mir_of (after out)) b.0 ≡ Terminator.Open)
  those_open =
      let m = block_count_lem call.body call.counts in
      let both = Rattle.growth.proofs.OpenBlocks.those_open call.image call.bindings (pattern_of call) (start_of call) call.start call.else call.place (result_of out)
      (handed call out accepted).starts (gives call out accepted) in
      (both.0, λ b is new. both.1 b is (omega (arith, new, m)))

  -- what is counted
  pub counted : Counted call.image (pattern_of call) (start_of call) call.else call.place (result_of out)
  counted =
      Rattle.counting.proofs.Whole.counted call.image call.bindings (pattern_of call) (start_of call) call.start call.else call.place (result_of out) (handed call out accepted).root
      call.elements (gives call out accepted)

  -- "Every pattern reached, with k Or patterns above it in the tree walked, was visited exactly k + 2 times"
  pub reached_visits : (q : Reached) → IsReachedIn call q → get_or out.visits q.number 0 ≡ q.ors + 2
  reached_visits q stands =
      let G = handed call out accepted in
      let low = reached_low call.image G.image_valid call.pattern (place_ty_of call) q G.there stands in
      let there = G.there in
      let few = G.few in
      let l = length_zeros 512 in
      Rattle.counting.proofs.Visits.reached_visits call.image call.bindings call.pattern (start_of call) call.start call.else call.place (result_of out) q G.image_valid G.there
      G.root call.elements (gives call out accepted) (no_visit 512) stands (omega (arith, low, there, few, l))

  -- "and every other one never"
  pub other_visits : (n : ℕ) → ((q : Reached) → IsReachedIn call q → q.number ≡ n → ⊥) →
      get_or out.visits n 0 ≡ 0
  other_visits n none =
      let G = handed call out accepted in
      let l = length_zeros 512 in
      let e = visits_512 call G (result_of out) (gives call out accepted) in
      ⊎_elim
      (λ (past : 512 ≤ n). get_or-eq_default out.visits 0 {n = n} (omega (arith, past, e)))
      (λ (less : n < 512).
      Rattle.counting.proofs.Visits.other_visits call.image call.bindings (pattern_of call) (start_of call) call.start call.else call.place (result_of out) n G.root call.elements
      (gives call out accepted) (no_visit 512) none (omega (arith, less, l)))
      (le_or_lt 512 n)
