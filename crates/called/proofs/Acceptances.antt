-- A call of `pattern_match` on a pattern that fits, with room and a scope open, is accepted. Assumes nothing.
use Rattle.std.specs.Prelude.{Ok, Err}
use Prim.Native.Nat.{ℕ}
use mathlib.Core.Path.{◌≡◌, refl, ap, subst, ◌∙◌}
use mathlib.Core.List.{List}
use native.Mathlib.Omega.{arith}
use lib.ListN.{length}
use Rattle.refusals.specs.declared.MirLowerError.{MirLowerError}
use Rattle.image.specs.declared.PatId.{PatId}
use Rattle.state.specs.State.{Body, counts_of}
use Rattle.state.specs.Promises.{Ready}
use Rattle.pattern_matching.specs.Walking.{Out, Walk, ok}
use Rattle.counting.specs.Demand3.{Counted}
use Rattle.room.specs.Room.{ScopeOpen, Made}
use Rattle.room.proofs.Rooms as rooms
use Rattle.pattern_calls_spec.specs.Results.{MatchCall}
use Rattle.calls_spec.specs.Promises.{CallHolds}
use Rattle.pattern_walk_spec.specs.Calls.{by_walk}
use Rattle.pattern_calls_spec.specs.Calls.{match_answer, pattern_match_call}
use Rattle.calls_spec.specs.Calls.{call as calling}
use Rattle.called.specs.Call.{Call, HandedOut, Promised, Accepted, Refused, before, after, pattern_of, start_of, result_of}
use Rattle.called.specs.Runs.{FittingPattern}
use Rattle.called.specs.Acceptance.{Taken, HasRoom, LimitPassed, IsAcceptance}
use Rattle.called.proofs.Walked.{walk_of, taken, stopping}
use Rattle.called.proofs.Given.{given}
use Rattle.called.proofs.Bodies.{handed, gives, counted}
use Rattle.body_calls_spec.specs.declared.PatternCallError.{PatternCallError}

-- a call that is taken comes to the walk
walks : (call : Call) → Taken call →
    pattern_match_call call.image call.bindings call.body call.counts call.pattern call.start call.else call.place ≡ by_walk (walk_of call)
unfolding pattern_match_call calling
walks call T = rw (T.image_valid, T.body, T.names)

-- the definition gives something
pub fit_lowered : {call : Call} → FittingPattern call → Taken call → HasRoom call → ScopeOpen (start_of call) → (o : Out) × (walk_of call ≡ ok o)
fit_lowered {call} fit T room scope =
    let G = given call T in
    rooms.fit_accepted call.image call.bindings (pattern_of call) (start_of call) call.start call.else call.place fit.type G.image_valid fit.of_type.named fit.of_type.typed
    G.root call.elements G.bound fit.fitting room scope

-- whatever the contract lets it answer
pub fit_accepted : {call : Call} → FittingPattern call → Taken call → HasRoom call → ScopeOpen (start_of call) → (r : MatchCall) (body : Body) (visits : List ℕ) → Promised call r body visits →
    IsAcceptance call r body visits
fit_accepted {call} fit T room scope r body visits P =
    let (o, gave) = fit_lowered fit T room scope in
    let is : r ≡ Ok (counts_of o.ctx.state, o.then, o.else) = P.gives.reply ∙ ap (match_answer call.counts) (walks call T ∙ ap by_walk gave) in
    (record { counts = counts_of o.ctx.state; then = o.then; else = o.else; body = body; visits = visits }, is, refl, refl, subst (λ (x : MatchCall). Promised call x body visits) is P)

-- a refusal by 11 names a limit that is passed, whether the pattern fits or not
pub refused_limit : (call : Call) (p : PatId) → Refused call MirLowerError.Limit p → LimitPassed call
refused_limit call p refusal =
    let (T, W) = taken call (Err (PatternCallError.Refused MirLowerError.Limit p)) refusal.body refusal.visits tt refusal.promised in
    rooms.refused_limit call.image call.bindings (pattern_of call) (start_of call) call.start call.else call.place (given call T).root call.elements (given call T).within
    (given call T).bound p.0 (stopping (walk_of call) MirLowerError.Limit p W)

-- and one by 14 finds no scope open
pub refused_scope : (call : Call) (p : PatId) → Refused call MirLowerError.NoScope p → length (before call).scopes ≡ 0
refused_scope call p refusal =
    let (T, W) = taken call (Err (PatternCallError.Refused MirLowerError.NoScope p)) refusal.body refusal.visits tt refusal.promised in
    rooms.refused_scope call.image call.bindings (pattern_of call) (start_of call) call.start call.else call.place (given call T).root call.elements (given call T).within
    (given call T).bound p.0 (stopping (walk_of call) MirLowerError.NoScope p W)

-- an acceptance has made exactly as many locals and entries as are counted
pub made : (call : Call) (out : HandedOut) → Accepted call out → Made call.image call.bindings (pattern_of call) (start_of call) call.place (result_of out)
made call out accepted =
    rooms.made call.image call.bindings (pattern_of call) (start_of call) call.start call.else call.place (handed call out accepted).root call.elements
    (handed call out accepted).within (handed call out accepted).bound (result_of out) (gives call out accepted)

-- so there was room for it
pub had_room : (call : Call) (out : HandedOut) → Accepted call out → HasRoom call
unfolding counts_of
had_room call out accepted =
    record {
      blocks = let x = counts.blocks in let y = ready.block_count_lem in omega (arith, x, y);
      statements = let x = counts.statements in let y = ready.statement_count in omega (arith, x, y);
      locals = let x = makes.locals in let y = ready.local_count in omega (arith, x, y);
      entries = let x = makes.entries in let y = ready.entry_count in omega (arith, x, y);
      elements = makes.elements;
    }
  where
    gave : walk_of call ≡ ok (result_of out)
    gave = gives call out accepted

    counts : Counted call.image (pattern_of call) (start_of call) call.else call.place (result_of out)
    counts = counted call out accepted

    makes : Made call.image call.bindings (pattern_of call) (start_of call) call.place (result_of out)
    makes = made call out accepted

    ready : Ready out.body (counts_of (after out))
    ready =
        (subst (λ (w : Walk Out). CallHolds (λ r. r.ctx.state) call.body call.counts (by_walk w) out.body) gave
        (taken call (Ok (out.counts, out.then, out.else)) out.body out.visits tt accepted).1.gives.holds).ready
