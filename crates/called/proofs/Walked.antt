-- What the promise of a call says that came to the walk: image, body and numbers were taken, and what the walk gives. Assumes nothing.
use Rattle.lower_spec.specs.Results.{OptBlock}
use Rattle.mir.specs.declared.BasicBlockId.{BasicBlockId}
use Rattle.std.specs.Prelude.{Ok, Err}
use Prim.Native.Nat.{ℕ}
use mathlib.Core.Path.{◌≡◌, refl, sym, ap, ap₂, subst}
use mathlib.Core.Bool.{Bool, true, false, cond, ◌&&◌}
use mathlib.Core.List.{List, map}
use native.Mathlib.Omega.{arith}
use Rattle.image.specs.declared.PatId.{PatId}
use Rattle.image.specs.Valid.{valid}
use Rattle.refusals.specs.declared.MirLowerError.{MirLowerError}
use Rattle.mir.specs.declared.Counts.{Counts}
use Rattle.state.specs.State.{Body, decode, counts_of}
use Rattle.body_calls_spec.specs.Calls.{body_taken}
use Rattle.pattern_matching.specs.Walking.{Out, Walk, ok, refused}
use Rattle.pattern_matching.specs.Patterns.{pattern_match}
use Rattle.pattern_walk_spec.specs.Answers.{visit_word}
use Rattle.pattern_calls_spec.specs.Results.{MatchCall}
use Rattle.handed.specs.Handed.{match_holds}
use Rattle.calls_spec.specs.Calls.{bad_image, bad_call}
use Rattle.calls_spec.specs.Calls.{call as calling}
use Rattle.pattern_walk_spec.specs.Calls.{by_walk, Visits}
use Rattle.pattern_calls_spec.specs.Calls.{named_in, pattern_match_call, match_way, match_ctx}
use Rattle.called.specs.Call.{Call, HandedOut, Promised, pattern_of, start_of}
use Rattle.called.specs.Acceptance.{Taken}
use Rattle.body_calls_spec.specs.declared.PatternCallError.{PatternCallError}

-- an answer of the walk
abbrev pub OfTheWalk : MatchCall → Type 0
OfTheWalk (Ok (c, then, els)) = Unit {0}
OfTheWalk (Err (PatternCallError.Refused e p)) = Unit {0}
OfTheWalk (Err PatternCallError.BadCall) = ⊥
OfTheWalk (Err PatternCallError.BadImage) = ⊥

-- the walk of the definition
abbrev pub walk_of : Call → Walk Out
walk_of call = pattern_match call.image call.bindings (pattern_of call) (start_of call) call.start call.else call.place

-- a promise whose answer is one of the walk: the three tests were passed
passed : (v t n : Bool) (w : Walk Out) {b : Body} {before : List ℕ} {c : Counts} (r : MatchCall) {b' : Body} {after : List ℕ} → OfTheWalk r →
    Visits match_way match_ctx b before c (cond v (cond (t && n) (by_walk w) bad_call) bad_image) r b' after → (v ≡ true) × (t ≡ true) × (n ≡ true) × Visits match_way match_ctx b before c (by_walk w) r b' after
passed false t n w r k P = absurd (subst OfTheWalk P.gives.reply k)
passed true false n w r k P = absurd (subst OfTheWalk P.gives.reply k)
passed true true false w r k P = absurd (subst OfTheWalk P.gives.reply k)
passed true true true w r k P = (refl, refl, refl, P)

-- a call with such an answer was handed what is taken, and its promise is that of the walk
pub taken : (call : Call) (r : MatchCall) (b : Body) (visits : List ℕ) → OfTheWalk r → Promised call r b visits →
    Taken call × Visits match_way match_ctx call.body call.visits call.counts (by_walk (walk_of call)) r b visits
unfolding pattern_match_call calling
taken call r b visits k P =
    let (v, t, n, w) = passed (valid call.image) (body_taken call.image call.body call.counts)
    (match_holds (named_in call.image) call.bindings call.body.blocks call.counts call.pattern call.start call.else call.place) (walk_of call) r k P in
    (record { image_valid = v; body = t; names = n }, w)

-- what an accepted walk gave, and how it was handed out
pub record Handing (w : Walk Out) (out : HandedOut) : Type 0 where
  pub result : Out
  pub gave : w ≡ ok result
  pub counts : out.counts ≡ counts_of result.ctx.state
  pub then : out.then ≡ result.then
  pub else : out.else ≡ result.else
  pub reads : decode out.body (counts_of result.ctx.state) ≡ result.ctx.state
  pub visits : out.visits ≡ map visit_word result.ctx.visits

-- it is what the promise says
pub handing : (w : Walk Out) (out : HandedOut) {b : Body} {before : List ℕ} {c : Counts} →
    Visits match_way match_ctx b before c (by_walk w) (Ok (out.counts, out.then, out.else)) out.body out.visits → Handing w out
handing (ok r) out P =
    let same : ◌≡◌ {A = Counts × BasicBlockId × OptBlock} (out.counts, out.then, out.else) (counts_of r.ctx.state, r.then, r.else) = let reply = P.gives.reply in cc in
    record { result = r; gave = refl; counts = ap (λ (given : Counts × BasicBlockId × OptBlock). given.0) same; then = ap (λ (given : Counts × BasicBlockId × OptBlock). given.1) same; else = ap (λ (given : Counts × BasicBlockId × OptBlock). given.2) same; reads = P.gives.holds.reads; visits = P.visits }
handing (refused e p) out P = let reply = P.gives.reply in absurd (let z : ◌≡◌ {A = ℕ} 0 1 = cc in omega arith)

-- what a refused walk gave
pub stopping : (w : Walk Out) (e : MirLowerError) (p : PatId) {b b' : Body} {before after : List ℕ} {c : Counts} →
    Visits match_way match_ctx b before c (by_walk w) (Err (PatternCallError.Refused e p)) b' after → w ≡ refused e p.0
stopping (ok r) e p P = let reply = P.gives.reply in absurd (let z : ◌≡◌ {A = ℕ} 0 1 = cc in omega arith)
stopping (refused e₁ q) e p P =
    let reply = P.gives.reply in
    let same : ◌≡◌ {A = PatId} p (record { 0 = q }) = cc in
    let error : e ≡ e₁ = cc in
    ap₂ refused (sym error) (ap (λ (x : PatId). x.0) (sym same))
