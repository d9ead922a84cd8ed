-- The text of what a call of `pattern_match` answers: of the body after it, or of its refusal. Assumes nothing.
use Rattle.std.specs.Prelude.{Ok, Err}
use Prim.Native.Nat.{ℕ}
use mathlib.Core.Path.{◌≡◌, refl, sym, ap, subst, ◌∙◌}
use mathlib.Core.List.{List}
use native.Mathlib.Omega.{arith}
use Rattle.refusals.specs.declared.MirLowerError.{MirLowerError}
use Rattle.refusals.specs.Refusals.{breaks_a_rule, names_nothing, refusal_at}
use Rattle.image.specs.declared.PatId.{PatId}
use Rattle.mir.specs.declared.BasicBlockId.{BasicBlockId}
use Rattle.mir.specs.declared.Counts.{Counts}
use Rattle.state.specs.State.{Body, decode, counts_of}
use Rattle.state.specs.Promises.{Ready}
use Rattle.lower_spec.specs.Results.{OptBlock}
use Rattle.views.specs.Views.{mir_of}
use Rattle.listing_text.specs.Listing.{listing, refusal_text}
use Rattle.calls_spec.specs.Calls.{Called, bad_image, bad_call, refused_at, accepted}
use Rattle.calls_spec.specs.Promises.{CallHolds}
use Rattle.pattern_matching.specs.Walking.{Out}
use Rattle.pattern_walk_spec.specs.Calls.{Visits}
use Rattle.pattern_calls_spec.specs.Results.{MatchCall}
use Rattle.pattern_calls_spec.specs.Calls.{match_answer, match_way, match_ctx}
use Rattle.image_text.specs.Listed.{call_text, answer_text, Listable}
use Rattle.body_calls_spec.specs.declared.PatternCallError.{PatternCallError}

-- an accepted call
accepted_text : (before : Body) (c : Counts) (defined : Called Out) (b : Body) {c' : Counts} {then : BasicBlockId} {els : OptBlock} → Ok (c', then, els) ≡ match_answer c defined →
    CallHolds (λ r. r.ctx.state) before c defined b → (listing then els (mir_of (decode b c')) ≡ call_text defined) × Ready b c'
unfolding call_text
accepted_text before c bad_image b is holds = absurd (let z : ◌≡◌ {A = ℕ} 0 1 = cc in omega arith)
accepted_text before c bad_call b is holds = absurd (let z : ◌≡◌ {A = ℕ} 0 1 = cc in omega arith)
accepted_text before c (refused_at e p) b is holds = absurd (let z : ◌≡◌ {A = ℕ} 0 1 = cc in omega arith)
accepted_text before c (accepted r) b {c'} {then} {els} is holds =
    let same : ◌≡◌ {A = Counts × BasicBlockId × OptBlock} (c', then, els) (counts_of r.ctx.state, r.then, r.else) = cc in
    let count : c' ≡ counts_of r.ctx.state = ap (λ (given : Counts × BasicBlockId × OptBlock). given.0) same in
    let goes_on_lem : then ≡ r.then = ap (λ (given : Counts × BasicBlockId × OptBlock). given.1) same in
    let fails : els ≡ r.else = ap (λ (given : Counts × BasicBlockId × OptBlock). given.2) same in
    let state : decode b c' ≡ r.ctx.state = ap (decode b) count ∙ holds.reads in
    (rw (goes_on_lem, fails) (ap (listing r.then r.else) (ap mir_of state)), subst (Ready b) (sym count) holds.ready)

-- a refused one
refused_text : (c : Counts) (defined : Called Out) {e : MirLowerError} {p : PatId} → Err (PatternCallError.Refused e p) ≡ match_answer c defined → refusal_text (refusal_at e p.0) ≡ call_text defined
unfolding call_text
refused_text c bad_image is = absurd (let z : ◌≡◌ {A = ℕ} 0 1 = cc in omega arith)
refused_text c bad_call is = absurd (let z : ◌≡◌ {A = ℕ} 0 1 = cc in omega arith)
refused_text c (accepted r) is = absurd (let z : ◌≡◌ {A = ℕ} 0 1 = cc in omega arith)
refused_text c (refused_at f q) {e} {p} is =
    let why : e ≡ f = cc in
    let at : p ≡ record { 0 = q } = cc in
    rw (why, at)

bad_call_text : (c : Counts) (defined : Called Out) → (Err PatternCallError.BadCall) ≡ match_answer c defined → refusal_text names_nothing ≡ call_text defined
unfolding call_text
bad_call_text c bad_image is = absurd (let z : ◌≡◌ {A = ℕ} 0 1 = cc in omega arith)
bad_call_text c bad_call is = refl
bad_call_text c (accepted r) is = absurd (let z : ◌≡◌ {A = ℕ} 0 1 = cc in omega arith)
bad_call_text c (refused_at e p) is = absurd (let z : ◌≡◌ {A = ℕ} 0 1 = cc in omega arith)

bad_image_text : (c : Counts) (defined : Called Out) → (Err PatternCallError.BadImage) ≡ match_answer c defined → refusal_text breaks_a_rule ≡ call_text defined
unfolding call_text
bad_image_text c bad_image is = refl
bad_image_text c bad_call is = absurd (let z : ◌≡◌ {A = ℕ} 0 1 = cc in omega arith)
bad_image_text c (accepted r) is = absurd (let z : ◌≡◌ {A = ℕ} 0 1 = cc in omega arith)
bad_image_text c (refused_at e p) is = absurd (let z : ◌≡◌ {A = ℕ} 0 1 = cc in omega arith)

-- of a call that answered r, with the body b' at exit
module _ {b : Body} {v : List ℕ} {c : Counts} {defined : Called Out} {b' : Body} {v' : List ℕ} where
  -- the text is what the definition prints
  pub answered : (r : MatchCall) → Visits match_way match_ctx b v c defined r b' v' → answer_text b' r ≡ call_text defined
  unfolding answer_text
  answered (Ok (c', then, els)) G = (accepted_text b c defined b' G.gives.reply G.gives.holds).0
  answered (Err (PatternCallError.Refused e p)) G = refused_text c defined G.gives.reply
  answered (Err PatternCallError.BadCall) G = bad_call_text c defined G.gives.reply
  answered (Err PatternCallError.BadImage) G = bad_image_text c defined G.gives.reply

  -- and the body can be listed
  pub listable : (r : MatchCall) → Visits match_way match_ctx b v c defined r b' v' → Listable r
  listable (Ok (c', then, els)) G =
      let R = (accepted_text b c defined b' G.gives.reply G.gives.holds).1 in
      (R.block_count_lem, R.statement_count, R.local_count)
  listable (Err (PatternCallError.Refused e p)) G = tt
  listable (Err PatternCallError.BadCall) G = tt
  listable (Err PatternCallError.BadImage) G = tt

-- the ways through `put_answer`
module _ (b : Body) {answer : MatchCall} where
  pub listing_asked : {c : Counts} {then : BasicBlockId} {els : OptBlock} → answer ≡ Ok (c, then, els) → Listable answer → Listable (Ok (c, then, els))
  listing_asked is L = subst Listable is L

  pub lists : {c : Counts} {then : BasicBlockId} {els : OptBlock} → answer ≡ Ok (c, then, els) →
      listing then els (mir_of (decode b c)) ≡ answer_text b answer
  unfolding answer_text
  lists is = sym (ap (answer_text b) is)

  pub refuses : {e : MirLowerError} {p : PatId} → answer ≡ Err (PatternCallError.Refused e p) → refusal_text (refusal_at e p.0) ≡ answer_text b answer
  unfolding answer_text
  refuses is = sym (ap (answer_text b) is)

  pub refuses_call : answer ≡ (Err PatternCallError.BadCall) → refusal_text names_nothing ≡ answer_text b answer
  unfolding answer_text
  refuses_call is = sym (ap (answer_text b) is)

  pub refuses_image : answer ≡ (Err PatternCallError.BadImage) → refusal_text breaks_a_rule ≡ answer_text b answer
  unfolding answer_text
  refuses_image is = sym (ap (answer_text b) is)
