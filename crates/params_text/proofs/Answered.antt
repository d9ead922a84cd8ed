-- The text of what a call of `lower_params_and_bindings` answers: of the body after it, or of its refusal. Assumes nothing.
use Rattle.std.specs.Prelude.{None, Ok, Err}
use Prim.Native.Nat.{ℕ, ◌+◌, ◌-◌, ◌≤◌}
use mathlib.Core.Path.{◌≡◌, refl, sym, ap, subst, ◌∙◌}
use mathlib.Core.List.{List, ◌++◌}
use native.Mathlib.Omega.{arith}
use lib.ListN.{take, drop}
use lib.Seq.{take-take}
use Rattle.refusals.specs.declared.MirLowerError.{MirLowerError}
use Rattle.refusals.specs.Refusals.{breaks_a_rule, names_nothing, refusal_at}
use Rattle.image.specs.declared.PatId.{PatId}
use Rattle.place.specs.declared.LocalId.{LocalId}
use Rattle.mir.specs.declared.BasicBlockId.{BasicBlockId}
use Rattle.mir.specs.declared.Counts.{Counts}
use Rattle.state.specs.State.{Body, State, decode, counts_of}
use Rattle.state.specs.Promises.{Ready}
use Rattle.views.specs.Views.{mir_of}
use Rattle.body_tables.specs.Layout.{entries_at, body_of}
use Rattle.listing_text.specs.Listing.{listing, refusal_text}
use Rattle.calls_spec.specs.Calls.{Called, bad_image, bad_call, refused_at, accepted}
use Rattle.calls_spec.specs.Promises.{CallHolds}
use Rattle.params_spec.specs.Results.{ParamsCall}
use Rattle.params_spec.specs.Params.{ParamsOut}
use Rattle.params_spec.specs.Calls.{params_answer, bindings_after, GivesParams}
use Rattle.params_lines.specs.Lines.{lines_text}
use Rattle.params_text.specs.Texts.{call_text, answer_text, Listable}
use Rattle.body_calls_spec.specs.declared.PatternCallError.{PatternCallError}

-- the text of a state, with the parameters' and the bindings' locals
state_text : BasicBlockId → ℕ → ℕ → List ℕ → State → List ℕ
state_text then first many bindings st = listing then None (mir_of st) ++ lines_text first many bindings st.entries

-- the text of a body's state
state_same : (b : Body) (c : Counts) (then : BasicBlockId) (first many : ℕ) (bindings : List ℕ) →
    listing then None (mir_of (decode b c)) ++ lines_text first many bindings (take c.entries b.entries) ≡ state_text then first many bindings (decode b c)
unfolding decode state_text
state_same b c then first many bindings = refl

-- an accepted call
accepted_text : (before : Body) (c : Counts) (many : ℕ) (defined : Called ParamsOut) (b : Body) (bindings : List ℕ) {m : List ℕ} {c' : Counts} {then : BasicBlockId} {first : LocalId} →
    Ok (c', then, first) ≡ params_answer c defined → CallHolds (λ r. r.ctx.state) before c defined b → m ≡ bindings_after bindings defined →
    state_text then first.0 many m (decode b c') ≡ call_text c.locals many defined
unfolding call_text state_text
accepted_text before c many bad_image b bindings is holds bound = absurd (let z : ◌≡◌ {A = ℕ} 0 1 = cc in omega arith)
accepted_text before c many bad_call b bindings is holds bound = absurd (let z : ◌≡◌ {A = ℕ} 0 1 = cc in omega arith)
accepted_text before c many (refused_at e p) b bindings is holds bound = absurd (let z : ◌≡◌ {A = ℕ} 0 1 = cc in omega arith)
accepted_text before c many (accepted r) b bindings {m} {c'} {then} {first} is holds bound =
    let same : ◌≡◌ {A = Counts × BasicBlockId × LocalId} (c', then, first) (counts_of r.ctx.state, r.then, record { 0 = c.locals }) = cc in
    let count : c' ≡ counts_of r.ctx.state = ap (λ (given : Counts × BasicBlockId × LocalId). given.0) same in
    let goes_on_lem : then ≡ r.then = ap (λ (given : Counts × BasicBlockId × LocalId). given.1) same in
    let begins : first ≡ record { 0 = c.locals } = ap (λ (given : Counts × BasicBlockId × LocalId). given.2) same in
    let state : decode b c' ≡ r.ctx.state = ap (decode b) count ∙ holds.reads in
    λ i. state_text (goes_on_lem i) (begins i).0 many (bound i) (state i)

accepted_ready : (before : Body) (c : Counts) (defined : Called ParamsOut) (b : Body) {c' : Counts} {then : BasicBlockId} {first : LocalId} →
    Ok (c', then, first) ≡ params_answer c defined → CallHolds (λ r. r.ctx.state) before c defined b → Ready b c' × (first.0 ≡ c.locals)
accepted_ready before c bad_image b is holds = absurd (let z : ◌≡◌ {A = ℕ} 0 1 = cc in omega arith)
accepted_ready before c bad_call b is holds = absurd (let z : ◌≡◌ {A = ℕ} 0 1 = cc in omega arith)
accepted_ready before c (refused_at e p) b is holds = absurd (let z : ◌≡◌ {A = ℕ} 0 1 = cc in omega arith)
accepted_ready before c (accepted r) b {c'} {then = then} {first = first} is holds =
    let same : ◌≡◌ {A = Counts × BasicBlockId × LocalId} (c', then, first) (counts_of r.ctx.state, r.then, record { 0 = c.locals }) = cc in
    let count : c' ≡ counts_of r.ctx.state = ap (λ (given : Counts × BasicBlockId × LocalId). given.0) same in
    let begins : first ≡ record { 0 = c.locals } = ap (λ (given : Counts × BasicBlockId × LocalId). given.2) same in
    (subst (Ready b) (sym count) holds.ready, λ i. (begins i).0)

-- a refused one
refused_text : (c : Counts) (many : ℕ) (defined : Called ParamsOut) {e : MirLowerError} {p : PatId} → Err (PatternCallError.Refused e p) ≡ params_answer c defined →
    refusal_text (refusal_at e p.0) ≡ call_text c.locals many defined
unfolding call_text
refused_text c many bad_image is = absurd (let z : ◌≡◌ {A = ℕ} 0 1 = cc in omega arith)
refused_text c many bad_call is = absurd (let z : ◌≡◌ {A = ℕ} 0 1 = cc in omega arith)
refused_text c many (accepted r) is = absurd (let z : ◌≡◌ {A = ℕ} 0 1 = cc in omega arith)
refused_text c many (refused_at f q) {e} {p} is =
    let why : e ≡ f = cc in
    let at : p ≡ record { 0 = q } = cc in
    rw (why, at)

bad_call_text : (c : Counts) (many : ℕ) (defined : Called ParamsOut) → (Err PatternCallError.BadCall) ≡ params_answer c defined → refusal_text names_nothing ≡ call_text c.locals many defined
unfolding call_text
bad_call_text c many bad_image is = absurd (let z : ◌≡◌ {A = ℕ} 0 1 = cc in omega arith)
bad_call_text c many bad_call is = refl
bad_call_text c many (accepted r) is = absurd (let z : ◌≡◌ {A = ℕ} 0 1 = cc in omega arith)
bad_call_text c many (refused_at e p) is = absurd (let z : ◌≡◌ {A = ℕ} 0 1 = cc in omega arith)

bad_image_text : (c : Counts) (many : ℕ) (defined : Called ParamsOut) → (Err PatternCallError.BadImage) ≡ params_answer c defined → refusal_text breaks_a_rule ≡ call_text c.locals many defined
unfolding call_text
bad_image_text c many bad_image is = refl
bad_image_text c many bad_call is = absurd (let z : ◌≡◌ {A = ℕ} 0 1 = cc in omega arith)
bad_image_text c many (accepted r) is = absurd (let z : ◌≡◌ {A = ℕ} 0 1 = cc in omega arith)
bad_image_text c many (refused_at e p) is = absurd (let z : ◌≡◌ {A = ℕ} 0 1 = cc in omega arith)

-- of a call that answered r, with the body b' and the bindings' locals m at exit
module _ {bindings : List ℕ} {b : Body} {v : List ℕ} {c : Counts} {defined : Called ParamsOut} {m : List ℕ} {b' : Body} {v' : List ℕ} (many : ℕ) where
  -- the text is what the definition prints
  pub answered : (r : ParamsCall) → GivesParams bindings b v c defined r m b' v' → answer_text b' m many r ≡ call_text c.locals many defined
  unfolding answer_text
  answered (Ok (c', then, first)) G =
      state_same b' c' then first.0 many m ∙ accepted_text b c many defined b' bindings G.visits.gives.reply G.visits.gives.holds G.locals
  answered (Err (PatternCallError.Refused e p)) G = refused_text c many defined G.visits.gives.reply
  answered (Err PatternCallError.BadCall) G = bad_call_text c many defined G.visits.gives.reply
  answered (Err PatternCallError.BadImage) G = bad_image_text c many defined G.visits.gives.reply

  -- and the body can be listed
  pub listable : c.locals + many ≤ 65535 → (r : ParamsCall) → GivesParams bindings b v c defined r m b' v' → Listable many r
  listable few (Ok (c', then, first)) G =
      let (R, begins) = accepted_ready b c defined b' G.visits.gives.reply G.visits.gives.holds in
      ((R.block_count_lem, R.statement_count, R.local_count), R.entry_count, omega (arith, few, begins))
  listable few (Err (PatternCallError.Refused e p)) G = tt
  listable few (Err PatternCallError.BadCall) G = tt
  listable few (Err PatternCallError.BadImage) G = tt

-- the entries in use, where they lie among the words
pub entries_part : (w : List ℕ) (n : ℕ) → n ≤ 1024 → take (entries_at + n - entries_at) (drop entries_at w) ≡ take n (body_of w).entries
unfolding body_of
entries_part w n h =
    let e : entries_at + n - entries_at ≡ n = omega arith in
    ap (λ (k : ℕ). take k (drop entries_at w)) e ∙ sym (take-take n 1024 (drop entries_at w) h)

-- the ways through `put_params_answer`
module _ (b : Body) (bindings : List ℕ) (many : ℕ) {answer : ParamsCall} where
  pub listing_asked : {c : Counts} {then : BasicBlockId} {first : LocalId} → answer ≡ Ok (c, then, first) → Listable many answer →
      Listable many (Ok (c, then, first))
  listing_asked is L = subst (Listable many) is L

  pub lists : {c : Counts} {then : BasicBlockId} {first : LocalId} → answer ≡ Ok (c, then, first) →
      listing then None (mir_of (decode b c)) ++ lines_text first.0 many bindings (take c.entries b.entries) ≡ answer_text b bindings many answer
  unfolding answer_text
  lists is = sym (ap (answer_text b bindings many) is)

  pub refuses : {e : MirLowerError} {p : PatId} → answer ≡ Err (PatternCallError.Refused e p) → refusal_text (refusal_at e p.0) ≡ answer_text b bindings many answer
  unfolding answer_text
  refuses is = sym (ap (answer_text b bindings many) is)

  pub refuses_call : answer ≡ (Err PatternCallError.BadCall) → refusal_text names_nothing ≡ answer_text b bindings many answer
  unfolding answer_text
  refuses_call is = sym (ap (answer_text b bindings many) is)

  pub refuses_image : answer ≡ (Err PatternCallError.BadImage) → refusal_text breaks_a_rule ≡ answer_text b bindings many answer
  unfolding answer_text
  refuses_image is = sym (ap (answer_text b bindings many) is)
