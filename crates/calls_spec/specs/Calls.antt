-- What a public call gives, and what it leaves: one form for the calls on a body, on patterns and on parameters. Assumes nothing: these are definitions.
use Rattle.std.specs.Prelude.{ℕ, Bool, cond}
use Rattle.std.proofs.Math.Option.{Option, none, some}
use Rattle.refusals.specs.declared.MirLowerError.{MirLowerError}
use Rattle.refusals.specs.Refusals.{Refusal, no_pattern, breaks_a_rule, names_nothing, refusal_at, Result, done, stopped}
use Rattle.mir.specs.declared.Counts.{Counts}
use Rattle.state.specs.State.{Body, State, decode, encode}

-- what a call gives: the image breaks a rule, the body or a number of the call names nothing, its step is refused for this reason at this pattern, or is accepted and gives this
pub data Called (A : Type 0) : Type 0 where
  bad_image : Called A
  bad_call : Called A
  refused_at : MirLowerError → ℕ → Called A
  accepted : A → Called A

-- "1 is tried before 2, both before the walk": `rules` says whether image and list keep the rules, `names` whether all else that is handed in names something
unfoldable pub call : {A : Type 0} → Bool → Bool → Called A → Called A
call rules names step = cond rules (cond names step bad_call) bad_image

-- a step that is about no pattern, as a call's
abbrev pub by_step : {A : Type 0} → Result A → Called A
by_step (done a) = accepted a
by_step (stopped e) = refused_at e no_pattern

-- document 01's three numbers, where there is a refusal
abbrev pub refusal_of : {A : Type 0} → Called A → Option Refusal
refusal_of bad_image = some breaks_a_rule
refusal_of bad_call = some names_nothing
refusal_of (refused_at e p) = some (refusal_at e p)
refusal_of (accepted a) = none

-- what a call leaves of what it was lent: "Refusals 1 and 2 write nothing", and so what was found is left; another refusal leaves `restored`, an acceptance what its step says
abbrev pub leaves : {A X : Type 0} → X → X → (A → X) → Called A → X
leaves found restored given bad_image = found
leaves found restored given bad_call = found
leaves found restored given (refused_at e p) = restored
leaves found restored given (accepted a) = given a

-- the body: "Any other leaves every record below the body's and scopes' counts as found and zeros above .. After acceptance too, zeros stand above the counts."
abbrev pub body_after : {A : Type 0} → (A → State) → Body → Counts → Called A → Body
body_after state_of b c = leaves b (encode (decode b c)) (λ a. encode (state_of a))
