-- Calls that document 01's numbers 1 and 2 do not refuse, those with room, and their acceptance. Assumes nothing: these are definitions.
use Rattle.std.specs.Prelude.{Ok}
use Rattle.std.specs.Prelude.{ℕ, ◌≡◌, true, List}
use Rattle.image.specs.Valid.{valid}
use Rattle.state.specs.State.{Body}
use Rattle.body_calls_spec.specs.Calls.{body_taken}
use Rattle.handed.specs.Handed.{match_holds}
use Rattle.pattern_calls_spec.specs.Results.{MatchCall}
use Rattle.pattern_calls_spec.specs.Calls.{named_in}
use Rattle.room.specs.Room.{Room, Passed}
use Rattle.called.specs.Call.{Call, HandedOut, Accepted, pattern_of, start_of}

-- the image, the body and the numbers that the call was handed are taken
pub record Taken (call : Call) : Type 0 where
  pub image_valid : valid call.image ≡ true
  pub body : body_taken call.image call.body call.counts ≡ true
  pub names : match_holds (named_in call.image) call.bindings call.body.blocks call.counts call.pattern call.start call.else call.place ≡ true

-- there is room for the call's pattern
abbrev pub HasRoom : Call → Type 0
HasRoom call = Room call.image call.bindings (pattern_of call) (start_of call) call.else call.place

-- a limit is passed by what the call's pattern needs
abbrev pub LimitPassed : Call → Type 0
LimitPassed call = Passed call.image call.bindings (pattern_of call) (start_of call) call.else call.place

-- the answer is an acceptance, with this in the tables
abbrev pub IsAcceptance : Call → MatchCall → Body → List ℕ → Type 0
IsAcceptance call r body visits =
    (out : HandedOut) × (r ≡ Ok (out.counts, out.then, out.else)) × (out.body ≡ body) × (out.visits ≡ visits) × Accepted call out
