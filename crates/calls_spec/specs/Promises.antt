-- What a public call promises: one form for every call. Assumes nothing: these are definitions.
use Rattle.std.specs.Prelude.{◌≡◌}
use Rattle.std.proofs.Math.Option.{Option}
use Rattle.refusals.specs.Refusals.{Refusal}
use Rattle.mir.specs.declared.Counts.{Counts}
use Rattle.state.specs.State.{Body, State, decode, counts_of}
use Rattle.state.specs.Promises.{Ready}
use Rattle.calls_spec.specs.Calls.{Called, bad_image, bad_call, refused_at, accepted, refusal_of, body_after}

-- how a call answers: the state that an accepted step leaves, the answer from the counts before and what the definition gives, and an answer's three numbers
pub record Way (A R : Type 0) : Type 0 where
  pub state_of : A → State
  pub answer : Counts → Called A → R
  pub numbers : R → Option Refusal

-- the tables b, read with the counts c, hold the state st, and are ready for the next step: the counts are within the limits, and zeros stand above them
pub record Holds (b : Body) (c : Counts) (st : State) : Type 0 where
  pub reads : decode b c ≡ st
  pub ready : Ready b c

-- after a call: an accepted step leaves its state, with the counts that are handed out, and a refused one the state before; numbers 1 and 2 write nothing
abbrev pub CallHolds : {A : Type 0} → (A → State) → Body → Counts → Called A → Body → Type 0
CallHolds state_of b c bad_image b' = Unit
CallHolds state_of b c bad_call b' = Unit
CallHolds state_of b c (refused_at e p) b' = Holds b' c (decode b c)
CallHolds state_of b c (accepted a) b' = Holds b' (counts_of (state_of a)) (state_of a)

-- a call's promise: its answer r, the three numbers of a refusal and the tables b' at exit are those that the definition gives from the tables b and the counts c,
-- and the tables hold a state from which the next call can start
pub record Gives {A R : Type 0} (way : Way A R) (b : Body) (c : Counts) (defined : Called A) (r : R) (b' : Body) : Type 0 where
  pub reply : r ≡ way.answer c defined
  pub refusal : way.numbers r ≡ refusal_of defined
  pub tables : b' ≡ body_after way.state_of b c defined
  pub holds : CallHolds way.state_of b c defined b'
