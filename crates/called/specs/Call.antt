-- A call of `pattern_match`, what it hands out, and what its contract promises. Assumes nothing: these are definitions.
use Rattle.std.specs.Prelude.{Ok, Err}
use Rattle.std.specs.Prelude.{ℕ, ◌≡◌, List, length}
use Rattle.row_tables.specs.Rows.{zeros}
use Rattle.image.specs.declared.PatId.{PatId}
use Rattle.image.specs.Tree.{Pat, tree}
use Rattle.refusals.specs.declared.MirLowerError.{MirLowerError}
use Rattle.place.specs.declared.Place.{Place}
use Rattle.mir.specs.declared.BasicBlockId.{BasicBlockId}
use Rattle.mir.specs.declared.Counts.{Counts}
use Rattle.state.specs.State.{Body, State, decode}
use Rattle.lower_spec.specs.Results.{OptBlock}
use Rattle.calls_spec.specs.Lengths.{Lengths}
use Rattle.pattern_matching.specs.Walking.{Ctx, Out}
use Rattle.pattern_calls_spec.specs.Results.{MatchCall}
use Rattle.pattern_calls_spec.specs.Calls.{MatchGives}
use Rattle.body_calls_spec.specs.declared.PatternCallError.{PatternCallError}

-- what a call is handed: the image, the bindings' locals, the body, the words of the visits', the counts, the pattern's
-- number, the block to start from, an else or none, and a place
pub record Call : Type 0 where
  pub image : List ℕ
  pub bindings : List ℕ
  pub body : Body
  pub visits : List ℕ
  pub counts : Counts
  pub pattern : ℕ
  pub start : BasicBlockId
  pub else : OptBlock
  pub place : Place
  -- a body's tables have their lengths, and a place has room for 16 elements, by their types
  pub lengths : Lengths body
  pub elements : length place.elems ≡ 16

-- what a call hands out where it is accepted: the counts, the block where a match goes on, the one where a mismatch does, and the words of the tables
pub record HandedOut : Type 0 where
  pub counts : Counts
  pub then : BasicBlockId
  pub else : OptBlock
  pub body : Body
  pub visits : List ℕ

-- The contract of `pattern_match` (crates/pattern_match_call/src/lib.rt, its `ensures`), of a call, its answer, and the body and the visits when it returns.
abbrev pub Promised : Call → MatchCall → Body → List ℕ → Type 0
Promised call = MatchGives call.image call.bindings call.counts call.pattern call.start call.else call.place call.body call.visits

-- the call is accepted, and hands this out
abbrev pub Accepted : Call → HandedOut → Type 0
Accepted call out = Promised call (Ok (out.counts, out.then, out.else)) out.body out.visits

-- the call is refused in the walk, for this reason and at this pattern
pub record Refused (call : Call) (e : MirLowerError) (p : PatId) : Type 0 where
  pub body : Body
  pub visits : List ℕ
  pub promised : Promised call (Err (PatternCallError.Refused e p)) body visits

-- the body before the call and after it, as rows
abbrev pub before : Call → State
before call = decode call.body call.counts

abbrev pub after : HandedOut → State
after out = decode out.body out.counts

-- the pattern that the call is about
abbrev pub pattern_of : Call → Pat
pattern_of call = tree call.image call.pattern

-- where the definition's lowering starts: from the body before the call, with no pattern visited
abbrev pub start_of : Call → Ctx
start_of call = record { state = before call; visits = zeros 512 }

-- what the call hands out, as the definition's lowering gives it
abbrev pub result_of : HandedOut → Out
result_of out = record { ctx = record { state = after out; visits = out.visits }; then = out.then; else = out.else }
