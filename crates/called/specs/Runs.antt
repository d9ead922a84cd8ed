-- A pattern that fits the place of its call, a value on it, and where the run comes. Assumes nothing: these are definitions.
use Rattle.std.specs.Prelude.{Some}
use Rattle.std.specs.Prelude.{ℕ, ◌<◌, ◌≡◌, Bool, true, List, get_or, drop}
use Rattle.image.specs.Tables.{type_count}
use Rattle.place.specs.declared.place_ty.PlaceTy.{PlaceTy}
use Rattle.mir.specs.declared.BasicBlockId.{BasicBlockId}
use Rattle.pattern_matching.specs.Variants.{place_ty}
use Rattle.views.specs.Views.{Line, Mir, mir_of}
use Rattle.counting.specs.Reaching.{Reached}
use Rattle.counting.specs.Counting.{reached_from, IsReached}
use Rattle.meaning.specs.Values.{Value, value_fits}
use Rattle.meaning.specs.Running.{Env}
use Rattle.meaning.specs.Executing.{Position, Ending, at_then, at_else}
use Rattle.meaning.specs.Matching.{Bound, matches}
use Rattle.meaning.specs.Binding.{binds}
use Rattle.meaning.specs.Fit.{fits}
use Rattle.correctness.specs.Demand2.{place_path, Stops, Comes, Ends}
use Rattle.called.specs.Call.{Call, HandedOut, Accepted, before, after, pattern_of, start_of}

-- the type of the place that the call is about
abbrev pub place_ty_of : Call → PlaceTy
place_ty_of call = place_ty call.image (before call) call.place

-- the patterns that the call reaches
abbrev pub IsReachedIn : Call → Reached → Type 0
IsReachedIn call q = IsReached q (reached_from call.image (pattern_of call) (place_ty_of call))

-- the place has a type of the table
pub record OfType (call : Call) (t : ℕ) : Type 0 where
  pub typed : place_ty_of call ≡ PlaceTy.Ty t
  pub named : t < type_count call.image

-- the pattern fits its place
pub record FittingPattern (call : Call) : Type 0 where
  pub type : ℕ
  pub of_type : OfType call type
  pub fitting : fits call.image call.bindings call.place.local.0 type (pattern_of call) ≡ true

-- the call is accepted, its pattern fits its place, and so does a value; an image is bytes
pub record FittingValue (call : Call) (out : HandedOut) : Type 0 where
  pub accepted : Accepted call out
  pub image_bytes : (i : ℕ) → get_or call.image i 0 < 256
  pub pattern : FittingPattern call
  pub value : Value
  pub value_fits_lem : value_fits call.image value pattern.type ≡ true

module _ {call : Call} {out : HandedOut} (on : FittingValue call out) where
  -- whether "the Reference says it matches"
  abbrev pub matching : Bool
  matching = matches call.image (pattern_of call) on.value

  -- "the bindings it says"
  abbrev pub bound : List Bound
  bound = binds call.image (pattern_of call) (place_path call.place) on.value

  -- a run on the value, in a body M, what the locals hold before being env: it stops at a block, with these lines still to be looked at
  abbrev pub StopsAt : Mir → Env → ℕ → List Line → Type 0
  StopsAt M env b lines = Stops call.image M call.place on.value (start_of call) call.start env b lines

  -- and after it every local handed in holds what is bound to it, or what it held
  abbrev pub ComesTo : Mir → Env → List Bound → ℕ → List Line → Type 0
  ComesTo M env bs b lines = Comes call.image call.bindings M call.place on.value (start_of call) call.start env bs b lines

  -- the run as a function, in the body that the call hands out, ends where that run stops
  abbrev pub EndsWhere : (env : Env) (b : ℕ) (lines : List Line) → StopsAt (mir_of (after out)) env b lines → (Position → Ending) → Type 0
  EndsWhere env b lines stops at = Ends call.image (mir_of (after out)) call.place on.value (start_of call) call.start env out.then out.else b lines stops at

  -- what is still to be looked at at the end of then: what a later call adds
  abbrev pub behind_then : Mir → List Line
  behind_then M = drop out.counts.statements M.lines

  -- the run comes to the end of then, with these bindings
  abbrev pub ComesToThen : Mir → Env → List Bound → Type 0
  ComesToThen M env bs = ComesTo M env bs out.then.0 (behind_then M)

  -- it reaches the else, which there is, with these
  abbrev pub ComesToElse : Mir → Env → List Bound → Type 0
  ComesToElse M env bs = (e : BasicBlockId) × (out.else ≡ Some e) × ComesTo M env bs e.0 M.lines

  -- it stops at the end of then, or on reaching the else
  abbrev pub StopsAtThen : Mir → Env → Type 0
  StopsAtThen M env = StopsAt M env out.then.0 (behind_then M)

  abbrev pub StopsAtElse : Mir → Env → Type 0
  StopsAtElse M env = (e : BasicBlockId) × (out.else ≡ Some e) × StopsAt M env e.0 M.lines

  -- the run as a function comes to the end of then, with these bindings
  abbrev pub FunctionComesToThen : Env → List Bound → Type 0
  FunctionComesToThen env bs =
      let M = mir_of (after out) in
      (c : ComesToThen M env bs) × EndsWhere env out.then.0 (behind_then M) c.stops at_then

  -- it reaches the else
  abbrev pub FunctionComesToElse : Env → List Bound → Type 0
  FunctionComesToElse env bs =
      let M = mir_of (after out) in
      (e : BasicBlockId) × (out.else ≡ Some e) × (c : ComesTo M env bs e.0 M.lines) × EndsWhere env e.0 M.lines c.stops at_else
