-- Rows on which "fits", "matches", what is bound and the run are computed, held against what is wanted of them. Assumes nothing: these are definitions.
use Rattle.std.specs.Prelude.{None}
use Rattle.std.specs.Prelude.{ℕ, ◌-◌, Bool, cond, List, [], map}
use Rattle.image.specs.Tables.{pattern_count}
use Rattle.image.specs.Tree.{Pat, tree}
use Rattle.image.specs.Valid.{valid}
use Rattle.views.specs.Views.{Mir, Path, mir_of}
use Rattle.pattern_matching.specs.Walking.{Out, Walk, ok, refused, local_place}
use Rattle.meaning.specs.Values.{Value, unit_value, value_fits}
use Rattle.meaning.specs.Running.{Held, value}
use Rattle.meaning.specs.Executing.{Ending, at_then, at_else, stuck, unfinished, runs}
use Rattle.meaning.specs.Matching.{Bound, matches}
use Rattle.meaning.specs.Binding.{binds}
use Rattle.meaning.specs.Fit.{fits}
use Rattle.audit.specs.Started.{start}
use Rattle.audit.specs.Call.{lowering}

-- where a run comes: to the end of then, with what the bindings' locals hold there; to the else; or to neither, as where the pattern is refused
pub data Came : Type 0 where
  to_then : List Held → Came
  to_else : Came
  to_neither : Came

-- a value on a pattern's place: it is not of the place's type, it does not match, or it matches and binds; and where its run comes
pub data Tried : Type 0 where
  not_of_type : Value → Tried
  unmatched : Value → Came → Tried
  matched : Value → List Bound → Came → Tried

abbrev pub tried_value : Tried → Value
tried_value (not_of_type v) = v
tried_value (unmatched v came) = v
tried_value (matched v bound came) = v

-- an image, whether it is valid, the type of local 0, against which its last pattern is taken, the bindings' locals, whether the pattern fits, and values
pub record Judgement : Type 0 where
  pub image : List ℕ
  pub holds : Bool
  pub ty : ℕ
  pub locals : List ℕ
  pub fit : Bool
  pub tried : List Tried

-- the place handed in: local 0
abbrev pub root : Path
root = record { local = 0; elems = [] }

abbrev pub came_to : List ℕ → Ending → Came
came_to locals (at_then p) = to_then (map (λ l. p.env l) locals)
came_to locals (at_else p) = to_else
came_to locals (stuck p) = to_neither
came_to locals unfinished = to_neither

-- where the run of a lowered body comes, every local holding nothing before
abbrev pub came_by : List ℕ → List ℕ → Value → Walk Out → Came
came_by image locals v (ok r) =
    let m : Mir = mir_of r.ctx.state in
    came_to locals
    (runs (record { image = image; root = root; here = v }) m r.then.0 r.else 1000 (record { block = 0; lines = m.lines; env = λ l. value unit_value; entered = [] }))
came_by image locals v (refused e p) = to_neither

-- a value is tried
unfoldable pub try : List ℕ → List ℕ → ℕ → Pat → Walk Out → Value → Tried
try image locals t pat lowered v =
    let came = came_by image locals v lowered in
    cond (value_fits image v t) (cond (matches image pat v) (matched v (binds image pat root v) came) (unmatched v came)) (not_of_type v)

-- a row, with its answers computed from its image and its values
unfoldable pub judged : Judgement → Judgement
judged row =
    let image = row.image in
    let pat = tree image (pattern_count image - 1) in
    let lowered = lowering image row.locals pat (start image row.ty) (record { 0 = 0 }) None (local_place (record { 0 = 0 })) in
    record {
      image = image;
      holds = valid image;
      ty = row.ty;
      locals = row.locals;
      fit = fits image row.locals 0 row.ty pat;
      tried = map (λ (x : Tried). try image row.locals row.ty pat lowered (tried_value x)) row.tried;
    }
