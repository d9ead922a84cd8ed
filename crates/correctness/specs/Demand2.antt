-- Demand 2, as it is proved: "for a pattern that fits its type, .. the blocks lead a value to the then block when the Reference says it matches, with the bindings
-- it says, and otherwise to the else block". Assumes nothing: these are definitions.
use Rattle.std.specs.Prelude.{ℕ, ◌≤◌, ◌<◌, ◌≡◌, true, cond, List, [], ◌∷◌, eqb, length, get_or, drop}
use Rattle.image.specs.Tables.{type_count}
use Rattle.image.specs.Valid.{valid}
use Rattle.image.specs.Tree.{Pat}
use Rattle.place.specs.declared.Place.{Place}
use Rattle.place.specs.declared.place_ty.PlaceTy.{PlaceTy}
use Rattle.place.specs.Places.{projection_of}
use Rattle.mir.specs.declared.BasicBlockId.{BasicBlockId}
use Rattle.lower_spec.specs.Results.{OptBlock}
use Rattle.views.specs.Views.{Path, Line, Mir}
use Rattle.pattern_matching.specs.Walking.{Ctx}
use Rattle.pattern_matching.specs.Variants.{place_ty}
use Rattle.growth.specs.Opened.{Starts}
use Rattle.meaning.specs.Values.{Value, value_fits}
use Rattle.meaning.specs.Running.{Held, Env, Run}
use Rattle.meaning.specs.Executing.{Position, Ending, runs}
use Rattle.meaning.specs.Matching.{Bound}
use Rattle.meaning.specs.Fit.{fits}

-- a place of the lowering, as MIR has it
abbrev pub place_path : Place → Path
place_path place = record { local = place.local.0; elems = projection_of place }

-- what a call of `pattern_match` is handed that number 2 does not refuse, on a place of the type t
pub record Handed (image bindings : List ℕ) (ctx : Ctx) (current : BasicBlockId) (els : OptBlock) (place : Place) (t : ℕ) : Type 0 where
  pub starts : Starts ctx current els
  pub elements : length place.elems ≡ 16
  pub within : place.len ≤ 16
  pub root : place.local.0 < length ctx.state.locals
  pub placed : place_ty image ctx.state place ≡ PlaceTy.Ty t
  -- the type is one of the table
  pub named : t < type_count image

-- pattern and value fit: a valid image, a pattern that fits, and a value of the place's type
pub record Fitting (image bindings : List ℕ) (ctx : Ctx) (place : Place) (t : ℕ) (pat : Pat) (v : Value) : Type 0 where
  pub image_valid : valid image ≡ true
  -- an image is bytes
  pub image_bytes : (i : ℕ) → get_or image i 0 < 256
  pub pattern : fits image bindings place.local.0 t pat ≡ true
  pub value : value_fits image v t ≡ true

-- what a local holds after some bindings, if it held `held` before: what is bound to it last
unfoldable pub held_after : List ℕ → List Bound → ℕ → Held → Held
held_after bindings [] l held = held
held_after bindings (b ∷ bs) l held = held_after bindings bs l (cond (eqb l (get_or bindings b.binding 65535)) b.what held)

-- b stands nowhere in the list
abbrev pub NoneIs : ℕ → List ℕ → Type 0
NoneIs b [] = Unit
NoneIs b (x ∷ xs) = (b ≡ x → ⊥) × NoneIs b xs

-- no block stands in the list twice
abbrev pub Distinct : List ℕ → Type 0
Distinct [] = Unit
Distinct (x ∷ xs) = NoneIs x xs × Distinct xs

-- a run in the body M on a value, from the block current behind the lines that there were in ctx, comes to the block b with `lines` still to be looked at, and
-- enters no block twice
pub record Stops (image : List ℕ) (M : Mir) (place : Place) (v : Value) (ctx : Ctx) (current : BasicBlockId) (env : Env) (b : ℕ) (lines : List Line) : Type 0 where
  -- what the locals hold then
  pub env' : Env
  pub entered : List ℕ
  pub run : Run (record { image = image; root = place_path place; here = v }) M current.0 (drop (length ctx.state.statements) M.lines) env b lines env' entered
  pub once : Distinct (current.0 ∷ entered)

-- such a run, after which every local handed in holds what the bindings say or what it held
pub record Comes (image bindings : List ℕ) (M : Mir) (place : Place) (v : Value) (ctx : Ctx) (current : BasicBlockId) (env : Env) (bs : List Bound) (b : ℕ) (lines : List Line) : Type 0 where
  pub stops : Stops image M place v ctx current env b lines
  pub locals : (l : ℕ) → l < length ctx.state.locals → stops.env' l ≡ held_after bindings bs l (env l)

-- The run as a function, in the body m that the call hands out, ends where a run as a relation comes to, with as many steps as it takes: `at` is `at_then`, at the
-- end of then, or `at_else`, on reaching the else.
pub record Ends (image : List ℕ) (m : Mir) (place : Place) (v : Value) (ctx : Ctx) (current : BasicBlockId) (env : Env) (then : BasicBlockId) (else : OptBlock) (b : ℕ) (lines : List Line)
    (stops : Stops image m place v ctx current env b lines) (at : Position → Ending) : Type 0 where
  pub enough : ℕ
  pub ends : runs (record { image = image; root = place_path place; here = v }) m then.0 else enough
      (record { block = current.0; lines = drop (length ctx.state.statements) m.lines; env = env; entered = [] })
      ≡ at (record { block = b; lines = lines; env = stops.env'; entered = stops.entered })
