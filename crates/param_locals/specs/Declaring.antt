-- What the functions that make the locals promise: with the body at exit, their answers are what the definitions give, at whatever block a walk stands. Assumes
-- nothing: these are definitions.
use Rattle.std.specs.Prelude.{Some, None, Ok, Err}
use Rattle.std.specs.Prelude.{ℕ, ◌<◌, ◌≡◌, true, List, length}
use Rattle.image.specs.declared.Tables.{Tables}
use Rattle.image.specs.Tables.{Whole, binding_count}
use Rattle.image.specs.Valid.{valid}
use Rattle.refusals.specs.Refusals.{Result, done, stopped}
use Rattle.mir.specs.declared.Counts.{Counts}
use Rattle.state.specs.Results.{Stepped}
use Rattle.state.specs.State.{Body, decode}
use Rattle.state.specs.Promises.{Ready, Answers, stepped_counts}
use Rattle.params_spec.specs.Results.{SelfParam}
use Rattle.params_spec.specs.Params.{Declared}

-- what is asked for: a valid image, and a word for each of its bindings
pub record Declarable (image : List ℕ) (tables : Tables) (m : List ℕ) : Type 0 where
  pub image_valid : valid image ≡ true
  pub whole : Whole image tables
  pub bindings : length m ≡ binding_count image

-- self's binding is one of so many
abbrev pub SelfBound : ℕ → SelfParam → Type 0
SelfBound n None = Unit
SelfBound n (Some (b, ty)) = b.0 < n

-- what the tables, the counts and the bindings' locals stand for
abbrev pub declared_of : Body → Counts → List ℕ → Declared
declared_of b c bindings = record { state = decode b c; bindings = bindings }

-- the answer of a step, as the definitions have it; after a refusal the bindings' locals may be any
abbrev pub declared_result : Stepped → Body → List ℕ → Result Declared
declared_result (Ok c) b bindings = done (declared_of b c bindings)
declared_result (Err e) b bindings = stopped e

-- the bindings' locals m₀ and the body b₀ before, m and b after
pub record Declares (defined : Declared → Result Declared) (c : Counts) (m₀ : List ℕ) (b₀ : Body) (r : Stepped) (m : List ℕ) (b : Body) : Type 0 where
  pub answers : (current : ℕ) → Ready b₀ c → Answers b₀ c current b (stepped_counts r) (declared_result r b m) (defined (declared_of b₀ c m₀))
