-- What the functions that lower parameters ask for and promise. Assumes nothing: these are definitions.
use Rattle.std.specs.Prelude.{Ok, Err}
use Rattle.std.specs.Prelude.{ℕ, ◌+◌, ◌<◌, ◌≡◌, true, List, length}
use Rattle.image.specs.declared.Tables.{Tables}
use Rattle.image.specs.Tables.{Whole, binding_count}
use Rattle.image.specs.Valid.{valid}
use Rattle.mir.specs.declared.BasicBlockId.{BasicBlockId}
use Rattle.mir.specs.declared.Counts.{Counts}
use Rattle.state.specs.State.{Body}
use Rattle.state.specs.Promises.{Ready, Answers}
use Rattle.pattern_matching.specs.Walking.{Ctx, Walk, ok, refused, local_place}
use Rattle.pattern_walk_spec.specs.Results.{Lowered}
use Rattle.pattern_walk_spec.specs.Answers.{Placed, ctx_of, lowered_counts, Holds}
use Rattle.params_spec.specs.Results.{SelfParam}
use Rattle.params_spec.specs.Params.{ParamsOut}
use Rattle.params_spec.specs.Calls.{param_count, list_formed, self_named}

-- what the lowering of self and the parameters asks for: a valid image, a list and a self that are taken, a local's word for each binding, and a body and
-- a block where it may go on
pub record Startable (image : List ℕ) (tables : Tables) (words : List ℕ) (self : SelfParam) (bindings : List ℕ) (b : Body) (c : Counts) (current : BasicBlockId) : Type 0 where
  pub image_valid : valid image ≡ true
  pub whole : Whole image tables
  pub list : list_formed image words ≡ true
  pub receiver : self_named image self ≡ true
  pub locals_of_bindings : length bindings ≡ binding_count image
  pub ready : Ready b c
  pub start : current.0 < c.blocks

-- so many locals from l on are there, each with a type
abbrev pub LocalsPlaced : List ℕ → Body → Counts → ℕ → ℕ → Type 0
LocalsPlaced image b c l n = (i : ℕ) → i < n → Placed image b c (local_place (record { 0 = l + i }))

-- what the lowering of the parameters asks for, where the local of the first is l
pub record ParamsWalkable (image : List ℕ) (tables : Tables) (words bindings : List ℕ) (b : Body) (c : Counts) (current : BasicBlockId) (l : ℕ) : Type 0 where
  pub image_valid : valid image ≡ true
  pub whole : Whole image tables
  pub list : list_formed image words ≡ true
  pub locals_of_bindings : length bindings ≡ binding_count image
  pub ready : Ready b c
  pub start : current.0 < c.blocks
  pub placed : LocalsPlaced image b c l (param_count words)

-- an answer, with the tables and the bindings' locals at exit, as the definitions have it
abbrev pub params_walk : Lowered → Body → List ℕ → List ℕ → Walk ParamsOut
params_walk (Ok (c, then, els)) b visits bindings = ok (record { ctx = ctx_of b c visits; then = then; bindings = bindings })
params_walk (Err (e, p)) b visits bindings = refused e p.0

-- an answer that began with some counts of visits; the visits' table is v after, and the bindings' locals are m
pub record ParamsWalked (defined : Ctx → Walk ParamsOut) (c : Counts) (current : BasicBlockId) (b : Body) (visits : List ℕ) (r : Lowered) (b' : Body) (v m : List ℕ) : Type 0 where
  pub visits' : List ℕ
  pub holds : Holds v visits'
  pub answers : Answers b c current.0 b' (lowered_counts r) (params_walk r b' visits' m) (defined (ctx_of b c visits))

-- What the lowering of self and the parameters promises: the body b₀ before and b after, v₀ and v in the visits' table, and m in the bindings' after.
pub record WalksParams (defined : Ctx → Walk ParamsOut) (c : Counts) (current : BasicBlockId) (b₀ : Body) (v₀ : List ℕ) (r : Lowered) (b : Body) (v m : List ℕ) : Type 0 where
  pub answers : (visits : List ℕ) → Ready b₀ c → Holds v₀ visits → ParamsWalked defined c current b₀ visits r b v m
