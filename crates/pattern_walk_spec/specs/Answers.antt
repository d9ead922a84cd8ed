-- What the functions of a walk promise: with the tables at exit, an answer is what the definition gives. Assumes nothing: these are definitions.
use Rattle.std.specs.Prelude.{Some, None, Ok, Err}
use Rattle.std.specs.Prelude.{ℕ, ◌≤◌, ◌<◌, ◌≡◌, ◌⊎◌, cond, List, map, ltb, get_or}
use Rattle.std.proofs.Math.Option.{Option, none, some}
use Rattle.place.specs.declared.Place.{Place}
use Rattle.place.specs.PlaceTypes.{Named}
use Rattle.mir.specs.declared.BasicBlockId.{BasicBlockId}
use Rattle.mir.specs.declared.Counts.{Counts}
use Rattle.mir.specs.Locals.{local_ty}
use Rattle.state.specs.State.{Body, decode}
use Rattle.state.specs.Promises.{Ready, Kept, Own, Goes, Answers}
use Rattle.lower_spec.specs.Results.{OptBlock}
use Rattle.lower_spec.specs.Promises.{Within}
use Rattle.pattern_matching.specs.Walking.{Ctx, Out, Walk, ok, refused}
use Rattle.pattern_walk_spec.specs.Results.{Lowered}

-- where a walk starts: at a block that there is, with an else that there is, or none
pub record Begins (c : Counts) (current : BasicBlockId) (els : OptBlock) : Type 0 where
  pub start : current.0 < c.blocks
  pub else : Within c els

-- the place that it is about: its root is there and has a type, and it has at most 16 elements
pub record Placed (image : List ℕ) (b : Body) (c : Counts) (place : Place) : Type 0 where
  pub root : place.local.0 < c.locals
  pub named : Named image (local_ty (get_or b.locals place.local.0 0))
  pub within : place.len ≤ 16

-- what the walk carries along
abbrev pub ctx_of : Body → Counts → List ℕ → Ctx
ctx_of b c visits = record { state = decode b c; visits = visits }

-- an answer, with the tables at exit, as the definitions have it
abbrev pub walk_of : Lowered → Body → List ℕ → Walk Out
walk_of (Ok (c, then, els)) b visits = ok (record { ctx = ctx_of b c visits; then = then; else = els })
walk_of (Err (e, p)) b visits = refused e p.0

abbrev pub lowered_counts : Lowered → Option Counts
lowered_counts (Ok (c, then, els)) = some c
lowered_counts (Err (e, p)) = none

-- the else that was handed in, or a new block, where there is one
abbrev pub OwnElse : Counts → OptBlock → OptBlock → Type 0
OwnElse c els None = Unit
OwnElse c els (Some b) = (els ≡ Some b) ⊎ (c.blocks ≤ b.0)

-- where it goes on: at the block where it started, or at a new one
pub record Onward (c : Counts) (current : BasicBlockId) (els : OptBlock) (c' : Counts) (then : BasicBlockId) (els' : OptBlock) : Type 0 where
  pub own : Own c current.0 then.0
  pub own_else : OwnElse c els els'
  pub begins : Begins c' then els'

abbrev pub OnwardBy : Counts → BasicBlockId → OptBlock → Lowered → Type 0
OnwardBy c current els (Ok (c', then, els')) = Onward c current els c' then els'
OnwardBy c current els (Err (e, p)) = Unit

-- What a step of the walk that visits no pattern promises: the body b₀ before, and b after.
pub record Lowers (defined : Ctx → Walk Out) (c : Counts) (current : BasicBlockId) (els : OptBlock) (b₀ : Body) (r : Lowered) (b : Body) : Type 0 where
  pub answers : (visits : List ℕ) → Ready b₀ c → Answers b₀ c current.0 b (lowered_counts r) (walk_of r b visits) (defined (ctx_of b₀ c visits))
  pub onward : OnwardBy c current els r

-- what a walk leaves in the body, whatever was visited: where it goes on it is ready, and what lay below the counts is as it was, but for the terminator of one
-- block
abbrev pub Leaves : Counts → BasicBlockId → Body → Lowered → Body → Type 0
Leaves c current b₀ r b = Goes c (lowered_counts r) b × Kept c current.0 b₀ b

-- a count of visits as a word of the lent table, which holds at most 65535 (no pattern of a valid image is visited so often)
unfoldable pub visit_word : ℕ → ℕ
visit_word n = cond (ltb n 65535) n 65535

-- the lent table holds the counts of visits
abbrev pub Holds : List ℕ → List ℕ → Type 0
Holds table visits = table ≡ map visit_word visits

-- an answer of a walk that began with some counts of visits; the table is v after
pub record Walked (defined : Ctx → Walk Out) (c : Counts) (current : BasicBlockId) (b : Body) (visits : List ℕ) (r : Lowered) (b' : Body) (v : List ℕ) : Type 0 where
  pub visits' : List ℕ
  pub holds : Holds v visits'
  pub answers : Answers b c current.0 b' (lowered_counts r) (walk_of r b' visits') (defined (ctx_of b c visits))

-- What a function of the walk promises: the body b₀ before and b after, v₀ and v in the visits' table.
pub record Walks (defined : Ctx → Walk Out) (c : Counts) (current : BasicBlockId) (els : OptBlock) (b₀ : Body) (v₀ : List ℕ) (r : Lowered) (b : Body) (v : List ℕ) : Type 0 where
  pub answers : (visits : List ℕ) → Ready b₀ c → Holds v₀ visits → Walked defined c current b₀ visits r b v
  pub leaves : Ready b₀ c → Leaves c current b₀ r b
  pub onward : OnwardBy c current els r

-- where alternatives go on: at `join`
pub record Joined (c : Counts) (join : BasicBlockId) (els : OptBlock) (c' : Counts) (then : BasicBlockId) (els' : OptBlock) : Type 0 where
  pub at : then ≡ join
  pub own_else : OwnElse c els els'
  pub begins : Begins c' then els'

abbrev pub JoinedBy : Counts → BasicBlockId → OptBlock → Lowered → Type 0
JoinedBy c join els (Ok (c', then, els')) = Joined c join els c' then els'
JoinedBy c join els (Err (e, p)) = Unit

-- what the end of alternatives promises, from the block where the last did not match: the body b₀ before, and b after
pub record Ends (defined : Ctx → Walk Out) (c : Counts) (left join : BasicBlockId) (els : OptBlock) (b₀ : Body) (r : Lowered) (b : Body) : Type 0 where
  pub answers : (visits : List ℕ) → Ready b₀ c → Answers b₀ c left.0 b (lowered_counts r) (walk_of r b visits) (defined (ctx_of b₀ c visits))
  pub onward : JoinedBy c join els r
