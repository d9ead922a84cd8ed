-- What the public calls on patterns and on parameters have in common: a walk as a call's step, and the visits' table. Assumes nothing: these are definitions.
use Rattle.std.specs.Prelude.{ℕ, ◌≡◌, List, map}
use Rattle.row_tables.specs.Rows.{zeros}
use Rattle.mir.specs.declared.Counts.{Counts}
use Rattle.state.specs.State.{Body}
use Rattle.calls_spec.specs.Calls.{Called, refused_at, accepted, leaves}
use Rattle.calls_spec.specs.Promises.{Way, Gives}
use Rattle.pattern_matching.specs.Walking.{Ctx, Walk, ok, refused}
use Rattle.pattern_walk_spec.specs.Answers.{ctx_of, visit_word}

-- a walk, as a call's step
abbrev pub by_walk : {A : Type 0} → Walk A → Called A
by_walk (ok a) = accepted a
by_walk (refused e p) = refused_at e p

-- a walk starts from the body that is handed in, with no pattern visited
abbrev pub start_ctx : Body → Counts → Ctx
start_ctx b c = ctx_of b c (zeros 512)

-- the visits' table after a call: how often each pattern was visited, by the context that an accepted walk leaves, or zeros after a refusal of the walk
abbrev pub visits_after : {A : Type 0} → (A → Ctx) → List ℕ → Called A → List ℕ
visits_after ctx v = leaves v (zeros 512) (λ a. map visit_word (ctx a).visits)

-- a call's promise, with the visits' table: v before and v' after
pub record Visits {A R : Type 0} (way : Way A R) (ctx : A → Ctx) (b : Body) (v : List ℕ) (c : Counts) (defined : Called A) (r : R) (b' : Body) (v' : List ℕ) : Type 0 where
  pub gives : Gives way b c defined r b'
  pub visits : v' ≡ visits_after ctx v defined
