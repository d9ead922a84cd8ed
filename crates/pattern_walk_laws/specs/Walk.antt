-- What the functions of the walk ask for and promise. Assumes nothing: these are definitions.
use Rattle.std.specs.Prelude.{Err}
use Rattle.std.specs.Prelude.{◌≡◌, Bool, true, false, not, ◌&&◌, List, ℕ, ◌≤◌, eqb, length}
use Rattle.refusals.specs.declared.MirLowerError.{MirLowerError}
use Rattle.image.specs.declared.PatId.{PatId}
use Rattle.image.specs.declared.Tables.{Tables}
use Rattle.image.specs.declared.rows.PatRow.{PatRow}
use Rattle.image.specs.Tables.{Whole, binding_count}
use Rattle.image.specs.Kinds.{pat_kind}
use Rattle.image.specs.Rows.{pat_at}
use Rattle.image.specs.Tree.{tree}
use Rattle.image.specs.Valid.{valid}
use Rattle.place.specs.declared.Place.{Place}
use Rattle.mir.specs.declared.BasicBlockId.{BasicBlockId}
use Rattle.mir.specs.declared.Counts.{Counts}
use Rattle.state.specs.Promises.{Ready}
use Rattle.lower_spec.specs.Results.{OptBlock}
use Rattle.pattern_matching.specs.declared.MatchingMode.{MatchingMode}
use Rattle.pattern_matching.specs.Modes.{is_check}
use Rattle.pattern_matching.specs.Walking.{Ctx, Out, Walk}
use Rattle.pattern_matching.specs.Patterns.{pattern_match_inner}
use Rattle.pattern_walk_spec.specs.Results.{Lowered}
use Rattle.pattern_walk_spec.specs.Answers.{Begins, Placed, Leaves, Holds, Walked, Walks, JoinedBy}
use Rattle.pattern_parts.specs.Parts.{is_bind}
use Rattle.pattern_nodes.specs.Nodes.{kind_pattern}
use Rattle.state.specs.State.{Body}

-- what every function of the walk asks for: a valid image, a local's word for each binding, and a body, a block, an else and a place where it may go on
pub record Walkable (image : List ℕ) (tables : Tables) (bindings : List ℕ) (b : Body) (c : Counts) (current : BasicBlockId) (els : OptBlock) (place : Place) : Type 0 where
  pub image_valid : valid image ≡ true
  pub whole : Whole image tables
  pub locals_of_bindings : length bindings ≡ binding_count image
  pub ready : Ready b c
  pub begins : Begins c current els
  pub placed : Placed image b c place

-- What alternatives promise: the body t₀ before and t after, v₀ and v in the visits' table; what matched goes on at `join`.
pub record Joins (defined : Ctx → Walk Out) (c : Counts) (current join : BasicBlockId) (els : OptBlock) (t₀ : Body) (v₀ : List ℕ) (r : Lowered) (t : Body) (v : List ℕ) : Type 0 where
  pub answers : (visits : List ℕ) → Ready t₀ c → Holds v₀ visits → Walked defined c current t₀ visits r t v
  pub leaves : Ready t₀ c → Leaves c current t₀ r t
  pub onward : JoinedBy c join els r

-- what `pattern_match_inner` promises of the pattern p: the body t before, and v in the visits' table
abbrev pub Inner : List ℕ → List ℕ → PatId → MatchingMode → Counts → BasicBlockId → OptBlock → Place → Body → List ℕ → Lowered → Body → List ℕ → Type 0
Inner image bindings p mode c current els place t v =
    Walks (λ ctx. pattern_match_inner image bindings (tree image p.0) mode ctx current els place) c current els t v

-- in Check a Bind that has a subpattern does what the subpattern does
unfoldable pub passes_on : MatchingMode → PatRow → Bool
passes_on mode row = is_check mode && (not (eqb row.b 65535) && is_bind (pat_kind row.kind))

-- What entering the pattern p promises: in Check the walk goes down through Binds, each of which it visits, to the pattern q, and `to` is the place behind the derefs
-- of q. The lowering of q by its kind is then that of p; or there is no room for the derefs of q. v lies in the visits' table before, and v₁ after.
pub record Enters (image : List ℕ) (mode : MatchingMode) (p : PatId) (place : Place) (v : List ℕ) (room : Bool) (q : PatId) (to : Place) (v₁ : List ℕ) : Type 0 where
  pub below : q.0 ≤ p.0
  pub root : room ≡ true → (to.local ≡ place.local) × (place.len ≤ 16 → to.len ≤ 16)
  pub stops : room ≡ false → (bindings : List ℕ) (c : Counts) (current : BasicBlockId) (els : OptBlock) (t : Body) →
      Inner image bindings p mode c current els place t v (Err (MirLowerError.Limit, q)) t v₁
  pub goes : room ≡ true → (row : PatRow) → row ≡ pat_at image q.0 → (bindings : List ℕ) (c : Counts) (current : BasicBlockId) (els : OptBlock) (t : Body) {r : Lowered} {t₂ : Body} {v₂ : List ℕ} →
      Walks (λ ctx. kind_pattern (pat_kind row.kind) image bindings q.0 row mode ctx current els to) c current els t v₁ r t₂ v₂ →
      Inner image bindings p mode c current els place t v r t₂ v₂
