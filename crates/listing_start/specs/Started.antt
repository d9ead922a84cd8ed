-- The listing program's start: "lowers the last pattern against local 0 of the lowest-numbered type that its derefs bring to its type .., bindings' locals
-- following in order". Assumes nothing: these are definitions.
use Rattle.std.specs.Prelude.{ℕ, zero, suc, ◌+◌, ◌-◌, cond, List, [], ◌∷◌, map}
use Rattle.std.proofs.Math.Option.{Option, none, some}
use Rattle.row_tables.specs.Rows.{zeros}
use Rattle.image.specs.Tables.{type_count, pattern_count, binding_count}
use Rattle.image.specs.Rows.{pat_at}
use Rattle.image.specs.Lists.{up_from}
use Rattle.image.specs.Types.{binding_of}
use Rattle.state.specs.State.{State}
use Rattle.meaning.specs.Fit.{behind, is_type}

-- the number of the last pattern
abbrev pub last_pattern : List ℕ → ℕ
last_pattern image = pattern_count image - 1

-- the first of so many types, from t on, that so many derefs bring to the type ty
unfoldable pub lowest_type : List ℕ → ℕ → ℕ → ℕ → ℕ → Option ℕ
lowest_type image derefs ty t zero = none
lowest_type image derefs ty t (suc left) = cond (is_type (behind image derefs (some t)) ty) (some t) (lowest_type image derefs ty (t + 1) left)

-- "the lowest-numbered type that its derefs bring to its type"
unfoldable pub start_type : List ℕ → Option ℕ
start_type image = lowest_type image (pat_at image (last_pattern image)).derefs (pat_at image (last_pattern image)).ty 0 (type_count image)

-- block 0 open, local 0 of the type t, the bindings' locals behind it, one scope open
unfoldable pub start_state : List ℕ → ℕ → State
start_state image t =
    record {
      blocks = zeros 12 ∷ [];
      statements = [];
      locals = t ∷ map (λ b. (binding_of image b).ty) (up_from 0 (binding_count image));
      scopes = 0 ∷ [];
      entries = [];
    }

-- the locals of the bindings, in order
abbrev pub binding_locals : List ℕ → List ℕ
binding_locals image = up_from 1 (binding_count image)
