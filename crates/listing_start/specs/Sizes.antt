-- What the code's functions ask for and answer. Assumes nothing: these are definitions.
use Rattle.std.specs.Prelude.{Some, None}
use Rattle.std.specs.Prelude.{ℕ, ◌<◌, List, map}
use Rattle.std.proofs.Math.Option.{Option, none, some}
use Rattle.row_tables.specs.Rows.{stored}
use Rattle.image.specs.Tables.{type_count, binding_count}
use Rattle.image.specs.Lists.{up_from}
use Rattle.image.specs.Types.{binding_of}
use Rattle.listing_start.specs.Results.{StartType}

-- the type of local 0, as the definitions have it
abbrev pub start_type_of : StartType → Option ℕ
start_type_of None = none
start_type_of (Some t) = some t

-- it is one of the table
abbrev pub IsType : List ℕ → StartType → Type 0
IsType image None = Unit
IsType image (Some t) = t < type_count image

-- the locals from 1 on have the types of the bindings
unfoldable pub locals_filled : List ℕ → List ℕ → List ℕ
locals_filled image locals = stored locals 1 (map (λ b. (binding_of image b).ty) (up_from 0 (binding_count image)))
