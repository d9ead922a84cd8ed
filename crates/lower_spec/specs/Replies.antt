-- The answers of the code, as the definitions have them. Assumes nothing: these are definitions.
use Rattle.std.specs.Prelude.{Ok, Err}
use Rattle.std.proofs.Math.Option.{Option, none, some}
use Rattle.refusals.specs.Refusals.{Result, done, stopped}
use Rattle.place.specs.declared.LocalId.{LocalId}
use Rattle.mir.specs.declared.Counts.{Counts}
use Rattle.state.specs.State.{Body, State, decode}
use Rattle.lower_spec.specs.Results.{NewTemp}
use Rattle.lower_spec.specs.Results.{BoundLocal}
use Rattle.lower_spec.specs.Results.{Merged}

-- a temporary's
abbrev pub temp_result : NewTemp → Body → Result State
temp_result (Ok (c, l)) b = done (decode b c)
temp_result (Err e) b = stopped e

abbrev pub temp_counts : NewTemp → Option Counts
temp_counts (Ok (c, l)) = some c
temp_counts (Err e) = none

-- a merge's
abbrev pub merged_result : Merged → Body → Result State
merged_result (Ok (c, b)) body = done (decode body c)
merged_result (Err e) body = stopped e

abbrev pub merged_counts : Merged → Option Counts
merged_counts (Ok (c, b)) = some c
merged_counts (Err e) = none

-- a binding's local
abbrev pub bound_result : BoundLocal → Result LocalId
bound_result (Ok l) = done l
bound_result (Err e) = stopped e
