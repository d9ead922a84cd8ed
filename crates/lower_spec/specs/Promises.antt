-- The numbers of what is made, and blocks that there are. Assumes nothing: these are definitions.
use Rattle.std.specs.Prelude.{Some, None, Ok, Err}
use Rattle.std.specs.Prelude.{◌<◌, ◌≡◌}
use Rattle.place.specs.declared.LocalId.{LocalId}
use Rattle.mir.specs.declared.Counts.{Counts}
use Rattle.lower_spec.specs.Results.{NewTemp}
use Rattle.lower_spec.specs.Results.{Merged}
use Rattle.lower_spec.specs.Results.{OptBlock}
use Rattle.lower_spec.specs.Merging.{merged_at}

-- the number of a temporary that is made
abbrev pub Numbered : Counts → NewTemp → Type 0
Numbered c (Ok (c', l)) = ◌≡◌ {A = LocalId} l (record { 0 = c.locals })
Numbered c (Err e) = Unit

-- a block that there is, where there is one
abbrev pub Within : Counts → OptBlock → Type 0
Within c None = Unit
Within c (Some b) = b.0 < c.blocks

-- the block where two go on, the counts being c
abbrev pub MergedAt : Counts → OptBlock → OptBlock → Merged → Type 0
MergedAt c x y (Ok (c', m)) = m ≡ merged_at (record { 0 = c.blocks }) x y
MergedAt c x y (Err e) = Unit
