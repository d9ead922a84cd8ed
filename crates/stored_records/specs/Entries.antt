-- What is read of a stored list. Assumes nothing: these are definitions.
use Rattle.std.specs.Prelude.{Some, None}
use Rattle.std.specs.Prelude.{ℕ, ◌≤◌}
use Rattle.stored_records.specs.Results.{Entry}
use Rattle.stored_records.specs.Results.{Words}

-- an image lies within a buffer of so many bytes
abbrev pub Fits : Entry → ℕ → Type 0
Fits (Some n) size = n ≤ size
Fits None size = Unit

-- the words that were read fit into so many
abbrev pub ReadWithin : Words → ℕ → Type 0
ReadWithin (Some n) size = n ≤ size
ReadWithin None size = Unit
