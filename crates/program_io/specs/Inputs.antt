-- What is read of standard input. Assumes nothing: these are definitions.
use Rattle.std.specs.Prelude.{Some, None}
use Rattle.std.specs.Prelude.{ℕ, ◌≤◌}
use Rattle.program_io.specs.Results.{Input}

-- the bytes that were read lie within a buffer of so many
abbrev pub InputFits : Input → ℕ → Type 0
InputFits (Some n) size = n ≤ size
InputFits None size = Unit
