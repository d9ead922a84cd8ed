-- What the functions of this crate answer, as std's types. Assumes nothing: these are definitions.
use Rattle.std.specs.Prelude.{Option, Result}
use Rattle.body_calls_spec.specs.declared.CallError.{CallError}
use Rattle.body_calls_spec.specs.declared.Unopened.{Unopened}
use Rattle.image.specs.declared.Tables.{Tables}
use Rattle.mir.specs.declared.BasicBlockId.{BasicBlockId}
use Rattle.mir.specs.declared.Counts.{Counts}
use Rattle.place.specs.declared.LocalId.{LocalId}

-- the tables' places of an image that was looked at with a body, or which of the two was not taken
abbrev pub Opened : Type 0
Opened = Result Tables Unopened

-- the call `temp`: the counts, and the new local, or why it was refused
abbrev pub TempCall : Type 0
TempCall = Result (Counts × LocalId) CallError

-- the call `merge_blocks`: the counts, and the block where both go on, if there is one, or why it was refused
abbrev pub MergeCall : Type 0
MergeCall = Result (Counts × Option BasicBlockId) CallError

-- the calls that open or close a scope: the counts, or why it was refused
abbrev pub ScopeCall : Type 0
ScopeCall = Result Counts CallError

-- the calls by which locals leave: the counts, and the block that goes on, or why it was refused
abbrev pub DropCall : Type 0
DropCall = Result (Counts × BasicBlockId) CallError
