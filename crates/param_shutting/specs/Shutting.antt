-- An else that cannot be reached. Assumes nothing: these are definitions.
use Rattle.std.specs.Prelude.{Some, None, Ok, Err}
use Rattle.std.specs.Prelude.{◌*◌, ◌<◌}
use Rattle.row_tables.specs.Rows.{stored}
use Rattle.mir.specs.declared.blocks.Terminator.{Terminator}
use Rattle.mir.specs.Blocks.{term_row, block_width}
use Rattle.lower_spec.specs.Results.{OptBlock}
use Rattle.pattern_walk_spec.specs.Results.{Lowered}
use Rattle.state.specs.State.{Body}
use Rattle.body_tables.specs.Layout.{with_blocks}

-- the answer after its else was shut: it has none
abbrev pub shut_answer : Lowered → Lowered
shut_answer (Ok (c, then, els)) = Ok (c, then, None)
shut_answer (Err (e, p)) = Err (e, p)

-- the body: the else, if there is one, is Unreachable
abbrev pub shut_by : OptBlock → Body → Body
shut_by None b = b
shut_by (Some m) b = with_blocks b (stored b.blocks (block_width * m.0) (term_row Terminator.Unreachable))

abbrev pub shut_body : Lowered → Body → Body
shut_body (Ok (c, then, els)) b = shut_by els b
shut_body (Err (e, p)) b = b

-- the else has a row
abbrev pub HasRow : OptBlock → Type 0
HasRow None = Unit
HasRow (Some b) = b.0 < 512

abbrev pub Shuttable : Lowered → Type 0
Shuttable (Ok (c, then, els)) = HasRow els
Shuttable (Err (e, p)) = Unit
