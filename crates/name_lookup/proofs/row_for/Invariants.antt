use Rattle.name_tables.specs.Names.{is_named, row_count}
use Rattle.name_tables.specs.Tested.{use_of}
use Rattle.name_tables.proofs.Found.{Trying}
use Rattle.name_lookup.proofs.row_for.Given as goal

abbrev pub invariant-loop-i : goal.invariant-loop-i
invariant-loop-i l = Trying (is_named l.names (use_of l.wanted) l.name) (row_count l.names) l.i
