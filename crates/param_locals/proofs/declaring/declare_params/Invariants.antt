use Prim.Native.Nat.{◌*◌, ◌-◌}
use Rattle.params_spec.specs.Calls.{param_count}
use borrow.Author.Rules.{rules}
use Rattle.body_tables.specs.Layout.{body_of}
use Rattle.param_lists.proofs.Listing.{first_pattern, first_words}
use Rattle.param_locals.proofs.Making.{ParamsGoing, params_begin, params_end, param_stops, params_again}
use Rattle.param_locals.proofs.declaring.declare_params.Given as goal

abbrev pub invariant-loop-i : goal.invariant-loop-i
invariant-loop-i l = ParamsGoing l.image l.tables l.words l.initial.c l.initial.bindings (body_of l.initial.body) l.c l.bindings (body_of l.body) (2 * l.i) (param_count l.words - l.i)
