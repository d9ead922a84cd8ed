-- Locals that leave, the scopes staying open, as if one were closed. Assumes nothing.
use Rattle.std.specs.Prelude.{Ok, Err}
use Rattle.refusals.specs.Refusals.{Result}
use Rattle.mir.specs.declared.BasicBlockId.{BasicBlockId}
use Rattle.mir.specs.declared.Counts.{Counts}
use Rattle.state.specs.State.{Body, State}
use Rattle.drop_scopes_spec.specs.Results.{AtBlock}
use Rattle.drop_scopes_spec.specs.Dropping.{At}
use Rattle.drop_scopes_spec.specs.Promises.{Pops}
use Rattle.body_leaving.specs.Promises.{Leaves}

pub stays_open : {defined : State → Result At} {c : Counts} {block : BasicBlockId} {b b₂ : Body} (r : AtBlock) → Leaves defined c block b r b₂ → Pops defined c block b r b₂
stays_open (Ok (c', k)) D = record { says = λ R. (D.answers R).says; goes = λ R. (D.answers R).goes.0; kept = λ R refusal. (D.answers R).kept }
stays_open (Err err) D = record { says = λ R. (D.answers R).says; goes = λ R. tt; kept = λ R refusal. (D.answers R).kept }
