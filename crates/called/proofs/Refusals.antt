-- Why a call of `pattern_match` on a pattern that fits may be refused. Assumes nothing.
use Rattle.std.specs.Prelude.{Err}
use mathlib.Core.Path.{◌≡◌}
use mathlib.Core.Logic.{◌⊎◌}
use Rattle.refusals.specs.declared.MirLowerError.{MirLowerError}
use Rattle.refusals.specs.Refusals.{number_of}
use Rattle.image.specs.declared.PatId.{PatId}
use Rattle.fitted.proofs.Refusing as refusing
use Rattle.called.specs.Call.{Call, Refused, pattern_of, start_of}
use Rattle.called.specs.Runs.{FittingPattern}
use Rattle.called.proofs.Walked.{walk_of, taken, stopping}
use Rattle.called.proofs.Given.{given}
use Rattle.body_calls_spec.specs.declared.PatternCallError.{PatternCallError}

-- for a limit, or for want of a scope
pub fit_refused : {call : Call} → FittingPattern call → (e : MirLowerError) (p : PatId) → Refused call e p → (number_of e ≡ 11) ⊎ (number_of e ≡ 14)
fit_refused {call} fit e p refusal =
    let (T, W) = taken call (Err (PatternCallError.Refused e p)) refusal.body refusal.visits tt refusal.promised in
    let G = given call T in
    refusing.fit_refused call.image call.bindings (pattern_of call) (start_of call) call.start call.else call.place fit.type e p.0 G.image_valid fit.of_type.named fit.of_type.typed
    G.root call.elements fit.fitting (stopping (walk_of call) e p W)
