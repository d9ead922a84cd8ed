-- The errors of a call whose image or body is not taken. Assumes nothing: these are definitions.
use Rattle.body_calls_spec.specs.declared.Unopened.{Unopened}
use Rattle.body_calls_spec.specs.declared.CallError.{CallError}
use Rattle.body_calls_spec.specs.declared.PatternCallError.{PatternCallError}

-- of a call on a body
abbrev pub call_error : Unopened → CallError
call_error Unopened.BadCall = CallError.BadCall
call_error Unopened.BadImage = CallError.BadImage

-- of a call on a pattern or on parameters
abbrev pub pattern_call_error : Unopened → PatternCallError
pattern_call_error Unopened.BadCall = PatternCallError.BadCall
pattern_call_error Unopened.BadImage = PatternCallError.BadImage
