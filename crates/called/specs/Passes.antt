-- The two passes of a call of `pattern_match`: the pattern is walked in Check, and then in Bind. Assumes nothing: these are definitions.
use Rattle.std.specs.Prelude.{◌≡◌}
use Rattle.mir.specs.declared.BasicBlockId.{BasicBlockId}
use Rattle.lower_spec.specs.Results.{OptBlock}
use Rattle.pattern_matching.specs.declared.MatchingMode.{MatchingMode}
use Rattle.pattern_matching.specs.Walking.{Ctx, Out, Walk, ok}
use Rattle.pattern_matching.specs.Patterns.{pattern_match_inner}
use Rattle.called.specs.Call.{Call, HandedOut, pattern_of, start_of, result_of}

-- a pass of the call, in a mode: from a context, a block, and an else or none
abbrev pub pass : Call → MatchingMode → Ctx → BasicBlockId → OptBlock → Walk Out
pass call mode ctx current else = pattern_match_inner call.image call.bindings (pattern_of call) mode ctx current else call.place

-- the first pass, from what the call is handed; the second, from what the first gave, gives what is handed out; and it "has kept the first's else"
pub record TwoPasses (call : Call) (out : HandedOut) : Type 0 where
  pub first : Out
  pub checked : pass call MatchingMode.Check (start_of call) call.start call.else ≡ ok first
  pub bound : pass call MatchingMode.Bind first.ctx first.then first.else ≡ ok (result_of out)
  pub else_kept : out.else ≡ first.else
