use native.Mathlib.Omega.{arith}
use Rattle.parsing_moves.proofs.Deciding.{over_equal, over_other}
use Rattle.parsing_moves.proofs.starts.over_halves.Goals as goal

pub returns-then-high-eq9223372036854775808 : goal.returns-then-high-eq9223372036854775808
returns-then-high-eq9223372036854775808 c = over_equal _ _ c.if-high-eq9223372036854775808.true

pub returns : goal.returns
returns c = over_other _ _ c.if-high-eq9223372036854775808.false (omega arith)
