use native.Mathlib.Omega.{arith}
use Rattle.parsing_rests.proofs.Opens.{shuts_before_lem, parts_wide, parts_raised}
use Rattle.parsing_rests.proofs.ranges.shut_before.Goals as goal

pub shut-h-requires : goal.shut-h-requires
shut-h-requires c = (omega (arith, c.requires.0), parts_wide c.requires.1)

pub behind_alt-requires : goal.behind_alt-requires
behind_alt-requires c = (omega (arith, c.shut-h.ensures.total, c.requires.0), parts_raised (c.shut-h.ensures.raises 30001 c.requires.1))

pub returns : goal.returns
returns c = shuts_before_lem c.shut-h.ensures c.behind_alt.ensures
