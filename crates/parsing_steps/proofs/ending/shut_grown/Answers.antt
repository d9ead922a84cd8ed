use borrow.Author.Rules.{rules}
use native.Mathlib.Omega.{arith}
use Rattle.parsing_steps.proofs.Passing.{parts_fit_lem}
use Rattle.parsing_steps.proofs.Lasting.{fewer}
use Rattle.parsing_steps.proofs.Enders.{shuts_none, shuts_one}
use Rattle.parsing_steps.proofs.ending.shut_grown.Goals as goal

pub returns-then-depth-eq0 : goal.returns-then-depth-eq0
returns-then-depth-eq0 c = shuts_none _ _ _ _ c.if-depth-eq0.true

pub grown_row-requires : goal.grown_row-requires
grown_row-requires c = parts_fit_lem _ c.requires.1 (omega arith) c.node_at-f.ensures

pub shut-requires : goal.shut-requires
shut-requires c = (omega (arith, c.requires.0), fewer c.requires.1 (omega arith))

pub returns : goal.returns
returns c = shuts_one (omega arith) c.node_at-f.ensures c.grown_row.ensures c.shut.ensures
