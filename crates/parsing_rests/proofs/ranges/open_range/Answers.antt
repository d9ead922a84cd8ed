use borrow.Author.Rules.{rules}
use mathlib.Core.Path.{refl, sym, ◌∙◌}
use native.Mathlib.Omega.{arith}
use Rattle.parsing_steps.proofs.Lasting.{fewer}
use Rattle.parsing_rests.proofs.Opens.{opens_none, opens_barred, opens_range}
use Rattle.parsing_rests.proofs.ranges.open_range.Goals as goal

pub returns-then-depth-eq0 : goal.returns-then-depth-eq0
returns-then-depth-eq0 c = opens_none _ _ _ _ _ _ c.if-depth-eq0.true

pub returns-then-bars_open : goal.returns-then-bars_open
returns-then-bars_open c = opens_barred _ _ _ _ _ _ _ _ _ _ (omega arith) c.node_at-f.ensures refl c.top_kind.ensures (sym c.bars_open.ensures ∙ c.if-bars_open.true)

pub shut_before-requires : goal.shut_before-requires
shut_before-requires c = (omega (arith, c.requires.0), fewer c.requires.1 (omega arith))

pub returns : goal.returns
returns c = opens_range _ _ _ _ _ _ (omega arith) c.node_at-f.ensures refl c.top_kind.ensures (sym c.bars_open.ensures ∙ c.if-bars_open.false) c.open_row.ensures c.shut_before.ensures
